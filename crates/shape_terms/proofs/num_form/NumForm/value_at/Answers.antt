use Rattle.std.proofs.Common.{◌∙◌}
use Rattle.shape_terms.proofs.ApartLemmas.{number_at_point}
use Rattle.shape_terms.proofs.Wraps.{of_bits, sums_of}
use Rattle.shape_terms.proofs.num_form.NumForm.value_at.Goals as goal

pub returns : goal.returns
returns c = of_bits c.sum.result (record { sfits = c.sum.type_inv }) ∙ c.sum.ensures
    ∙ sums_of _ _ _ _
    (of_bits c.constant.result (record { sfits = c.constant.type_inv }) ∙ c.constant.ensures.value)
    (of_bits c.part_at.result (record { sfits = c.part_at.type_inv }) ∙ c.part_at.ensures)
    ∙ number_at_point c.args.self.now c.args.at.now
