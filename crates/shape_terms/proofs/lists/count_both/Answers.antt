use Rattle.std.proofs.Common.{◌∙◌}
use Rattle.std.proofs.lemmas.Int.{to_z-of_z}
use Rattle.std.specs.Int.{w64}
use Rattle.shape_terms.proofs.Wraps.{counts_added}
use Rattle.shape_terms.proofs.lists.count_both.Goals as goal

pub returns : goal.returns
returns c = to_z-of_z w64 c.sum.result (record { sfits = c.sum.type_inv }) ∙ c.sum.ensures
    ∙ counts_added c.args.many c.args.others _ _
    (to_z-of_z w64 c.count.result (record { sfits = c.count.type_inv }) ∙ c.count.ensures)
    (to_z-of_z w64 c.count-2.result (record { sfits = c.count-2.type_inv }) ∙ c.count-2.ensures)
