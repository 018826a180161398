use Rattle.std.proofs.Common.{◌∙◌, sym}
use Rattle.shape_terms.proofs.PartLemmas.{other_at_rest}
use Rattle.shape_terms.proofs.Wraps.{of_bits}
use Rattle.shape_terms.proofs.num_form.NumForm.other_than.Goals as goal

pub returns : goal.returns
returns c = other_at_rest c.args.self.now c.args.rest _ (λ e. c.other.ensures
    (sym (of_bits c.other.result (record { sfits = c.other.type_inv })) ∙ e ∙ sym c.value_at-there.ensures
    ∙ sym (of_bits c.value_at-there.result (record { sfits = c.value_at-there.type_inv }))))
