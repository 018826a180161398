use Rattle.std.proofs.Common.{◌∙◌, ap, sym, Ok, []}
use Rattle.std.proofs.Math.IntN.{ℤ, pos}
use Rattle.seuss_program.specs.Values.{Evaluated}
use Rattle.seuss_program.specs.declared.state.Value.TheVariants.{Int}
use Rattle.shape_terms.specs.Numbers.{number}
use Rattle.shape_terms.proofs.LengthLemmas.{number_of_rest_len}
use Rattle.shape_terms.proofs.num_form.NumForm.rest_len.Goals as goal

pub returns-clause-value : goal.returns-clause-value
returns-clause-value c = λ p.
    let said : ℤ → Evaluated = λ z. Ok (Int z) in
    ap said (sym
    (ap (λ row. number (record { constant = pos 0; atoms = row; lengths = c.in_ok-unit.field-0 }) p)
    c.new.ensures
    ∙ ap (λ row. number (record { constant = pos 0; atoms = []; lengths = row }) p) c.in_ok-unit.ensures
    ∙ number_of_rest_len c.args.rest p))
