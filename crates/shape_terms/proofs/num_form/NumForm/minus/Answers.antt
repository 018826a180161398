use Rattle.std.proofs.Common.{ap, sym, ◌∙◌, Ok}
use Rattle.std.proofs.lemmas.Result.{IfOk-weaker}
use Rattle.std.proofs.Math.IntN.{ℤ}
use Rattle.seuss_program.specs.Values.{Evaluated}
use Rattle.seuss_program.specs.declared.state.Value.TheVariants.{Int}
use Rattle.shape_terms.specs.Numbers.{number}
use Rattle.shape_terms.proofs.NumberLemmas.{number_minus}
use Rattle.shape_terms.proofs.num_form.NumForm.minus.Goals as goal

pub returns-clause-value : goal.returns-clause-value
returns-clause-value c = IfOk-weaker c.with_times.result _ _ (λ form same p.
    let said : ℤ → Evaluated = λ z. Ok (Int z) in
    ap said (number_minus c.args.self.now c.args.other.now p ∙ ap (λ f. number f p) (sym same)))
    c.with_times.ensures
