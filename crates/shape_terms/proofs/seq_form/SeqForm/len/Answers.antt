use Rattle.std.proofs.Common.{ap, sym, ◌∙◌, Ok}
use Rattle.std.proofs.lemmas.Result.{IfOk-weaker}
use Rattle.std.proofs.Math.IntN.{ℤ}
use Rattle.seuss_program.specs.Values.{Evaluated}
use Rattle.seuss_program.specs.declared.state.Value.TheVariants.{Int}
use Rattle.shape_terms.specs.Numbers.{number}
use Rattle.shape_terms.proofs.LengthLemmas.{len_means}
use Rattle.shape_terms.proofs.seq_form.SeqForm.len.Goals as goal

pub returns-clause-value : goal.returns-clause-value
returns-clause-value c = IfOk-weaker c.len.result _ _ (λ form same p.
    let said : ℤ → Evaluated = λ z. Ok (Int z) in
    ap said (len_means c.args.self.now p ∙ ap (λ f. number f p) (sym same))) c.len.ensures
