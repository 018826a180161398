use Rattle.std.proofs.Common.{ℕ, List, ◌∷◌, ◌++◌, ◌∙◌, ap, w64, rules, FitsSigned}
use Rattle.std.proofs.Math.Facts.{to_z-of_z}
use Rattle.std.specs.Fmt.{signed_decimal}
use Rattle.report_text.proofs.WritingLemmas.{item_written}
use Rattle.run_records.proofs.head.push_input.Goals as goal

-- one more number
pub loop-at-preserved : goal.loop-at-preserved
loop-at-preserved c =
    let small : FitsSigned w64 c.number_at.result = search rules in
    let added : List ℕ → List ℕ = λ ys. c.loop-at.text ++ ys in
    item_written (λ z. 32 ∷ signed_decimal z) c.args.input.now c.loop-at.at c.number_at.result
    c.loop-at.text c.push_next.new.text _ c.number_at.ensures
    (c.in_ok-push_next.ensures ∙ ap (λ z. added (32 ∷ signed_decimal z)) (to_z-of_z small))
    c.loop-at.invariant
