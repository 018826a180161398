use Rattle.std.proofs.Common.{rules, ℤ, List, [], ◌∷◌, ◌++◌, ◌+◌, pos, ap, sym, ◌∙◌}
use Rattle.std.specs.Int.{w64}
use Rattle.std.specs.Int.RustNames.{FitsSigned}
use Rattle.std.proofs.lemmas.Int.{to_z-of_z}
use Rattle.demo_texts.proofs.Ranges.{map_range_more}
use Rattle.demo_texts.proofs.input.demo_input.Goals as goal

-- one more number
pub loop-n-preserved : goal.loop-n-preserved
loop-n-preserved c =
    let fits : FitsSigned w64 c.number.result = search rules in
    c.in_ok-push.ensures.ok ∙ ap (λ (z : ℤ). c.loop-n.numbers ++ z ∷ []) (to_z-of_z w64 c.number.result fits)
    ∙ ap (λ (z : ℤ). c.loop-n.numbers ++ z ∷ []) c.number.ensures
    ∙ ap (λ (zs : List ℤ). zs ++ pos (c.loop-n.n + 1) ∷ []) c.loop-n.invariant
    ∙ sym (map_range_more (λ n. pos (n + 1)) c.loop-n.n)
