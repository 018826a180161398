use Rattle.std.proofs.Common.{◌≡◌, ℕ, ◌+◌, zero, suc, ◌∷◌, [], ◌++◌, List, refl, ap, ◌∙◌, append_assoc}
use Rattle.std.proofs.Common.{add-one}
use Rattle.seuss_print.specs.Items.{text_of, indented}
use Rattle.seuss_print.proofs.statements.push_indent.Goals as goal

abbrev two_spaces : List ℕ
two_spaces = 32 ∷ 32 ∷ []

same_spaces : (n : ℕ) → text_of (indented n) ++ two_spaces ≡ two_spaces ++ text_of (indented n)
same_spaces zero = refl
same_spaces (suc n) = ap (λ (bytes : List ℕ). two_spaces ++ bytes) (same_spaces n)

one_more : (n : ℕ) → text_of (indented n) ++ two_spaces ≡ text_of (indented (n + 1))
one_more n = rw add-one (same_spaces n)

pub loop-preserved : goal.loop-preserved
loop-preserved c =
    c.in_ok-push_all.ensures.ok
    ∙ (ap (λ bytes. bytes ++ two_spaces) c.loop.invariant
    ∙ (append_assoc c.args.text.now (text_of (indented c.loop.counter)) two_spaces
    ∙ ap (λ bytes. c.args.text.now ++ bytes) (one_more c.loop.counter)))
