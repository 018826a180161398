-- The procedures that wait, of which the last one goes on.
use Rattle.std.proofs.Common.{◌≡◌, ◌-◌, ℤ, Bool, List, [], ◌∷◌, ◌++◌, length, take, Option, Some, refl, ap}
use Rattle.std.proofs.Common.{◌∙◌, arith, length-append}
use Rattle.std.specs.Prelude.{slice_get}
use Rattle.method_code.specs.declared.activation.Waiting.{Waiting}
use Rattle.method_code.specs.declared.activation.Activation.{Activation}
use Rattle.method_code.specs.Chains.{last_of, all_but_last, accepted, rejected, back_in, after_accepted}
use Rattle.method_code.specs.Chains.{after_rejected}

-- the last item
get-snoc : {X : Type 0} (xs : List X) (x : X) → slice_get (xs ++ x ∷ []) (length xs) ≡ Some x
get-snoc [] x = refl
get-snoc (y ∷ xs) x = get-snoc xs x

-- the items before the last one
take-snoc : {X : Type 0} (xs : List X) (x : X) → take (length xs) (xs ++ x ∷ []) ≡ xs
take-snoc [] x = refl
take-snoc (y ∷ xs) x = ap (λ ys. y ∷ ys) (take-snoc xs x)

-- how many those are
one-less : {X : Type 0} (xs : List X) (x : X) → length (xs ++ x ∷ []) - 1 ≡ length xs
one-less xs x = omega (arith, length-append xs (x ∷ []))

-- the last one that waits
pub last-snoc : (ws : List Waiting) (w : Waiting) → last_of (ws ++ w ∷ []) ≡ Some w
last-snoc ws w = ap (λ n. slice_get (ws ++ w ∷ []) n) (one-less ws w) ∙ get-snoc ws w

-- those before it
pub front-snoc : (ws : List Waiting) (w : Waiting) → all_but_last (ws ++ w ∷ []) ≡ ws
front-snoc ws w = ap (λ n. take n (ws ++ w ∷ [])) (one-less ws w) ∙ take-snoc ws w

-- the procedure that has waited last goes on after an accepted call
pub accepted-pops : (a : Activation) (found : Option ℤ) (ws : List Waiting) (w : Waiting) →
    a.waiting ≡ ws ++ w ∷ [] →
    accepted a found (last_of a.waiting) ≡ back_in ws a.plain w (after_accepted w.frame found)
accepted-pops a found ws w h =
    ap (λ (o : Option Waiting). accepted a found o) (ap last_of h ∙ last-snoc ws w)
    ∙ ap (λ vs. back_in vs a.plain w (after_accepted w.frame found)) (ap all_but_last h ∙ front-snoc ws w)

-- and after a rejected one
pub rejected-pops : (a : Activation) (plain : Bool) (ws : List Waiting) (w : Waiting) →
    a.waiting ≡ ws ++ w ∷ [] →
    rejected a plain (last_of a.waiting) ≡ back_in ws plain w (after_rejected w)
rejected-pops a plain ws w h =
    ap (λ (o : Option Waiting). rejected a plain o) (ap last_of h ∙ last-snoc ws w)
    ∙ ap (λ vs. back_in vs plain w (after_rejected w)) (ap all_but_last h ∙ front-snoc ws w)
