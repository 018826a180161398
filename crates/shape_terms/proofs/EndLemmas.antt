-- The last element of a list, and what is before it.
use Rattle.std.proofs.Common.{◌≡◌, ◌≢◌, ℕ, ◌+◌, ◌-◌, ap, ◌∙◌, refl, arith, List, [], ◌∷◌, ◌++◌, length}
use Rattle.std.proofs.Common.{take, Some, Ok, Err, get_or}
use Rattle.std.specs.Prelude.{slice_get}
use Rattle.std.proofs.lemmas.List.{get_or_at, take_at, length_push}
use Rattle.std.proofs.Math.IntN.{ℤ, pos}
use Rattle.seuss_base.specs.declared.outcome.Trap.TheVariants.{EmptySequence}
use Rattle.seuss_program.specs.Values.{Evaluated, measure, of_some}
use Rattle.seuss_program.specs.declared.state.Value.{Value}
use Rattle.seuss_program.specs.declared.state.Value.TheVariants.{Int, Seq}
use Rattle.seuss_program.specs.declared.tree.Fun.TheVariants.{Last, Front}

-- what holds of the empty list, and of each list with one more at its end, holds of all lists
pub by_last : {X : Type 0} (P : List X → Type 0) → P [] → ((xs : List X) (x : X) → P (xs ++ x ∷ [])) →
    (xs : List X) → P xs
by_last P none more [] = none
by_last P none more (x ∷ xs) = by_last (λ ys. P (x ∷ ys)) (more [] x) (λ ys y. more (x ∷ ys) y) xs

before_push : {X : Type 0} (xs : List X) (x : X) → length (xs ++ x ∷ []) - 1 ≡ length xs
before_push xs x = ap (λ n. n - 1) (length_push xs x) ∙ back (length xs)
  where
    back : (n : ℕ) → n + 1 - 1 ≡ n
    back n = omega arith

got_at : {X : Type 0} (xs : List X) (x : X) → slice_get (xs ++ x ∷ []) (length xs) ≡ Some x
got_at [] x = refl
got_at (y ∷ xs) x = got_at xs x

-- the last one is the one at the end
pub got_last : {X : Type 0} (xs : List X) (x : X) →
    slice_get (xs ++ x ∷ []) (length (xs ++ x ∷ []) - 1) ≡ Some x
got_last xs x = ap (slice_get (xs ++ x ∷ [])) (before_push xs x) ∙ got_at xs x

some_push : (zs : List ℤ) (z : ℤ) (v : Value) → of_some (zs ++ z ∷ []) v ≡ Ok v
some_push [] z v = refl
some_push (y ∷ zs) z v = refl

pub last_of_push : (zs : List ℤ) (z : ℤ) → measure Last (zs ++ z ∷ []) ≡ Ok (Int z)
last_of_push zs z =
    some_push zs z _
    ∙ ap said (ap (λ n. get_or (zs ++ z ∷ []) n (pos 0)) (before_push zs z)
    ∙ get_or_at zs z [] (pos 0) (length zs) refl)
  where
    said : ℤ → Evaluated
    said y = Ok (Int y)

pub front_of_push : (zs : List ℤ) (z : ℤ) → measure Front (zs ++ z ∷ []) ≡ Ok (Seq zs)
front_of_push zs z =
    some_push zs z _
    ∙ ap said (ap (λ n. take n (zs ++ z ∷ [])) (before_push zs z) ∙ take_at zs (z ∷ []) (length zs) refl)
  where
    said : List ℤ → Evaluated
    said ys = Ok (Seq ys)

-- a list with an element in it isn't empty
pub some_within : (zs ys : List ℤ) (z : ℤ) (v : Value) → of_some (zs ++ z ∷ ys) v ≢ Err EmptySequence
some_within [] ys z v e = cc
some_within (x ∷ zs) ys z v e = cc
