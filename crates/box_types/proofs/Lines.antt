-- Where a check stops among lines that are put together.
use Rattle.std.specs.Prelude.{◌≡◌, ℕ, suc, ◌+◌, ◌<◌, List, [], ◌∷◌, ◌++◌, length, Result, Err}
use Rattle.std.proofs.Common.{subst, sym, ap, ◌∙◌, get_or, drop, drop-cons, arith}
use Rattle.box_types.specs.declared.checking.Stop.{Stop}
use Rattle.box_types.specs.declared.checking.Stop.TheVariants as S
use Rattle.box_types.specs.Answers.{Stops}
use Rattle.box_types.specs.Walks.{numbered}

-- a check that stops in the first of two lists stops in both together
pub stops_first : (e : Stop) (xs ys : List ℕ) → Stops (Err e) xs → Stops (Err e) (xs ++ ys)
stops_first (S.Line l) xs ys found = (found.0 ++ ys, ap (λ zs. zs ++ ys) found.1)
stops_first S.Memory xs ys found = tt

-- where nothing is found in the first of two lists, the second one decides
pub stops_second : (r : Result (Unit {0}) Stop) (xs ys : List ℕ) → xs ≡ [] → Stops r ys → Stops r (xs ++ ys)
stops_second r xs ys none found = subst (λ zs. Stops r (zs ++ ys)) (sym none) found

-- the item at a place and those behind it
pub from_here : {X : Type 0} (xs : List X) (i : ℕ) (x : X) → i < length xs → x ≡ get_or xs i x →
    drop i xs ≡ x ∷ drop (i + 1) xs
from_here xs i x h e =
    let n : i + 1 ≡ suc i = omega arith in
    drop-cons xs i x h ∙ (ap (λ y. y ∷ drop (suc i) xs) (sym e) ∙ ap (λ j. x ∷ drop j xs) (sym n))

module _ {X : Type 0} (f : ℕ → X → List ℕ) where
  -- what is found at an item and at those behind it
  numbered_from : (xs : List X) (i : ℕ) (x : X) → i < length xs → x ≡ get_or xs i x →
      numbered f i (drop i xs) ≡ f i x ++ numbered f (i + 1) (drop (i + 1) xs)
  numbered_from xs i x h e = ap (λ zs. numbered f i zs) (from_here xs i x h e)

  -- where nothing is found at an item, the walk goes on
  pub numbered_goes_on : (xs : List X) (i : ℕ) (x : X) (all : List ℕ) → i < length xs → x ≡ get_or xs i x →
      f i x ≡ [] →
      numbered f i (drop i xs) ≡ all → numbered f (i + 1) (drop (i + 1) xs) ≡ all
  numbered_goes_on xs i x all h e none same =
      sym (numbered_from xs i x h e ∙ ap (λ zs. zs ++ numbered f (i + 1) (drop (i + 1) xs)) none) ∙ same

  -- where something is found at an item, the walk stops
  pub numbered_stops : (xs : List X) (i : ℕ) (x : X) (all : List ℕ) (r : Result (Unit {0}) Stop) (e : Stop)
      → i < length xs → x ≡ get_or xs i x →
      r ≡ Err e → Stops (Err e) (f i x) → numbered f i (drop i xs) ≡ all → Stops r all
  numbered_stops xs i x all r e h at same found is =
      subst (λ q. Stops q all) (sym same)
      (subst (λ zs. Stops (Err e) zs) (sym (numbered_from xs i x h at) ∙ is)
      (stops_first e (f i x) (numbered f (i + 1) (drop (i + 1) xs)) found))
