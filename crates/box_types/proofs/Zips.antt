-- Where checks find nothing at the items of a list, what they show holds item by item.
use Rattle.std.specs.Prelude.{◌≡◌, ℕ, zero, suc, ◌+◌, List, [], ◌∷◌, map, slice_get, Some}
use Rattle.std.specs.List.{AllZip}
use Rattle.std.proofs.Common.{subst}
use Rattle.box_types.specs.declared.scopes.Scope.{Scope}
use Rattle.box_types.specs.Walks.{Walk, numbered, walked}
use Rattle.box_types.proofs.OwnNames.{none_first, none_second}

-- items beside what a function makes of them
pub numbered_zip : {X Y : Type 0} (R : X → Y → Type 0) (f : X → Y) (at by : ℕ → X → List ℕ) →
    ((m : ℕ) (x : X) → at m x ≡ [] → by m x ≡ [] → R x (f x)) → (n : ℕ) (xs : List X) →
    numbered at n xs ≡ [] → numbered by n xs ≡ [] → AllZip R xs (map f xs)
numbered_zip R f at by each n [] none clean = tt
numbered_zip R f at by each n (x ∷ xs) none clean = (
  each n x (none_first (at n x) _ none) (none_first (by n x) _ clean),
  numbered_zip R f at by each (n + 1) xs (none_second (at n x) _ none) (none_second (by n x) _ clean),
)

-- and for three checks
pub numbered_zip_of_three : {X Y : Type 0} (R : X → Y → Type 0) (f : X → Y)
    (at by then_at : ℕ → X → List ℕ) →
    ((m : ℕ) (x : X) → at m x ≡ [] → by m x ≡ [] → then_at m x ≡ [] → R x (f x)) → (n : ℕ) (xs : List X) →
    numbered at n xs ≡ [] → numbered by n xs ≡ [] → numbered then_at n xs ≡ [] → AllZip R xs (map f xs)
numbered_zip_of_three R f at by then_at each n [] none clean own = tt
numbered_zip_of_three R f at by then_at each n (x ∷ xs) none clean own = (
  each n x (none_first (at n x) _ none) (none_first (by n x) _ clean) (none_first (then_at n x) _ own),
  numbered_zip_of_three R f at by then_at each (n + 1) xs (none_second (at n x) _ none)
      (none_second (by n x) _ clean) (none_second (then_at n x) _ own),
)

-- and for walks, from whatever scopes
pub walked_zip : {X Y : Type 0} (R : X → Y → Type 0) (f : X → Y) (at by then_at : ℕ → X → Walk) →
    ((m : ℕ) (x : X) (s t u : Scope) → (at m x s).lines ≡ [] → (by m x t).lines ≡ [] →
    (then_at m x u).lines ≡ [] → R x (f x)) →
    (n : ℕ) (xs : List X) (s t u : Scope) → (walked at n xs s).lines ≡ [] → (walked by n xs t).lines ≡ [] →
    (walked then_at n xs u).lines ≡ [] → AllZip R xs (map f xs)
walked_zip R f at by then_at each n [] s t u none clean own = tt
walked_zip R f at by then_at each n (x ∷ xs) s t u none clean own = (
  each n x s t u (none_first (at n x s).lines _ none) (none_first (by n x t).lines _ clean)
      (none_first (then_at n x u).lines _ own),
  walked_zip R f at by then_at each (n + 1) xs (at n x s).scope (by n x t).scope (then_at n x u).scope
      (none_second (at n x s).lines _ none) (none_second (by n x t).lines _ clean)
      (none_second (then_at n x u).lines _ own),
)

-- where a check finds nothing at items, it finds nothing at one of them
pub numbered_get : {X : Type 0} (at : ℕ → X → List ℕ) (n : ℕ) (xs : List X) → numbered at n xs ≡ [] →
    (k : ℕ) (x : X) → slice_get xs k ≡ Some x → (m : ℕ) × (at m x ≡ [])
numbered_get at n [] none k x there = absurd (cc)
numbered_get at n (y ∷ xs) none zero x there =
    let is : y ≡ x = cc in (n, subst (λ z. at n z ≡ []) is (none_first (at n y) _ none))
numbered_get at n (y ∷ xs) none (suc k) x there =
    numbered_get at (n + 1) xs (none_second (at n y) _ none) k x there
