-- Places of a list, what stands before one and what after it.
use Rattle.std.proofs.Common.{◌≡◌, ℕ, zero, suc, ◌<◌, ◌≤◌, ◌⊎◌, inl, inr, List, [], ◌∷◌, ◌++◌, subst, ap}
use Rattle.std.proofs.Common.{refl, length, slice_get, Option, Some, arith, ◌∙◌, map, get_or, take, drop}
use Rattle.std.specs.Prelude.{Contains, AllPairs, All}
use Rattle.std.specs.List.{AllByRecursion}
use Rattle.std.proofs.lemmas.Option.{slice_get_within, slice_get-get_or, get_or_from_slice_get}
use Rattle.std.proofs.lemmas.Bool.{cases_lt}
use Rattle.loose_core.proofs.lists.Words.{Pairs, RisesFrom}

-- an option has one value
pub some_same : {A : Type 0} (x y : A) (o : Option A) → o ≡ Some x → o ≡ Some y → x ≡ y
some_same x y o p q = cc (p, q)

-- what a list contains stands at a place
pub place_of : {A : Type 0} (xs : List A) (x : A) → Contains xs x → (k : ℕ) × (slice_get xs k ≡ Some x)
place_of xs x h = (h.0, slice_get-get_or xs h.0 x h.1 ∙ ap Some h.2)

-- what stands at a place is contained
pub at-contains : {A : Type 0} (xs : List A) (k : ℕ) (x : A) → slice_get xs k ≡ Some x → Contains xs x
at-contains xs k x h = (k, slice_get_within xs k x h, get_or_from_slice_get xs k x x h)

-- a place of a map
pub at-map : {A B : Type 0} (f : A → B) (xs : List A) (k : ℕ) (x : A) → slice_get xs k ≡ Some x →
    slice_get (map f xs) k ≡ Some (f x)
at-map f [] k x e = cc e
at-map f (y ∷ xs) zero x e = let q : y ≡ x = cc e in rw q refl
at-map f (y ∷ xs) (suc k) x e = at-map f xs k x e

-- what stands in a map comes from the same place
pub map-at : {A B : Type 0} (f : A → B) (xs : List A) (k : ℕ) (y : B) → slice_get (map f xs) k ≡ Some y →
    (x : A) × (slice_get xs k ≡ Some x) × (f x ≡ y)
map-at f [] k y e = cc e
map-at f (x ∷ xs) zero y e = let q : f x ≡ y = cc e in (x, refl, q)
map-at f (x ∷ xs) (suc k) y e = map-at f xs k y e

-- the list around a place
pub around : {A : Type 0} (xs : List A) (k : ℕ) (x : A) → slice_get xs k ≡ Some x →
    xs ≡ take k xs ++ x ∷ drop (suc k) xs
around [] k x e = cc e
around (y ∷ xs) zero x e = let q : y ≡ x = cc e in ap (λ z. z ∷ xs) q
around (y ∷ xs) (suc k) x e = ap (λ zs. y ∷ zs) (around xs k x e)

-- what stands before a place is among the first
pub before-take : {A : Type 0} (xs : List A) (k j : ℕ) (x : A) → slice_get xs j ≡ Some x → j < k →
    slice_get (take k xs) j ≡ Some x
before-take [] k j x e h = cc e
before-take (y ∷ xs) zero j x e h = absurd (omega arith)
before-take (y ∷ xs) (suc k) zero x e h = e
before-take (y ∷ xs) (suc k) (suc j) x e h = before-take xs k j x e (omega arith)

-- what is among the first stands before the place
pub take-before : {A : Type 0} (xs : List A) (k j : ℕ) (x : A) → slice_get (take k xs) j ≡ Some x →
    (slice_get xs j ≡ Some x) × (j < k)
take-before [] zero j x e = cc e
take-before [] (suc k) j x e = cc e
take-before (y ∷ xs) zero j x e = cc e
take-before (y ∷ xs) (suc k) zero x e = (e, omega arith)
take-before (y ∷ xs) (suc k) (suc j) x e = let r = take-before xs k j x e in (r.0, omega (arith, r.1))

-- what stands after a place is among the rest
pub drop-later : {A : Type 0} (xs : List A) (k j : ℕ) (x : A) → slice_get xs j ≡ Some x → k < j →
    (i : ℕ) × (slice_get (drop (suc k) xs) i ≡ Some x)
drop-later [] k j x e h = cc e
drop-later (y ∷ xs) k zero x e h = absurd (omega arith)
drop-later (y ∷ xs) zero (suc j) x e h = (j, e)
drop-later (y ∷ xs) (suc k) (suc j) x e h = drop-later xs k j x e (omega arith)

-- in a list of rising numbers a lower number stands before a higher one
pub rising_places : {A : Type 0} (f : A → ℕ) (xs : List A) → AllPairs (λ (a b : ℕ). a < b) (map f xs) →
    (i j : ℕ) (x y : A) → slice_get xs i ≡ Some x → slice_get xs j ≡ Some y → f x < f y → i < j
rising_places f xs rising i j x y at_x at_y below = go (cases_lt i j)
  where
    go : (i < j) ⊎ (j ≤ i) → i < j
    go (inl h) = h
    go (inr h) = other (cases_lt j i)
      where
        fx : get_or (map f xs) i (f x) ≡ f x
        fx = get_or_from_slice_get (map f xs) i (f x) (f x) (at-map f xs i x at_x)

        fy : get_or (map f xs) j (f x) ≡ f y
        fy = get_or_from_slice_get (map f xs) j (f y) (f x) (at-map f xs j y at_y)

        other : (j < i) ⊎ (i ≤ j) → i < j
        other (inl l) =
            let b : get_or (map f xs) j (f x) < get_or (map f xs) i (f x) =
            rising j i (f x) l (slice_get_within (map f xs) i (f x) (at-map f xs i x at_x)) in
            let p = fx in let q = fy in absurd (omega arith)
        other (inr l) =
            let e : i ≡ j = omega arith in
            let s : x ≡ y =
            some_same x y (slice_get xs j) (subst (λ k. slice_get xs k ≡ Some x) e at_x) at_y in
            let t : f x ≡ f y = ap f s in absurd (omega arith)

-- numbers that rise from each to each later one rise from above the first
tail_pairs : (x : ℕ) (xs : List ℕ) → AllPairs (λ (a b : ℕ). a < b) (x ∷ xs) →
    AllPairs (λ (a b : ℕ). a < b) xs
tail_pairs x xs h = λ i j d l k. h (suc i) (suc j) d (omega arith) (omega arith)

-- numbers that rise, from the first on
pub rising_from : (x : ℕ) (xs : List ℕ) → AllPairs (λ (a b : ℕ). a < b) (x ∷ xs) → RisesFrom (λ s. s) x xs
rising_from x [] h = tt
rising_from x (y ∷ xs) h = (h 0 1 0 (omega arith) (omega arith), rising_from y xs (tail_pairs x (y ∷ xs) h))

-- stamps that rise, from a lower one on
pub rising_above : {A : Type 0} (f : A → ℕ) (s : ℕ) (xs : List A) → ((x : A) (k : ℕ) → slice_get xs k
    ≡ Some x → s < suc (f x)) →
    AllPairs (λ (a b : ℕ). a < b) (map f xs) → RisesFrom (λ x. suc (f x)) s xs
rising_above f s [] low h = tt
rising_above {A} f s (x ∷ xs) low h = (
  low x 0 refl,
  rising_above f (suc (f x)) xs (λ y k at_y.
      let l : f x < f y = above y k at_y in omega arith) (tail_pairs (f x) (map f xs) h),
)
  where
    above : (y : A) (k : ℕ) → slice_get xs k ≡ Some y → f x < f y
    above y k at_y =
        let e : get_or (map f xs) k 0 ≡ f y =
        get_or_from_slice_get (map f xs) k (f y) 0 (at-map f xs k y at_y) in
        let l : f x < get_or (map f xs) k 0 =
        h 0 (suc k) 0 (omega arith) (omega (
          arith,
          slice_get_within (map f xs) k (f y)
              (at-map f xs k y at_y),
        )) in
        omega arith

-- P of each two, by places
pub pairs-all : {A : Type 0} (R : A → A → Type 0) (xs : List A) → Pairs R xs → AllPairs R xs
pairs-all {A} R [] h = λ i j d l k. absurd (omega arith)
pairs-all {A} R (x ∷ xs) h = λ i j d l k. go (pairs-all R xs h.1) i j d l k
  where
    row : (ys : List A) → AllByRecursion (R x) ys → (j : ℕ) (d : A) → j < length ys → R x (get_or ys j d)
    row [] all j d k = absurd (omega arith)
    row (y ∷ ys) all zero d k = all.0
    row (y ∷ ys) all (suc j) d k = row ys all.1 j d (omega arith)

    go : AllPairs R xs → (i j : ℕ) (d : A) → i < j → j < length (x ∷ xs) →
        R (get_or (x ∷ xs) i d) (get_or (x ∷ xs) j d)
    go rest zero zero d l k = absurd (omega arith)
    go rest zero (suc j) d l k = row xs h.0 j d (omega arith)
    go rest (suc i) zero d l k = absurd (omega arith)
    go rest (suc i) (suc j) d l k = rest i j d (omega arith) (omega arith)

-- each element, by places
pub each-all : {A : Type 0} (P : A → Type 0) (xs : List A) → AllByRecursion P xs → All P xs
each-all {A} P [] h = λ k d l. absurd (omega arith)
each-all {A} P (x ∷ xs) h = λ k d l. go (each-all P xs h.1) k d l
  where
    go : All P xs → (k : ℕ) (d : A) → k < length (x ∷ xs) → P (get_or (x ∷ xs) k d)
    go rest zero d l = h.0
    go rest (suc k) d l = rest k d (omega arith)
