-- Places of lists that grow.
use Rattle.std.proofs.Common.{◌≡◌, ℕ, zero, suc, ◌+◌, ◌<◌, ◌⊎◌, inl, inr, List, [], ◌∷◌, ◌++◌, sym, subst}
use Rattle.std.proofs.Common.{ap, refl, length, slice_get, Some, arith, ◌∙◌, map, set}
use Rattle.std.proofs.Common.{take, drop}
use Rattle.std.specs.Prelude.{Contains, All, ◌^◌}
use Rattle.std.specs.List.{range_with_len}
use Rattle.std.proofs.lemmas.Option.{slice_get_within, get_or_from_slice_get, slice_get-get_or}
use Rattle.step_journal.specs.Histories.{IsLegal}
use Rattle.loose_records.specs.Entries.{AreRising, AreStamps}
use Rattle.loose_records.specs.Growing.{IsAbove}
use Rattle.std.proofs.lemmas.List.Elements.{All-push}
use Rattle.std.proofs.lemmas.List.Quantifiers.{all_pairs_push}

-- a place of the first of two lists
pub at-append : {A : Type 0} (xs ys : List A) (k : ℕ) (x : A) → slice_get xs k ≡ Some x →
    slice_get (xs ++ ys) k ≡ Some x
at-append [] ys k x e = cc e
at-append (z ∷ xs) ys zero x e = e
at-append (z ∷ xs) ys (suc k) x e = at-append xs ys k x e

-- the place of a last element
pub at-push : {A : Type 0} (xs : List A) (y : A) → slice_get (xs ++ y ∷ []) (length xs) ≡ Some y
at-push [] y = refl
at-push (x ∷ xs) y = at-push xs y

-- each place is one of the list or the last one
pub push-cases : {A : Type 0} (xs : List A) (y z : A) (k : ℕ) → slice_get (xs ++ y ∷ []) k ≡ Some z →
    (slice_get xs k ≡ Some z) ⊎ ((k ≡ length xs) × (y ≡ z))
push-cases [] y z zero e = inr (refl, let q : y ≡ z = cc e in q)
push-cases [] y z (suc k) e = cc e
push-cases (x ∷ xs) y z zero e = inl e
push-cases (x ∷ xs) y z (suc k) e = go (push-cases xs y z k e)
  where
    go : (slice_get xs k ≡ Some z) ⊎ ((k ≡ length xs) × (y ≡ z)) →
        (slice_get xs k ≡ Some z) ⊎ ((suc k ≡ suc (length xs)) × (y ≡ z))
    go (inl h) = inl h
    go (inr h) = inr (ap suc h.0, h.1)

-- what is set at a place stands there
pub set-here : {A : Type 0} (xs : List A) (i : ℕ) (x y : A) → slice_get xs i ≡ Some x →
    slice_get (set xs i y) i ≡ Some y
set-here [] i x y e = cc e
set-here (z ∷ xs) zero x y e = refl
set-here (z ∷ xs) (suc i) x y e = set-here xs i x y e

-- the other places stay
pub set-other : {A : Type 0} (xs : List A) (i k : ℕ) (y : A) → (k ≡ i → ⊥) →
    slice_get (set xs i y) k ≡ slice_get xs k
set-other [] i k y h = refl
set-other (x ∷ xs) zero zero y h = absurd (h refl)
set-other (x ∷ xs) zero (suc k) y h = refl
set-other (x ∷ xs) (suc i) zero y h = refl
set-other (x ∷ xs) (suc i) (suc k) y h = set-other xs i k y (λ e. h (ap suc e))

-- to set what is mapped to the same changes nothing of the map
pub set-map : {A B : Type 0} (f : A → B) (xs : List A) (i : ℕ) (x y : A) → slice_get xs i ≡ Some x →
    f y ≡ f x → map f (set xs i y) ≡ map f xs
set-map f [] i x y e h = refl
set-map {A} {B} f (z ∷ xs) zero x y e h =
    let q : z ≡ x = cc e in ap (λ (b : B). b ∷ map f xs) (h ∙ ap f (sym q))
set-map {A} {B} f (z ∷ xs) (suc i) x y e h = ap (λ (bs : List B). f z ∷ bs) (set-map f xs i x y e h)

-- a place of a map
pub at-map : {A B : Type 0} (f : A → B) (xs : List A) (k : ℕ) (x : A) → slice_get xs k ≡ Some x →
    slice_get (map f xs) k ≡ Some (f x)
at-map f [] k x e = cc e
at-map f (y ∷ xs) zero x e = let q : y ≡ x = cc e in rw q refl
at-map f (y ∷ xs) (suc k) x e = at-map f xs k x e

-- each place below the length has an element
pub at-within : {A : Type 0} (xs : List A) (k : ℕ) → k < length xs → (x : A) × (slice_get xs k ≡ Some x)
at-within [] k h = absurd (omega arith)
at-within (x ∷ xs) zero h = (x, refl)
at-within (x ∷ xs) (suc k) h = at-within xs k (omega arith)

-- the numbers of a range, by places
pub number_at : (low n i k : ℕ) → slice_get (range_with_len low n) i ≡ Some k → k ≡ low + i
number_at low zero i k h = cc h
number_at low (suc n) zero k h = let q : low ≡ k = cc h in omega arith
number_at low (suc n) (suc i) k h = let q : k ≡ (low + 1) + i = number_at (low + 1) n i k h in omega arith

-- a number above all others keeps them rising at the end
pub rising_push : (xs : List ℕ) (y : ℕ) → AreRising xs → All (λ (a : ℕ). a < y) xs →
    AreRising (xs ++ y ∷ [])
rising_push xs y rising above =
    all_pairs_push (λ (a b : ℕ). a < b) xs y rising (λ k d within. above k d within)

-- a stamp above all others keeps them stamps at the end
pub stamps_push : (xs : List ℕ) (y : ℕ) → AreStamps xs → IsAbove xs y → AreStamps (xs ++ y ∷ [])
stamps_push xs y are above = record {
  rising = rising_push xs y are.rising above.above;
  small = All-push (λ (a : ℕ). a < 2 ^ 63) xs y are.small above.small;
}

-- a legal history with one entry more is legal
pub legal_push : {E V : Type 0} (does : E → V → V → Type 0) (v u w : V) (es : List E) (e : E) →
    IsLegal does v es u → does e u w → IsLegal does v (es ++ e ∷ []) w
legal_push {E} {V} does v u w [] e legal d = (w, subst (λ v. does e v w) (sym legal) d, refl)
legal_push does v u w (f ∷ es) e legal d = (legal.0, legal.1, legal_push does legal.0 u w es e legal.2 d)

-- the list around a place
pub around : {A : Type 0} (xs : List A) (k : ℕ) (x : A) → slice_get xs k ≡ Some x →
    xs ≡ take k xs ++ x ∷ drop (suc k) xs
around [] k x e = cc e
around (y ∷ xs) zero x e = let q : y ≡ x = cc e in ap (λ z. z ∷ xs) q
around (y ∷ xs) (suc k) x e = ap (λ zs. y ∷ zs) (around xs k x e)

-- what stands among the first stands in the list
pub take-before : {A : Type 0} (xs : List A) (k j : ℕ) (x : A) → slice_get (take k xs) j ≡ Some x →
    slice_get xs j ≡ Some x
take-before [] zero j x e = cc e
take-before [] (suc k) j x e = cc e
take-before (y ∷ xs) zero j x e = cc e
take-before (y ∷ xs) (suc k) zero x e = e
take-before (y ∷ xs) (suc k) (suc j) x e = take-before xs k j x e

-- what a list contains stands at a place
pub place_of : {A : Type 0} (xs : List A) (x : A) → Contains xs x → (k : ℕ) × (slice_get xs k ≡ Some x)
place_of xs x h = (h.0, slice_get-get_or xs h.0 x h.1 ∙ ap Some h.2)

-- what stands at a place is contained
pub at-contains : {A : Type 0} (xs : List A) (k : ℕ) (x : A) → slice_get xs k ≡ Some x → Contains xs x
at-contains xs k x h = (k, slice_get_within xs k x h, get_or_from_slice_get xs k x x h)

-- a list with one element more contains no other one
pub contains-push : {A : Type 0} (xs : List A) (y x : A) → Contains (xs ++ y ∷ []) x →
    Contains xs x ⊎ (y ≡ x)
contains-push xs y x h = go (place_of (xs ++ y ∷ []) x h)
  where
    go : (k : ℕ) × (slice_get (xs ++ y ∷ []) k ≡ Some x) → Contains xs x ⊎ (y ≡ x)
    go k = by (push-cases xs y x k.0 k.1)
      where
        by : (slice_get xs k.0 ≡ Some x) ⊎ ((k.0 ≡ length xs) × (y ≡ x)) → Contains xs x ⊎ (y ≡ x)
        by (inl a) = inl (at-contains xs k.0 x a)
        by (inr a) = inr a.1

-- what stands in a map comes from the same place
pub map-at : {A B : Type 0} (f : A → B) (xs : List A) (k : ℕ) (y : B) → slice_get (map f xs) k ≡ Some y →
    (x : A) × (slice_get xs k ≡ Some x) × (f x ≡ y)
map-at f [] k y e = cc e
map-at f (x ∷ xs) zero y e = let q : f x ≡ y = cc e in (x, refl, q)
map-at f (x ∷ xs) (suc k) y e = map-at f xs k y e
