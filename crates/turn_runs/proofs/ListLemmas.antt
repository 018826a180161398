-- Places of lists.
use Rattle.std.proofs.Common.{◌≡◌, ℕ, zero, suc, ◌<◌, List, [], ◌∷◌, ◌++◌, length, map, slice_get, Some, None, refl}
use Rattle.std.proofs.Common.{sym, subst, ap, ◌∙◌, arith, ◌⊎◌, inl, inr}
use Rattle.std.specs.Prelude.{slice_set, slice_index_or, Contains}
use Rattle.std.proofs.lemmas.List.{set-set}
use Rattle.std.proofs.lemmas.Bool.{cases_eq}
use Rattle.std.proofs.lemmas.Option.{slice_get-get_or, slice_get_within, get_or_from_slice_get}

-- a place of a list is one of each longer list
pub at-append : {A : Type 0} (xs ys : List A) (k : ℕ) (x : A) → slice_get xs k ≡ Some x →
    slice_get (xs ++ ys) k ≡ Some x
at-append [] ys k x e = cc e
at-append (z ∷ xs) ys zero x e = e
at-append (z ∷ xs) ys (suc k) x e = at-append xs ys k x e

-- the last one stands at the end
pub at-push : {A : Type 0} (xs : List A) (y : A) → slice_get (xs ++ y ∷ []) (length xs) ≡ Some y
at-push [] y = refl
at-push (x ∷ xs) y = at-push xs y

-- what is set at a place stands there
pub set-here : {A : Type 0} (xs : List A) (i : ℕ) (x y : A) → slice_get xs i ≡ Some x →
    slice_get (slice_set xs i y) i ≡ Some y
set-here [] i x y e = cc e
set-here (z ∷ xs) zero x y e = refl
set-here (z ∷ xs) (suc i) x y e = set-here xs i x y e

-- the other places stay
pub set-other : {A : Type 0} (xs : List A) (i k : ℕ) (y : A) → (k ≡ i → ⊥) →
    slice_get (slice_set xs i y) k ≡ slice_get xs k
set-other [] i k y h = refl
set-other (x ∷ xs) zero zero y h = absurd (h refl)
set-other (x ∷ xs) zero (suc k) y h = refl
set-other (x ∷ xs) (suc i) zero y h = refl
set-other (x ∷ xs) (suc i) (suc k) y h = set-other xs i k y (λ e. h (ap suc e))

-- to set what is mapped to the same changes nothing of the map
pub set-map : {A B : Type 0} (f : A → B) (xs : List A) (i : ℕ) (x y : A) → slice_get xs i ≡ Some x →
    f y ≡ f x → map f (slice_set xs i y) ≡ map f xs
set-map f [] i x y e h = refl
set-map {A} {B} f (z ∷ xs) zero x y e h =
    let q : z ≡ x = cc e in ap (λ (b : B). b ∷ map f xs) (h ∙ ap f (sym q))
set-map {A} {B} f (z ∷ xs) (suc i) x y e h = ap (λ (bs : List B). f z ∷ bs) (set-map f xs i x y e h)

-- a place of a map
pub at-map : {A B : Type 0} (f : A → B) (xs : List A) (k : ℕ) (x : A) → slice_get xs k ≡ Some x →
    slice_get (map f xs) k ≡ Some (f x)
at-map f [] k x e = cc e
at-map f (y ∷ xs) zero x e = let q : y ≡ x = cc e in rw q refl
at-map f (y ∷ xs) (suc k) x e = at-map f xs k x e

-- each place below the length has an element
pub at-within : {A : Type 0} (xs : List A) (k : ℕ) → k < length xs → (x : A) × (slice_get xs k ≡ Some x)
at-within [] k h = absurd (omega arith)
at-within (x ∷ xs) zero h = (x, refl)
at-within (x ∷ xs) (suc k) h = at-within xs k (omega arith)

-- what a list contains stands at a place
pub place_of : {A : Type 0} (xs : List A) (x : A) → Contains xs x → (k : ℕ) × (slice_get xs k ≡ Some x)
place_of xs x h = (h.0, slice_get-get_or xs h.0 x h.1 ∙ ap Some h.2)

-- what stands at a place is contained
pub at-contains : {A : Type 0} (xs : List A) (k : ℕ) (x : A) → slice_get xs k ≡ Some x → Contains xs x
at-contains xs k x h = (k, slice_get_within xs k x h, get_or_from_slice_get xs k x x h)

-- what stands in a list in which one place was set
pub set_cases : {A : Type 0} (xs : List A) (w v : ℕ) (old x y : A) → slice_get xs w ≡ Some old →
    slice_get (slice_set xs w x) v ≡ Some y →
    ((v ≡ w) × (x ≡ y)) ⊎ ((v ≡ w → ⊥) × (slice_get xs v ≡ Some y))
set_cases {A} xs w v old x y at h = by (cases_eq v w)
  where
    by : (v ≡ w) ⊎ (v ≡ w → ⊥) → ((v ≡ w) × (x ≡ y)) ⊎ ((v ≡ w → ⊥) × (slice_get xs v ≡ Some y))
    by (inl e) =
        let here : slice_get (slice_set xs w x) w ≡ Some x = set-here xs w old x at in
        let there : slice_get (slice_set xs w x) w ≡ Some y =
        subst (λ (k : ℕ). slice_get (slice_set xs w x) k ≡ Some y) e h in
        let q : x ≡ y = cc (here, there) in
        inl (e, q)
    by (inr e) = inr (e, sym (set-other xs w v x e) ∙ h)

-- what comes from a map comes from the same place
pub map-at : {A B : Type 0} (f : A → B) (xs : List A) (k : ℕ) (y : B) → slice_get (map f xs) k ≡ Some y →
    (x : A) × (slice_get xs k ≡ Some x) × (f x ≡ y)
map-at f [] k y e = cc e
map-at f (x ∷ xs) zero y e = let q : f x ≡ y = cc e in (x, refl, q)
map-at f (x ∷ xs) (suc k) y e = map-at f xs k y e

-- at the end of a longer list stands the last one, and before it the others
pub push-cases : {A : Type 0} (xs : List A) (y z : A) (k : ℕ) → slice_get (xs ++ y ∷ []) k ≡ Some z →
    (slice_get xs k ≡ Some z) ⊎ ((k ≡ length xs) × (y ≡ z))
push-cases [] y z zero e = let q : y ≡ z = cc e in inr (refl, q)
push-cases [] y z (suc k) e = cc e
push-cases (x ∷ xs) y z zero e = inl e
push-cases (x ∷ xs) y z (suc k) e = go (push-cases xs y z k e)
  where
    go : (slice_get xs k ≡ Some z) ⊎ ((k ≡ length xs) × (y ≡ z)) →
        (slice_get xs k ≡ Some z) ⊎ ((suc k ≡ suc (length xs)) × (y ≡ z))
    go (inl h) = inl h
    go (inr h) = inr (ap suc h.0, h.1)

-- where nothing stands the default is read
pub none_index : {A : Type 0} (xs : List A) (i : ℕ) (d : A) → slice_get xs i ≡ None →
    slice_index_or xs i d ≡ d
none_index [] i d e = refl
none_index (x ∷ xs) zero d e = cc e
none_index (x ∷ xs) (suc i) d e = none_index xs i d e

-- an item that is taken out for a while and put back changed
pub put_back : {A : Type 0} (xs mid new : List A) (i : ℕ) (a b : A) → mid ≡ slice_set xs i a →
    new ≡ slice_set mid i b → new ≡ slice_set xs i b
put_back {A} xs mid new i a b out back =
    back ∙ (ap (λ (ys : List A). slice_set ys i b) out ∙ set-set xs i a b)
