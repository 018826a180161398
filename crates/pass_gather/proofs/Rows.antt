-- Lists whose first elements are changed by another list, lists that are mapped, and lists side by side.
use Rattle.std.proofs.Common.{◌≡◌, ℕ, zero, suc, ◌<◌, ◌⊎◌, inl, inr, List, [], ◌∷◌, ◌++◌}
use Rattle.std.proofs.Common.{map, length, set, All, refl, sym, ap, ◌∙◌, subst, arith, Some, sum_by}
use Rattle.std.specs.Prelude.{slice_get, sum, replicate}
use Rattle.std.specs.List.{AllZip}
use Rattle.std.proofs.lemmas.List.{map-append, length-map}
use Rattle.std.proofs.lemmas.List.Elements.{All-nil, All-cons, All-head, All-tail}
use Rattle.std.proofs.lemmas.List.Sums.{sum_by-cons, sum-map}
use Rattle.pass_gather.specs.Parting.{each_with}
use Rattle.pass_gather.proofs.Lists.{none_some, some_same}

module _ {A B : Type 0} (f : A → B → A) where
  -- the element after those that were changed
  pub with-rest : (xs : List A) (ys : List B) → slice_get (each_with f xs ys) (length ys) ≡ slice_get xs (length ys)
  with-rest xs [] = refl
  with-rest [] (y ∷ ys) = refl
  with-rest (x ∷ xs) (y ∷ ys) = with-rest xs ys

  -- one element more is changed
  pub with-next : (xs : List A) (ys : List B) (x : A) (y : B) → slice_get xs (length ys) ≡ Some x →
      set (each_with f xs ys) (length ys) (f x y) ≡ each_with f xs (ys ++ y ∷ [])
  with-next [] ys x y at = absurd (none_some x at)
  with-next (z ∷ xs) [] x y at = ap (λ (w : A). f w y ∷ xs) (sym (some_same z x at))
  with-next (z ∷ xs) (w ∷ ys) x y at = ap (λ (l : List A). f z w ∷ l) (with-next xs ys x y at)

  -- what doesn't change in an element doesn't change in the list
  pub with-same : {C : Type 0} (g : A → C) → ((x : A) (y : B) → g (f x y) ≡ g x) → (xs : List A) (ys : List B) →
      map g (each_with f xs ys) ≡ map g xs
  with-same g same xs [] = refl
  with-same g same [] (y ∷ ys) = refl
  with-same g same (x ∷ xs) (y ∷ ys) = λ i. same x y i ∷ with-same g same xs ys i

  -- what stands there once all are changed
  pub with-at : (xs : List A) (ys : List B) (i : ℕ) (z : A) → length ys ≡ length xs →
      slice_get (each_with f xs ys) i ≡ Some z →
      (x : A) × (y : B) × (slice_get xs i ≡ Some x) × (slice_get ys i ≡ Some y) × (f x y ≡ z)
  with-at [] [] i z len at = absurd (none_some z at)
  with-at [] (y ∷ ys) i z len at = absurd (none_some z at)
  with-at (x ∷ xs) [] i z len at = absurd (omega (arith, len))
  with-at (x ∷ xs) (y ∷ ys) zero z len at = (x, y, refl, refl, some_same (f x y) z at)
  with-at (x ∷ xs) (y ∷ ys) (suc i) z len at = with-at xs ys i z (omega (arith, len)) at

-- each place is one of the list or the last one
pub push-cases : {A : Type 0} (xs : List A) (y z : A) (k : ℕ) → slice_get (xs ++ y ∷ []) k ≡ Some z →
    (slice_get xs k ≡ Some z) ⊎ ((k ≡ length xs) × (y ≡ z))
push-cases [] y z zero e = inr (refl, some_same y z e)
push-cases [] y z (suc k) e = absurd (none_some z e)
push-cases (x ∷ xs) y z zero e = inl e
push-cases (x ∷ xs) y z (suc k) e = go (push-cases xs y z k e)
  where
    go : (slice_get xs k ≡ Some z) ⊎ ((k ≡ length xs) × (y ≡ z)) →
        (slice_get xs k ≡ Some z) ⊎ ((suc k ≡ suc (length xs)) × (y ≡ z))
    go (inl h) = inl h
    go (inr h) = inr (ap suc h.0, h.1)

-- the place of the last element
pub at-push : {A : Type 0} (xs : List A) (y : A) → slice_get (xs ++ y ∷ []) (length xs) ≡ Some y
at-push [] y = refl
at-push (x ∷ xs) y = at-push xs y

-- a list with one element more is a map of one with one element more
pub push-map : {A B C : Type 0} (f : A → B) (h : C → B) (ys : List A) (y : A) (old new : List C) (x : C) →
    new ≡ old ++ x ∷ [] → map h old ≡ map f ys → h x ≡ f y → map h new ≡ map f (ys ++ y ∷ [])
push-map f h ys y old new x is was same =
    ap (map h) is ∙ map-append h old (x ∷ []) ∙ ap (λ l. l ++ h x ∷ []) was ∙ ap (λ z. map f ys ++ z ∷ []) same
    ∙ sym (map-append f ys (y ∷ []))

-- the same of a list itself
pub push-is : {A B : Type 0} (f : A → B) (ys : List A) (y : A) (old new : List B) (x : B) → new ≡ old ++ x ∷ [] →
    old ≡ map f ys → x ≡ f y → new ≡ map f (ys ++ y ∷ [])
push-is f ys y old new x is was same =
    is ∙ ap (λ l. l ++ x ∷ []) was ∙ ap (λ z. map f ys ++ z ∷ []) same ∙ sym (map-append f ys (y ∷ []))

-- what holds of all holds of what stands at a place
pub all-get : {A : Type 0} (P : A → Type 0) (xs : List A) → All P xs → (i : ℕ) (x : A) → slice_get xs i ≡ Some x →
    P x
all-get P [] all i x at = absurd (none_some x at)
all-get P (y ∷ xs) all zero x at = subst P (some_same y x at) (All-head P y xs all)
all-get P (y ∷ xs) all (suc i) x at = all-get P xs (All-tail P y xs all) i x at

-- what holds at each place holds of all
pub get-all : {A : Type 0} (P : A → Type 0) (xs : List A) → ((i : ℕ) (x : A) → slice_get xs i ≡ Some x → P x) →
    All P xs
get-all P [] each = All-nil P
get-all P (x ∷ xs) each = All-cons P x xs (each 0 x refl) (get-all P xs (λ i y at. each (suc i) y at))

-- what holds of all of a map holds of all that is mapped
pub all-unmap : {A B : Type 0} (P : B → Type 0) (f : A → B) (xs : List A) → All P (map f xs) → All (λ x. P (f x)) xs
all-unmap P f [] all = All-nil (λ x. P (f x))
all-unmap P f (x ∷ xs) all =
    All-cons (λ y. P (f y)) x xs (All-head P (f x) (map f xs) all) (all-unmap P f xs (All-tail P (f x) (map f xs) all))

-- where two lists are mapped to one, what holds of the images of one holds of those of the other
pub all-across : {A B C : Type 0} (P : C → Type 0) (f : A → C) (g : B → C) (xs : List A) (ys : List B) →
    map f xs ≡ map g ys → ((i : ℕ) (y : B) → slice_get ys i ≡ Some y → P (g y)) → All (λ x. P (f x)) xs
all-across P f g xs ys same each =
    all-unmap P f xs (subst (All P) (sym same) (all-mapped P g ys each))
  where
    all-mapped : {B C : Type 0} (P : C → Type 0) (g : B → C) (ys : List B) →
        ((i : ℕ) (y : B) → slice_get ys i ≡ Some y → P (g y)) → All P (map g ys)
    all-mapped P g [] each = All-nil P
    all-mapped P g (y ∷ ys) each =
        All-cons P (g y) (map g ys) (each 0 y refl) (all-mapped P g ys (λ i z at. each (suc i) z at))

-- their sums are the same
pub sum-across : {A B : Type 0} (f : A → ℕ) (g : B → ℕ) (xs : List A) (ys : List B) → map f xs ≡ map g ys →
    sum_by f xs ≡ sum_by g ys
sum-across f g xs ys same = sym (sum-map f xs) ∙ ap sum same ∙ sum-map g ys

-- and so are their lengths
pub length-across : {A B C : Type 0} (f : A → C) (g : B → C) (xs : List A) (ys : List B) → map f xs ≡ map g ys →
    length xs ≡ length ys
length-across f g xs ys same = sym (length-map xs f) ∙ ap length same ∙ length-map ys g

-- sums of what is the same at each place
pub sum-same : {A : Type 0} (f g : A → ℕ) (xs : List A) → ((i : ℕ) (x : A) → slice_get xs i ≡ Some x → f x ≡ g x) →
    sum_by f xs ≡ sum_by g xs
sum-same f g [] same = refl
sum-same f g (x ∷ xs) same =
    omega (
      arith,
      sum_by-cons f x xs,
      sum_by-cons g x xs,
      same 0 x refl,
      sum-same f g xs (λ i y at. same (suc i) y at),
    )

-- two maps of one list, side by side
pub zip-maps : {A B C : Type 0} (R : B → C → Type 0) (f : A → B) (g : A → C) (xs : List A) →
    All (λ x. R (f x) (g x)) xs → AllZip R (map f xs) (map g xs)
zip-maps R f g [] all = tt
zip-maps R f g (x ∷ xs) all =
    (All-head (λ y. R (f y) (g y)) x xs all, zip-maps R f g xs (All-tail (λ y. R (f y) (g y)) x xs all))

-- lists side by side, and others after them
pub zip-append : {B C : Type 0} (R : B → C → Type 0) (first : List B) (second : List C) (third : List B) (fourth : List C) →
    AllZip R first second → AllZip R third fourth → AllZip R (first ++ third) (second ++ fourth)
zip-append R [] [] third fourth front rest = rest
zip-append R [] (b ∷ second) third fourth front rest = absurd front
zip-append R (a ∷ first) [] third fourth front rest = absurd front
zip-append R (a ∷ first) (b ∷ second) third fourth front rest =
    (front.0, zip-append R first second third fourth front.1 rest)

-- what is set at a place stands there
pub set-here : {A : Type 0} (xs : List A) (i : ℕ) (y : A) → i < length xs → slice_get (set xs i y) i ≡ Some y
set-here [] i y h = absurd (omega (arith, h))
set-here (z ∷ xs) zero y h = refl
set-here (z ∷ xs) (suc i) y h = set-here xs i y (omega (arith, h))

-- what stands in a list after a change is what was set, or stood there before
pub set-either : {A : Type 0} (xs : List A) (i j : ℕ) (y z : A) → slice_get (set xs i y) j ≡ Some z →
    ((j ≡ i) × (y ≡ z)) ⊎ (slice_get xs j ≡ Some z)
set-either [] i j y z at = absurd (none_some z at)
set-either (x ∷ xs) zero zero y z at = inl (refl, some_same y z at)
set-either (x ∷ xs) zero (suc j) y z at = inr at
set-either (x ∷ xs) (suc i) zero y z at = inr at
set-either (x ∷ xs) (suc i) (suc j) y z at = go (set-either xs i j y z at)
  where
    go : ((j ≡ i) × (y ≡ z)) ⊎ (slice_get xs j ≡ Some z) →
        ((suc j ≡ suc i) × (y ≡ z)) ⊎ (slice_get xs j ≡ Some z)
    go (inl h) = inl (ap suc h.0, h.1)
    go (inr h) = inr h

-- what stands at a place stands there after a change, or something else was set there
pub set-kept : {A : Type 0} (xs : List A) (i j : ℕ) (y z : A) → slice_get xs j ≡ Some z →
    (slice_get (set xs i y) j ≡ Some y) ⊎ (slice_get (set xs i y) j ≡ Some z)
set-kept [] i j y z at = absurd (none_some z at)
set-kept (x ∷ xs) zero zero y z at = inl refl
set-kept (x ∷ xs) zero (suc j) y z at = inr at
set-kept (x ∷ xs) (suc i) zero y z at = inr at
set-kept (x ∷ xs) (suc i) (suc j) y z at = set-kept xs i j y z at

-- each of many is the same
pub all-same : {A : Type 0} (n i : ℕ) (x y : A) → slice_get (replicate n x) i ≡ Some y → x ≡ y
all-same zero i x y at = absurd (none_some y at)
all-same (suc n) zero x y at = some_same x y at
all-same (suc n) (suc i) x y at = all-same n i x y at
