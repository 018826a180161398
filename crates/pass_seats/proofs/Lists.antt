-- Lists that change at one place, and what stands in them.
use Rattle.std.proofs.Common.{◌≡◌, ◌≢◌, ℕ, zero, suc, ◌+◌, ◌<◌, ◌≤◌, ◌⊎◌, inl, inr, ⊎_elim, List, [], ◌∷◌, ◌++◌}
use Rattle.std.proofs.Common.{sym, ap, ◌∙◌, refl, subst, length, arith, map, set, Bool, cond, count_by}
use Rattle.std.specs.Prelude.{Option, Some, None, slice_get, slice_index_or, MatchOption, IfSome, All, Contains}
use Rattle.std.specs.List.{filter_map, cons_option}
use Rattle.std.proofs.lemmas.Option.{slice_get_within, get_or_from_slice_get, slice_get-get_or}
use Rattle.std.proofs.lemmas.List.Sums.{sum_by-cons}
use Rattle.std.proofs.lemmas.List.Elements.{All-head, All-tail}
use Rattle.step_journal.specs.Histories.{IsPrefix}
use Rattle.loose_records.specs.Turns.{clock_of}

-- nothing is not something
pub none_some : {A : Type 0} (x : A) → ◌≡◌ {A = Option A} None (Some x) → ⊥
none_some x e = cc e

-- what stands at one place is one
pub some_same : {A : Type 0} (x y : A) → Some x ≡ Some y → x ≡ y
some_same x y e = cc e

-- a list without elements is empty
pub nil_from_length : {A : Type 0} (xs : List A) → length xs ≡ 0 → xs ≡ []
nil_from_length [] none = refl
nil_from_length (x ∷ xs) none = absurd (omega (arith, none))

-- a place of the first of two lists
pub at-append : {A : Type 0} (xs ys : List A) (k : ℕ) (x : A) → slice_get xs k ≡ Some x →
    slice_get (xs ++ ys) k ≡ Some x
at-append [] ys k x e = cc e
at-append (z ∷ xs) ys zero x e = e
at-append (z ∷ xs) ys (suc k) x e = at-append xs ys k x e

-- the place of a last element
pub at-push : {A : Type 0} (xs : List A) (y : A) → slice_get (xs ++ y ∷ []) (length xs) ≡ Some y
at-push [] y = refl
at-push (x ∷ xs) y = at-push xs y

-- each place is one of the list or the last one
pub push-cases : {A : Type 0} (xs : List A) (y z : A) (k : ℕ) → slice_get (xs ++ y ∷ []) k ≡ Some z →
    (slice_get xs k ≡ Some z) ⊎ ((k ≡ length xs) × (y ≡ z))
push-cases [] y z zero e = inr (refl, let q : y ≡ z = cc e in q)
push-cases [] y z (suc k) e = cc e
push-cases (x ∷ xs) y z zero e = inl e
push-cases (x ∷ xs) y z (suc k) e = go (push-cases xs y z k e)
  where
    go : (slice_get xs k ≡ Some z) ⊎ ((k ≡ length xs) × (y ≡ z)) →
        (slice_get xs k ≡ Some z) ⊎ ((suc k ≡ suc (length xs)) × (y ≡ z))
    go (inl h) = inl h
    go (inr h) = inr (ap suc h.0, h.1)

-- what is set at a place stands there
pub set-here : {A : Type 0} (xs : List A) (i : ℕ) (x y : A) → slice_get xs i ≡ Some x →
    slice_get (set xs i y) i ≡ Some y
set-here [] i x y e = cc e
set-here (z ∷ xs) zero x y e = refl
set-here (z ∷ xs) (suc i) x y e = set-here xs i x y e

-- the other places stay
pub set-other : {A : Type 0} (xs : List A) (i k : ℕ) (y : A) → (k ≡ i → ⊥) →
    slice_get (set xs i y) k ≡ slice_get xs k
set-other [] i k y h = refl
set-other (x ∷ xs) zero zero y h = absurd (h refl)
set-other (x ∷ xs) zero (suc k) y h = refl
set-other (x ∷ xs) (suc i) zero y h = refl
set-other (x ∷ xs) (suc i) (suc k) y h = set-other xs i k y (λ e. h (ap suc e))

-- a place of a map
pub at-map : {A B : Type 0} (f : A → B) (xs : List A) (k : ℕ) (x : A) → slice_get xs k ≡ Some x →
    slice_get (map f xs) k ≡ Some (f x)
at-map f [] k x e = cc e
at-map f (y ∷ xs) zero x e = let q : y ≡ x = cc e in rw q refl
at-map f (y ∷ xs) (suc k) x e = at-map f xs k x e

-- each place below the length has an element
pub at-within : {A : Type 0} (xs : List A) (k : ℕ) → k < length xs → (x : A) × (slice_get xs k ≡ Some x)
at-within [] k h = absurd (omega arith)
at-within (x ∷ xs) zero h = (x, refl)
at-within (x ∷ xs) (suc k) h = at-within xs k (omega arith)

-- what a list contains stands at a place
pub place_of : {A : Type 0} (xs : List A) (x : A) → Contains xs x → (k : ℕ) × (slice_get xs k ≡ Some x)
place_of xs x h = (h.0, slice_get-get_or xs h.0 x h.1 ∙ ap Some h.2)

-- what stands at a place is contained
pub at-contains : {A : Type 0} (xs : List A) (k : ℕ) (x : A) → slice_get xs k ≡ Some x → Contains xs x
at-contains xs k x h = (k, slice_get_within xs k x h, get_or_from_slice_get xs k x x h)

-- what stands in a map comes from the same place
pub map-at : {A B : Type 0} (f : A → B) (xs : List A) (k : ℕ) (y : B) → slice_get (map f xs) k ≡ Some y →
    (x : A) × (slice_get xs k ≡ Some x) × (f x ≡ y)
map-at f [] k y e = cc e
map-at f (x ∷ xs) zero y e = let q : f x ≡ y = cc e in (x, refl, q)
map-at f (x ∷ xs) (suc k) y e = map-at f xs k y e

-- to set what is mapped to the same changes nothing of the map
pub set-map : {A B : Type 0} (f : A → B) (xs : List A) (i : ℕ) (x y : A) → slice_get xs i ≡ Some x →
    f y ≡ f x → map f (set xs i y) ≡ map f xs
set-map f [] i x y e h = refl
set-map {A} {B} f (z ∷ xs) zero x y e h =
    let q : z ≡ x = cc e in ap (λ (b : B). b ∷ map f xs) (h ∙ ap f (sym q))
set-map {A} {B} f (z ∷ xs) (suc i) x y e h = ap (λ (bs : List B). f z ∷ bs) (set-map f xs i x y e h)

-- what stands in a beginning stands in the whole
pub at-prefix : {A : Type 0} (xs ys : List A) (i : ℕ) (x : A) → IsPrefix xs ys → slice_get xs i ≡ Some x →
    slice_get ys i ≡ Some x
at-prefix {A} xs ys i x front e =
    subst (λ (l : List A). slice_get l i ≡ Some x) front.1 (at-append xs front.0 i x e)

-- what stands at a place is read there
pub read-at : {A : Type 0} (xs : List A) (i : ℕ) (x d : A) → slice_get xs i ≡ Some x → slice_index_or xs i d ≡ x
read-at [] i x d e = absurd (none_some x e)
read-at (y ∷ xs) zero x d e = some_same y x e
read-at (y ∷ xs) (suc i) x d e = read-at xs i x d e

-- past its end a list has nothing
pub read-past : {A : Type 0} (xs : List A) (i : ℕ) (d : A) → length xs ≤ i → slice_index_or xs i d ≡ d
read-past [] i d h = refl
read-past (y ∷ xs) zero d h = absurd (omega (arith, h))
read-past (y ∷ xs) (suc i) d h = read-past xs i d (omega (arith, h))

-- a list after a change at one place
pub set-cases : {A : Type 0} (xs : List A) (i j : ℕ) (x y : A) → slice_get (set xs i x) j ≡ Some y →
    ((j ≡ i) × (x ≡ y)) ⊎ ((j ≢ i) × (slice_get xs j ≡ Some y))
set-cases [] i j x y at = absurd (none_some y at)
set-cases (z ∷ xs) zero zero x y at = inl (refl, some_same x y at)
set-cases (z ∷ xs) zero (suc j) x y at = inr ((λ e. absurd (omega (arith, e))), at)
set-cases (z ∷ xs) (suc i) zero x y at = inr ((λ e. absurd (omega (arith, e))), at)
set-cases {A} (z ∷ xs) (suc i) (suc j) x y at =
    ⊎_elim (λ (t : (j ≡ i) × (x ≡ y)). inl (ap suc t.0, t.1))
    (λ (t : (j ≢ i) × (slice_get xs j ≡ Some y)). let n = t.0 in inr ((λ e. n (omega (arith, e))), t.1))
    (set-cases xs i j x y at)

-- what stands there already changes nothing
pub set-again : {A : Type 0} (xs : List A) (i : ℕ) (x : A) → slice_get xs i ≡ Some x → set xs i x ≡ xs
set-again [] i x at = refl
set-again (y ∷ xs) zero x at = ap (λ z. z ∷ xs) (sym (some_same y x at))
set-again (y ∷ xs) (suc i) x at = ap (λ zs. y ∷ zs) (set-again xs i x at)

-- 1 where a test holds
abbrev pub bit : Bool → ℕ
bit b = cond b 1 0

-- a count after a change at one place
pub count-set : {A : Type 0} (p : A → Bool) (xs : List A) (i : ℕ) (x y : A) → slice_get xs i ≡ Some y →
    count_by p (set xs i x) + bit (p y) ≡ count_by p xs + bit (p x)
count-set p [] i x y at = absurd (none_some y at)
count-set p (z ∷ xs) zero x y at =
    omega (
      arith,
      sum_by-cons (λ a. cond (p a) 1 0) x xs,
      sum_by-cons (λ a. cond (p a) 1 0) z xs,
      ap (λ a. bit (p a)) (some_same z y at),
    )
count-set p (z ∷ xs) (suc i) x y at =
    omega (
      arith,
      sum_by-cons (λ a. cond (p a) 1 0) z (set xs i x),
      sum_by-cons (λ a. cond (p a) 1 0) z xs,
      count-set p xs i x y at,
    )

-- two readings of a list that agree on its elements
pub filter_map-same : {A B : Type 0} (f g : A → Option B) (xs : List A) →
    ((i : ℕ) (x : A) → slice_get xs i ≡ Some x → f x ≡ g x) → filter_map f xs ≡ filter_map g xs
filter_map-same f g [] same = refl
filter_map-same f g (x ∷ xs) same =
    let head = same 0 x refl in
    let rest = filter_map-same f g xs (λ i y at. same (suc i) y at) in
    λ i. cons_option (head i) (rest i)

-- a reading that finds something for each element finds as many
pub filter_map-full : {A B : Type 0} (f : A → Option B) (xs : List A) →
    ((i : ℕ) (x : A) → slice_get xs i ≡ Some x → (y : B) × (f x ≡ Some y)) →
    length (filter_map f xs) ≡ length xs
filter_map-full f [] full = refl
filter_map-full {A} {B} f (x ∷ xs) full =
    let head = full 0 x refl in
    let rest = filter_map-full f xs (λ i y at. full (suc i) y at) in
    ap (λ (o : Option B). length (cons_option o (filter_map f xs))) head.1 ∙ ap suc rest

-- the clock of small stamps is small
pub clock-small : (high : ℕ) (stamps : List ℕ) → 0 < high → All (λ (a : ℕ). a < high) stamps →
    clock_of stamps < high
clock-small high [] some all = some
clock-small high (stamp ∷ stamps) some all =
    let head = All-head (λ (a : ℕ). a < high) stamp stamps all in
    let rest = clock-small high stamps some (All-tail (λ (a : ℕ). a < high) stamp stamps all) in
    omega (arith, head, rest)

-- what is said of an answer, where it is known
pub at_none : {X : Type 0} (A : Type 0) (B : X → Type 0) (r : Option X) → r ≡ None → MatchOption r A B → A
at_none A B None is h = h
at_none A B (Some x) is h = absurd (none_some x (sym is))

-- what is said of something that is answered, where it is known
pub at_some : {X : Type 0} (B : X → Type 0) (r : Option X) (x : X) → r ≡ Some x → IfSome r B → B x
at_some B None x is h = absurd (none_some x is)
at_some B (Some y) x is h = subst B (some_same y x is) h
