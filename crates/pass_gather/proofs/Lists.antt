-- Places of lists, and beginnings of them.
use Rattle.std.proofs.Common.{◌≡◌, ℕ, zero, suc, ◌+◌, ◌<◌, ◌≤◌, ◌⊎◌, inl, inr, List, [], ◌∷◌, ◌++◌, map}
use Rattle.std.proofs.Common.{length}
use Rattle.std.proofs.Common.{Bool, true, false, refl, sym, ap, ◌∙◌, subst, arith, Option, Some, None}
use Rattle.std.proofs.Common.{cond}
use Rattle.std.proofs.Common.{count_by}
use Rattle.std.specs.Prelude.{slice_get, slice_index_or, Contains}
use Rattle.std.specs.List.{filter_map, cons_option}
use Rattle.std.proofs.lemmas.Option.{slice_get_read}
use Rattle.std.proofs.lemmas.List.{map-append}
use Rattle.std.proofs.lemmas.List.Sums.{sum_by-cons}
use Rattle.std.proofs.lemmas.Bool.Decides.{nat_tests}
use Rattle.step_journal.specs.Histories.{IsPrefix}

-- nothing is not something
pub none_some : {A : Type 0} (x : A) → ◌≡◌ {A = Option A} None (Some x) → ⊥
none_some x e = cc e

-- what is the same as something is that
pub some_same : {A : Type 0} (x y : A) → Some x ≡ Some y → x ≡ y
some_same x y e = cc e

-- a list without elements is empty
pub nil_from_length : {A : Type 0} (xs : List A) → length xs ≡ 0 → xs ≡ []
nil_from_length [] none = refl
nil_from_length (x ∷ xs) none = absurd (omega (arith, none))

-- a number is below another one or not
pub less_or : (i n : ℕ) → (i < n) ⊎ (n ≤ i)
less_or i n = grind (arith, nat_tests)

-- what stands in the first of two lists stands in both
pub get_front : {A : Type 0} (xs ys : List A) (i : ℕ) (x : A) → slice_get xs i ≡ Some x →
    slice_get (xs ++ ys) i ≡ Some x
get_front [] ys i x e = absurd (none_some x e)
get_front (y ∷ xs) ys zero x e = e
get_front (y ∷ xs) ys (suc i) x e = get_front xs ys i x e

-- what stands in the second one stands later in both
pub get_after : {A : Type 0} (xs ys : List A) (i : ℕ) (x : A) → slice_get ys i ≡ Some x →
    slice_get (xs ++ ys) (length xs + i) ≡ Some x
get_after [] ys i x at =
    let z : 0 + i ≡ i = omega arith in subst (λ (n : ℕ). slice_get ys n ≡ Some x) (sym z) at
get_after (y ∷ xs) ys i x at =
    let z : suc (length xs) + i ≡ suc (length xs + i) = omega arith in
    subst (λ (n : ℕ). slice_get (y ∷ (xs ++ ys)) n ≡ Some x) (sym z) (get_after xs ys i x at)

-- what stands in both stands in one of them
pub get_either : {A : Type 0} (xs ys : List A) (i : ℕ) (x : A) → slice_get (xs ++ ys) i ≡ Some x →
    (slice_get xs i ≡ Some x) ⊎ ((j : ℕ) × (slice_get ys j ≡ Some x))
get_either [] ys i x at = inr (i, at)
get_either (y ∷ xs) ys zero x at = inl at
get_either (y ∷ xs) ys (suc i) x at = get_either xs ys i x at

-- what stands in a beginning stands in the whole
pub get_prefix : {A : Type 0} (xs ys : List A) (i : ℕ) (x : A) → IsPrefix xs ys → slice_get xs i ≡ Some x →
    slice_get ys i ≡ Some x
get_prefix xs ys i x front e =
    subst (λ (l : List _). slice_get l i ≡ Some x) front.1 (get_front xs front.0 i x e)

-- a beginning, mapped
pub map_prefix : {A B : Type 0} (f : A → B) (xs ys : List A) → IsPrefix xs ys →
    IsPrefix (map f xs) (map f ys)
map_prefix f xs ys front = (map f front.0, sym (map-append f xs front.0) ∙ ap (map f) front.1)

-- a place of a map
pub get_map : {A B : Type 0} (f : A → B) (xs : List A) (i : ℕ) (x : A) → slice_get xs i ≡ Some x →
    slice_get (map f xs) i ≡ Some (f x)
get_map f [] i x e = absurd (none_some x e)
get_map f (y ∷ xs) zero x e = ap (λ z. Some (f z)) (some_same y x e)
get_map f (y ∷ xs) (suc i) x e = get_map f xs i x e

-- what stands in a map comes from the same place
pub get_unmap : {A B : Type 0} (f : A → B) (xs : List A) (i : ℕ) (y : B) → slice_get (map f xs) i ≡ Some y →
    (x : A) × (slice_get xs i ≡ Some x) × (f x ≡ y)
get_unmap f [] i y e = absurd (none_some y e)
get_unmap f (x ∷ xs) zero y e = (x, refl, some_same (f x) y e)
get_unmap f (x ∷ xs) (suc i) y e = get_unmap f xs i y e

-- what stands at a place is read there
pub get_or_get : {A : Type 0} (xs : List A) (i : ℕ) (x d : A) → slice_get xs i ≡ Some x →
    slice_index_or xs i d ≡ x
get_or_get [] i x d e = absurd (none_some x e)
get_or_get (y ∷ xs) zero x d e = some_same y x e
get_or_get (y ∷ xs) (suc i) x d e = get_or_get xs i x d e

-- a place with an element is below the length
pub get_below : {A : Type 0} (xs : List A) (i : ℕ) (x : A) → slice_get xs i ≡ Some x → i < length xs
get_below [] i x e = absurd (none_some x e)
get_below (y ∷ xs) zero x e = omega arith
get_below (y ∷ xs) (suc i) x e = omega (arith, get_below xs i x e)

-- each place below the length has an element
pub get_there : {A : Type 0} (xs : List A) (i : ℕ) → i < length xs → (x : A) × (slice_get xs i ≡ Some x)
get_there [] i h = absurd (omega (arith, h))
get_there (y ∷ xs) zero h = (y, refl)
get_there (y ∷ xs) (suc i) h = get_there xs i (omega (arith, h))

-- past the end nothing is read
pub get_past : {A : Type 0} (xs : List A) (i : ℕ) (d : A) → length xs ≤ i → slice_index_or xs i d ≡ d
get_past [] i d h = refl
get_past (y ∷ xs) zero d h = absurd (omega (arith, h))
get_past (y ∷ xs) (suc i) d h = get_past xs i d (omega (arith, h))

-- two readings of a list that agree on its elements
pub filter_map_same : {A B : Type 0} (f g : A → Option B) (xs : List A) →
    ((i : ℕ) (x : A) → slice_get xs i ≡ Some x → f x ≡ g x) → filter_map f xs ≡ filter_map g xs
filter_map_same f g [] same = refl
filter_map_same f g (x ∷ xs) same =
    let head = same 0 x refl in
    let rest = filter_map_same f g xs (λ i y at. same (suc i) y at) in
    λ i. cons_option (head i) (rest i)

-- lists of one length with the same elements are one
pub same_list : {A : Type 0} (xs ys : List A) → length xs ≡ length ys →
    ((i : ℕ) (x : A) → slice_get xs i ≡ Some x → slice_get ys i ≡ Some x) → xs ≡ ys
same_list [] [] len same = refl
same_list [] (y ∷ ys) len same = absurd (omega (arith, len))
same_list (x ∷ xs) [] len same = absurd (omega (arith, len))
same_list (x ∷ xs) (y ∷ ys) len same =
    let head = some_same y x (same 0 x refl) in
    let rest = same_list xs ys (omega (arith, len)) (λ i z at. same (suc i) z at) in
    λ i. sym head i ∷ rest i

-- what a list contains stands at a place
pub get_contains : {A : Type 0} (xs : List A) (x : A) → Contains xs x → (k : ℕ) × (slice_get xs k ≡ Some x)
get_contains xs x has = (has.0, slice_get_read xs (length xs) has.0 x refl has.1 (sym has.2))

-- what stands at a place is contained
pub contains_get : {A : Type 0} (xs : List A) (k : ℕ) (x : A) → slice_get xs k ≡ Some x → Contains xs x
contains_get xs k x at = (k, get_below xs k x at, get_or_get xs k x x at)

-- what a beginning contains the whole contains
pub contains_prefix : {A : Type 0} (xs ys : List A) (x : A) → IsPrefix xs ys → Contains xs x → Contains ys x
contains_prefix xs ys x front has =
    let at = get_contains xs x has in contains_get ys at.0 x (get_prefix xs ys at.0 x front at.1)

-- 1 where a test passes
abbrev pub bit : Bool → ℕ
bit b = cond b 1 0

-- a test that passes somewhere is counted
pub counted : {A : Type 0} (p : A → Bool) (xs : List A) (i : ℕ) (x : A) → slice_get xs i ≡ Some x →
    p x ≡ true → 1 ≤ count_by p xs
counted p [] i x at is = absurd (none_some x at)
counted p (y ∷ ys) zero x at is =
    omega (arith, sum_by-cons (λ z. cond (p z) 1 0) y ys, ap bit (ap p (some_same y x at) ∙ is))
counted p (y ∷ ys) (suc i) x at is =
    omega (arith, sum_by-cons (λ z. cond (p z) 1 0) y ys, counted p ys i x at is)

-- a test that passes at most once passes at one place
pub once_at : {A : Type 0} (p : A → Bool) (xs : List A) (i j : ℕ) (x y : A) → count_by p xs ≤ 1 →
    slice_get xs i ≡ Some x → p x ≡ true → slice_get xs j ≡ Some y → p y ≡ true → i ≡ j
once_at p [] i j x y few at_i is_x at_j is_y = absurd (none_some x at_i)
once_at p (z ∷ zs) zero zero x y few at_i is_x at_j is_y = refl
once_at p (z ∷ zs) zero (suc j) x y few at_i is_x at_j is_y =
    absurd (omega (
      arith,
      few,
      sum_by-cons (λ w. cond (p w) 1 0) z zs,
      ap bit (ap p (some_same z x at_i) ∙ is_x),
      counted p zs j y at_j is_y,
    ))
once_at p (z ∷ zs) (suc i) zero x y few at_i is_x at_j is_y =
    absurd (omega (
      arith,
      few,
      sum_by-cons (λ w. cond (p w) 1 0) z zs,
      ap bit (ap p (some_same z y at_j) ∙ is_y),
      counted p zs i x at_i is_x,
    ))
once_at p (z ∷ zs) (suc i) (suc j) x y few at_i is_x at_j is_y =
    ap suc (once_at p zs i j x y (omega (arith, few, sum_by-cons (λ w. cond (p w) 1 0) z zs)) at_i is_x at_j
    is_y)

-- a test that is counted passes somewhere
pub somewhere : {A : Type 0} (p : A → Bool) (xs : List A) → 1 ≤ count_by p xs →
    (i : ℕ) × (x : A) × (slice_get xs i ≡ Some x) × (p x ≡ true)
somewhere p [] some = absurd (omega (arith, some))
somewhere p (y ∷ ys) some = one (p y) refl (sum_by-cons (λ z. cond (p z) 1 0) y ys) (somewhere p ys)
  where
    one : (b : Bool) → p y ≡ b → count_by p (y ∷ ys) ≡ bit (p y) + count_by p ys →
        (1 ≤ count_by p ys → (i : ℕ) × (x : _) × (slice_get ys i ≡ Some x) × (p x ≡ true)) →
        (i : ℕ) × (x : _) × (slice_get (y ∷ ys) i ≡ Some x) × (p x ≡ true)
    one true is count rest = (0, y, refl, is)
    one false is count rest =
        let r = rest (omega (arith, some, count, ap bit is)) in (suc r.0, r.1, r.2, r.3)
