-- What std's stable sort gives is the sort by insertion.
use Rattle.std.proofs.Common.{◌≡◌, ℕ, suc, ◌<◌, ◌⊎◌, inl, inr, List, [], ◌∷◌, Bool, true, false, cond, not}
use Rattle.std.proofs.Common.{◌&&◌, sym, subst, ap, refl, length, get_or, arith, ◌∙◌}
use Rattle.std.specs.List.{AllByRecursion, filter}
use Rattle.std.specs.List.Sorted.{IsSortedBy, IsStableBy, ties}
use Rattle.std.specs.Cmp.{IsStrictWeakOrder}
use Rattle.std.proofs.lemmas.List.Sorted.{sorted_far}
use Rattle.loose_core.proofs.lists.Words.{Pairs, In}
use Rattle.loose_records.specs.Orders.{insert_by, sort_by}
use Rattle.loose_core.proofs.lists.Rising.{In-insert, All-In, All-from_In}

-- not after y
abbrev pub not_after : {A : Type 0} → (A → A → Bool) → A → A → Bool
not_after lt x y = not (lt y x)

-- a negation that holds
not_true : (b : Bool) → not b ≡ true → b ≡ false
not_true true h = cc h
not_true false h = refl

-- a negation that fails
not_false : (b : Bool) → not b ≡ false → b ≡ true
not_false true h = refl
not_false false h = cc h

-- of two that tie neither is below the other
ties_not : (x y : Bool) → (not x && not y) ≡ true → (x ≡ false) × (y ≡ false)
ties_not true y h = cc h
ties_not false true h = cc h
ties_not false false h = (refl, refl)

-- an element goes past those that are below it, and none of these ties with what ties with it
filter-insert : {A : Type 0} (lt : A → A → Bool) → IsStrictWeakOrder lt → (z x : A) (ys : List A) →
    filter (ties lt z) (insert_by (not_after lt) x ys) ≡ filter (ties lt z) (x ∷ ys)
filter-insert lt o z x [] = refl
filter-insert {A = A} lt o z x (y ∷ ys) = go (not (lt y x)) refl (filter-insert lt o z x ys)
  where
    go : (b : Bool) → not (lt y x) ≡ b → filter (ties lt z) (insert_by (not_after lt) x ys) ≡ filter (ties
        lt z) (x ∷ ys) → filter (ties lt z) (cond b (x ∷ (y ∷ ys)) (y ∷ insert_by (not_after lt) x ys))
        ≡ filter (ties lt z) (x ∷ (y ∷ ys))
    go true h ih = refl
    go false h ih =
        ap (λ (zs : List A). cond (ties lt z y) (y ∷ zs) zs) ih ∙ swap (ties lt z x) (ties lt z y) refl refl
      where
        swap : (a b : Bool) → ties lt z x ≡ a → ties lt z y ≡ b →
            cond b (y ∷ cond a (x ∷ filter (ties lt z) ys) (filter (ties lt z) ys))
            (cond a (x ∷ filter (ties lt z) ys) (filter (ties lt z) ys))
            ≡ cond a (x ∷ cond b (y ∷ filter (ties lt z) ys) (filter (ties lt z) ys))
            (cond b (y ∷ filter (ties lt z) ys) (filter (ties lt z) ys))
        swap true true p q =
            let below : lt y x ≡ true = not_false (lt y x) h in
            let zx = ties_not (lt z x) (lt x z) p in
            let zy = ties_not (lt z y) (lt y z) q in
            let off : lt y x ≡ false = o.chain y z x zy.1 zx.0 in
            absurd (let w : true ≡ false = sym below ∙ off in cc w)
        swap true false p q = refl
        swap false true p q = refl
        swap false false p q = refl

-- a sort keeps the order of what ties
pub filter-sort : {A : Type 0} (lt : A → A → Bool) → IsStrictWeakOrder lt → (z : A) (xs : List A) →
    filter (ties lt z) (sort_by (not_after lt) xs) ≡ filter (ties lt z) xs
filter-sort lt o z [] = refl
filter-sort {A = A} lt o z (x ∷ xs) =
    filter-insert lt o z x (sort_by (not_after lt) xs) ∙ ap (λ (zs : List A). cond (ties lt z x) (x ∷ zs)
    zs) (filter-sort lt o z xs)

-- sorted: no later element is below an earlier one
abbrev pub IsUp : {A : Type 0} → (A → A → Bool) → List A → Type 0
IsUp lt xs = Pairs (λ x y. lt y x ≡ false) xs

-- an element inserted into a sorted list leaves it sorted
insert_up : {A : Type 0} (lt : A → A → Bool) → IsStrictWeakOrder lt → (x : A) (ys : List A) → IsUp lt ys →
    IsUp lt (insert_by (not_after lt) x ys)
insert_up lt o x [] up = (tt, tt)
insert_up {A = A} lt o x (y ∷ ys) up = go (not (lt y x)) refl (insert_up lt o x ys up.1)
  where
    go : (b : Bool) → not (lt y x) ≡ b → IsUp lt (insert_by (not_after lt) x ys) →
        IsUp lt (cond b (x ∷ (y ∷ ys)) (y ∷ insert_by (not_after lt) x ys))
    go true h rest =
        let first : lt y x ≡ false = not_true (lt y x) h in (
          (
            first,
            All-from_In (λ z. lt z x ≡ false) ys (λ z i. o.chain z y x (All-In (λ z. lt z y ≡ false) ys
                z up.0 i) first),
          ),
          up,
        )
    go false h rest =
        let below : lt y x ≡ true = not_false (lt y x) h in (
          All-from_In (λ z. lt z y ≡ false) (insert_by (not_after lt) x ys)
              (λ z i. from z (In-insert (not_after lt) x z ys i) (o.one_way y x below)),
          rest,
        )
      where
        from : (z : A) → (z ≡ x) ⊎ In z ys → lt x y ≡ false → lt z y ≡ false
        from z (inl e) off = subst (λ z. lt z y ≡ false) (sym e) off
        from z (inr i) off = All-In (λ z. lt z y ≡ false) ys z up.0 i

-- a sort gives a sorted list
pub sort_up : {A : Type 0} (lt : A → A → Bool) → IsStrictWeakOrder lt → (xs : List A) →
    IsUp lt (sort_by (not_after lt) xs)
sort_up lt o [] = tt
sort_up lt o (x ∷ xs) = insert_up lt o x (sort_by (not_after lt) xs) (sort_up lt o xs)

-- each element ties with itself
ties_itself : {A : Type 0} (lt : A → A → Bool) → IsStrictWeakOrder lt → (x : A) → ties lt x x ≡ true
ties_itself lt o x = go (lt x x) refl
  where
    go : (b : Bool) → lt x x ≡ b → (not b && not b) ≡ true
    go true h = let z : lt x x ≡ false = o.one_way x x h in cc (h, z)
    go false h = refl

-- the first of a filter that passes is in the list
head_in : {A : Type 0} (test : A → Bool) (x : A) (rest ys : List A) → filter test ys ≡ x ∷ rest →
    In x ys × (test x ≡ true)
head_in test x rest [] h = cc h
head_in {A = A} test x rest (y ∷ ys) h = go (test y) refl h (head_in test x rest ys)
  where
    go : (b : Bool) → test y ≡ b → cond b (y ∷ filter test ys) (filter test ys) ≡ x ∷ rest →
        (filter test ys ≡ x ∷ rest → In x ys × (test x ≡ true)) → ((x ≡ y) ⊎ In x ys) × (test x ≡ true)
    go true e h rec = let q : y ≡ x = cc h in (inl (sym q), subst (λ (x : A). test x ≡ true) q e)
    go false e h rec = let r = rec h in (inr r.0, r.1)

-- two sorted lists whose ties stand alike are one
pub up_same : {A : Type 0} (lt : A → A → Bool) → IsStrictWeakOrder lt → (xs ys : List A) → IsUp lt xs →
    IsUp lt ys → ((z : A) → filter (ties lt z) xs ≡ filter (ties lt z) ys) → xs ≡ ys
up_same lt o [] [] ux uy h = refl
up_same lt o [] (y ∷ ys) ux uy h =
    let e : [] ≡ cond (ties lt y y) (y ∷ filter (ties lt y) ys) (filter (ties lt y) ys) = h y in
    let e' : [] ≡ y ∷ filter (ties lt y) ys =
    subst (λ b. [] ≡ cond b (y ∷ filter (ties lt y) ys) (filter (ties lt y) ys)) (ties_itself lt o y) e in
    cc e'
up_same lt o (x ∷ xs) [] ux uy h =
    let e : cond (ties lt x x) (x ∷ filter (ties lt x) xs) (filter (ties lt x) xs) ≡ [] = h x in
    let e' : x ∷ filter (ties lt x) xs ≡ [] =
    subst (λ b. cond b (x ∷ filter (ties lt x) xs) (filter (ties lt x) xs) ≡ []) (ties_itself lt o x) e in
    cc e'
up_same {A = A} lt o (x ∷ xs) (y ∷ ys) ux uy h =
    let at_x : x ∷ filter (ties lt x) xs ≡ filter (ties lt x) (y ∷ ys) =
    subst (λ b. cond b (x ∷ filter (ties lt x) xs) (filter (ties lt x) xs) ≡ filter (ties lt x) (y ∷ ys))
    (ties_itself lt o x) (h x) in
    let at_y : filter (ties lt y) (x ∷ xs) ≡ y ∷ filter (ties lt y) ys =
    subst (λ b. filter (ties lt y) (x ∷ xs) ≡ cond b (y ∷ filter (ties lt y) ys) (filter (ties lt y) ys))
    (ties_itself lt o y) (h y) in
    let x_in = head_in (ties lt x) x (filter (ties lt x) xs) (y ∷ ys) (sym at_x) in
    let y_in = head_in (ties lt y) y (filter (ties lt y) ys) (x ∷ xs) at_y in
    let tied : ties lt x y ≡ true = tie (x_in.0) (y_in.0) in
    let heads : x ≡ y = first tied at_x in
    let tails : xs ≡ ys = up_same lt o xs ys ux.1 uy.1 (λ z. rest z (ties lt z x) refl heads (h z)) in cc
  where
    no : (a : A) → lt a a ≡ false
    no a = (ties_not (lt a a) (lt a a) (ties_itself lt o a)).0

    -- neither head is below the other
    tie : (x ≡ y) ⊎ In x ys → (y ≡ x) ⊎ In y xs → ties lt x y ≡ true
    tie i j =
        let a : lt x y ≡ false = elim i [
          | inl e ↦ subst (λ z. lt x z ≡ false) e (no x)
          | inr k ↦ All-In (λ z. lt z y ≡ false) ys x uy.0 k
        ] in
        let b : lt y x ≡ false = elim j [
          | inl e ↦ subst (λ z. lt y z ≡ false) e (no y)
          | inr k ↦ All-In (λ z. lt z x ≡ false) xs y ux.0 k
        ] in
        rw (a, b) refl

    first : ties lt x y ≡ true → x ∷ filter (ties lt x) xs ≡ filter (ties lt x) (y ∷ ys) → x ≡ y
    first t e =
        let q : x ∷ filter (ties lt x) xs ≡ y ∷ filter (ties lt x) ys =
        subst (λ b. x ∷ filter (ties lt x) xs ≡ cond b (y ∷ filter (ties lt x) ys) (filter (ties lt x) ys))
        t e in cc q

    rest : (z : A) (b : Bool) → ties lt z x ≡ b → x ≡ y →
        filter (ties lt z) (x ∷ xs) ≡ filter (ties lt z) (y ∷ ys) →
        filter (ties lt z) xs ≡ filter (ties lt z) ys
    rest z b e same q =
        go b (subst (λ b. cond b (x ∷ filter (ties lt z) xs) (filter (ties lt z) xs)
        ≡ cond (ties lt z y) (y ∷ filter (ties lt z) ys) (filter (ties lt z) ys)) e q)
        (sym (ap (ties lt z) same) ∙ e)
      where
        go : (b : Bool) → cond b (x ∷ filter (ties lt z) xs) (filter (ties lt z) xs) ≡ cond (ties lt z
            y) (y ∷ filter (ties lt z) ys) (filter (ties lt z) ys) → ties lt z y ≡ b →
            filter (ties lt z) xs ≡ filter (ties lt z) ys
        go true q f =
            let r : x ∷ filter (ties lt z) xs ≡ y ∷ filter (ties lt z) ys =
            subst (λ b. x ∷ filter (ties lt z) xs ≡ cond b (y ∷ filter (ties lt z) ys)
            (filter (ties lt z) ys)) f q in cc r
        go false q f =
            subst (λ b. filter (ties lt z) xs ≡ cond b (y ∷ filter (ties lt z) ys) (filter (ties lt z) ys))
            f q

-- each two, from places
pairs-from_get_or : {A : Type 0} (R : A → A → Type 0) (xs : List A) → ((i j : ℕ) (d : A) → i < j →
    j < length xs → R (get_or xs i d) (get_or xs j d)) → Pairs R xs
pairs-from_get_or R [] f = tt
pairs-from_get_or {A = A} R (x ∷ xs) f = (
  row xs (λ j h. f 0 (suc j) x (omega arith) (omega arith)),
  pairs-from_get_or R xs
      (λ i j d h k. f (suc i) (suc j) d (omega arith) (omega arith)),
)
  where
    row : (ys : List A) → ((j : ℕ) → j < length ys → R x (get_or ys j x)) → AllByRecursion (R x) ys
    row [] g = tt
    row (y ∷ ys) g = (g 0 (omega arith), row ys (λ j h. g (suc j) (omega arith)))

-- by the clauses of std's stable sort
pub stable_sorted : {A : Type 0} (lt : A → A → Bool) → IsStrictWeakOrder lt → (xs ys : List A) →
    IsSortedBy lt ys → IsStableBy lt xs ys → ys ≡ sort_by (not_after lt) xs
stable_sorted lt o xs ys up stable =
    up_same lt o ys (sort_by (not_after lt) xs)
    (pairs-from_get_or (λ x y. lt y x ≡ false) ys (λ i j d h k. sorted_far lt o ys up i j d (omega arith)
    k))
    (sort_up lt o xs)
    (λ z. stable z ∙ sym (filter-sort lt o z xs))
