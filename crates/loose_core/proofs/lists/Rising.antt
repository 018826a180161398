-- Lists whose stamps rise, and what a sort by insertion keeps.
use Rattle.std.proofs.Common.{◌≡◌, ℕ, zero, suc, ◌<◌, ◌≤◌, ◌⊎◌, inl, inr, List, [], ◌∷◌, Bool, true, false}
use Rattle.std.proofs.Common.{cond, sym, subst, ap, refl, slice_get, Some, arith, ◌∙◌}
use Rattle.std.specs.List.{AllByRecursion, filter}
use Rattle.loose_core.proofs.lists.Words.{Pairs}
use Rattle.loose_core.proofs.lists.Words.{RisesFrom, In}
use Rattle.loose_records.specs.Orders.{insert_by, sort_by}

-- an element stands at a place
pub In-get : {A : Type 0} (x : A) (xs : List A) → In x xs → (k : ℕ) × (slice_get xs k ≡ Some x)
In-get x [] h = absurd h
In-get x (y ∷ xs) (inl e) = (0, ap Some (sym e))
In-get x (y ∷ xs) (inr h) = let r = In-get x xs h in (suc r.0, r.1)

-- what stands at a place is an element
pub get-In : {A : Type 0} (x : A) (xs : List A) (k : ℕ) → slice_get xs k ≡ Some x → In x xs
get-In x [] k e = cc e
get-In x (y ∷ xs) zero e = inl (let q : y ≡ x = cc e in sym q)
get-In x (y ∷ xs) (suc k) e = inr (get-In x xs k e)

-- what holds of each holds of an element
pub All-In : {A : Type 0} (P : A → Type 0) (xs : List A) (x : A) → AllByRecursion P xs → In x xs → P x
All-In P [] x all h = absurd h
All-In P (y ∷ xs) x all (inl e) = subst P (sym e) all.0
All-In P (y ∷ xs) x all (inr h) = All-In P xs x all.1 h

-- what holds of every element holds of each
pub All-from_In : {A : Type 0} (P : A → Type 0) (xs : List A) → ((x : A) → In x xs → P x) →
    AllByRecursion P xs
All-from_In P [] f = tt
All-from_In P (x ∷ xs) f = (f x (inl refl), All-from_In P xs (λ y h. f y (inr h)))

-- an element that a test keeps
pub In-filter : {A : Type 0} (test : A → Bool) (x : A) (xs : List A) → In x (filter test xs) →
    In x xs × (test x ≡ true)
In-filter test x [] h = absurd h
In-filter test x (y ∷ xs) h = go (test y) refl h (In-filter test x xs)
  where
    go : (b : Bool) → test y ≡ b → In x (cond b (y ∷ filter test xs) (filter test xs)) →
        (In x (filter test xs) → In x xs × (test x ≡ true)) → ((x ≡ y) ⊎ In x xs) × (test x ≡ true)
    go true e (inl q) rest = (inl q, ap test q ∙ e)
    go true e (inr h) rest = let r = rest h in (inr r.0, r.1)
    go false e h rest = let r = rest h in (inr r.0, r.1)

-- a test keeps each element that passes
pub filter-In : {A : Type 0} (test : A → Bool) (x : A) (xs : List A) → In x xs → test x ≡ true →
    In x (filter test xs)
filter-In test x [] h e = absurd h
filter-In test x (y ∷ xs) h e = go (test y) refl h (λ h. filter-In test x xs h e)
  where
    go : (b : Bool) → test y ≡ b → (x ≡ y) ⊎ In x xs → (In x xs → In x (filter test xs)) →
        In x (cond b (y ∷ filter test xs) (filter test xs))
    go true q (inl h) rest = inl h
    go true q (inr h) rest = inr (rest h)
    go false q (inl h) rest = absurd (let z : true ≡ false = sym e ∙ (ap test h ∙ q) in cc z)
    go false q (inr h) rest = rest h

-- what rises from a stamp rises from a lower one
pub RisesFrom-lower : {A : Type 0} (stamp : A → ℕ) (r s : ℕ) (xs : List A) → r ≤ s → RisesFrom stamp s xs →
    RisesFrom stamp r xs
RisesFrom-lower stamp r s [] l h = tt
RisesFrom-lower stamp r s (x ∷ xs) l h = (omega (arith, h.0), h.1)

-- each of the list is above the stamp that it rises from
pub RisesFrom-above : {A : Type 0} (stamp : A → ℕ) (s : ℕ) (xs : List A) → RisesFrom stamp s xs → (x : A) →
    In x xs → s < stamp x
RisesFrom-above stamp s [] h x i = absurd i
RisesFrom-above stamp s (y ∷ xs) h x (inl e) = subst (λ y. s < stamp y) (sym e) h.0
RisesFrom-above stamp s (y ∷ xs) h x (inr i) =
    let l : stamp y < stamp x = RisesFrom-above stamp (stamp y) xs h.1 x i in omega (arith, h.0)

-- what a test keeps rises
pub RisesFrom-filter : {A : Type 0} (stamp : A → ℕ) (test : A → Bool) (s : ℕ) (xs : List A) →
    RisesFrom stamp s xs → RisesFrom stamp s (filter test xs)
RisesFrom-filter stamp test s [] h = tt
RisesFrom-filter stamp test s (x ∷ xs) h = go (test x) (RisesFrom-filter stamp test (stamp x) xs h.1)
  where
    go : (b : Bool) → RisesFrom stamp (stamp x) (filter test xs) →
        RisesFrom stamp s (cond b (x ∷ filter test xs) (filter test xs))
    go true r = (h.0, r)
    go false r = RisesFrom-lower stamp s (stamp x) (filter test xs) (omega (arith, h.0)) r

-- two lists that rise and have the same elements are one
pub rising_same : {A : Type 0} (stamp : A → ℕ) (r s : ℕ) (xs ys : List A) → RisesFrom stamp r xs →
    RisesFrom stamp s ys → ((x : A) → In x xs → In x ys) → ((x : A) → In x ys → In x xs) → xs ≡ ys
rising_same stamp r s [] [] hx hy f g = refl
rising_same stamp r s [] (y ∷ ys) hx hy f g = absurd (g y (inl refl))
rising_same stamp r s (x ∷ xs) [] hx hy f g = absurd (f x (inl refl))
rising_same {A = A} stamp r s (x ∷ xs) (y ∷ ys) hx hy f g =
    let e : x ≡ y = heads (f x (inl refl)) (g y (inl refl)) in
    let t : xs ≡ ys = rising_same stamp (stamp x) (stamp y) xs ys hx.1 hy.1
    (λ z i. tail z y ys (subst (λ w. stamp w < stamp z) e (RisesFrom-above stamp (stamp x) xs hx.1 z
    i)) (f z (inr i)))
    (λ z i. tail z x xs (subst (λ w. stamp w < stamp z) (sym e) (RisesFrom-above stamp (stamp y) ys
    hy.1 z i)) (g z (inr i))) in
    cc
  where
    tail : (z w : A) (ws : List A) → stamp w < stamp z → (z ≡ w) ⊎ In z ws → In z ws
    tail z w ws l (inl e) = let q : stamp z ≡ stamp w = ap stamp e in absurd (omega arith)
    tail z w ws l (inr i) = i

    heads : (x ≡ y) ⊎ In x ys → (y ≡ x) ⊎ In y xs → x ≡ y
    heads (inl e) i = e
    heads (inr i) (inl e) = sym e
    heads (inr i) (inr j) =
        let a : stamp y < stamp x = RisesFrom-above stamp (stamp y) ys hy.1 x i in
        let b : stamp x < stamp y = RisesFrom-above stamp (stamp x) xs hx.1 y j in absurd (omega arith)

-- what holds of each two of these, where the first has the lower stamp
pub rising_pairs : {A : Type 0} (stamp : A → ℕ) (P : A → Type 0) (R : A → A → Type 0) →
    ((x y : A) → P x → P y → stamp x < stamp y → R x y) → (s : ℕ) (xs : List A) → RisesFrom stamp s xs →
    AllByRecursion P xs → Pairs R xs
rising_pairs stamp P R f s [] h all = tt
rising_pairs stamp P R f s (x ∷ xs) h all = (
  All-from_In (R x) xs (λ y i. f x y all.0 (All-In P xs y all.1 i) (RisesFrom-above stamp (stamp x) xs
      h.1 y i)),
  rising_pairs stamp P R f (stamp x) xs h.1 all.1,
)

-- what stands in a list with one inserted
pub In-insert : {A : Type 0} (le : A → A → Bool) (x z : A) (ys : List A) → In z (insert_by le x ys) →
    (z ≡ x) ⊎ In z ys
In-insert le x z [] h = h
In-insert le x z (y ∷ ys) h = go (le x y) h (In-insert le x z ys)
  where
    go : (b : Bool) → In z (cond b (x ∷ (y ∷ ys)) (y ∷ insert_by le x ys)) → (In z (insert_by le x ys) →
        (z ≡ x) ⊎ In z ys) → (z ≡ x) ⊎ ((z ≡ y) ⊎ In z ys)
    go true h rest = h
    go false (inl e) rest = inr (inl e)
    go false (inr i) rest = elim (rest i) [ inl e ↦ inl e | inr j ↦ inr (inr j) ]

-- an inserted element and the others stand there
pub insert-In : {A : Type 0} (le : A → A → Bool) (x z : A) (ys : List A) → (z ≡ x) ⊎ In z ys →
    In z (insert_by le x ys)
insert-In le x z [] h = h
insert-In le x z (y ∷ ys) h = go (le x y) h (insert-In le x z ys)
  where
    go : (b : Bool) → (z ≡ x) ⊎ ((z ≡ y) ⊎ In z ys) → ((z ≡ x) ⊎ In z ys → In z (insert_by le x ys)) →
        In z (cond b (x ∷ (y ∷ ys)) (y ∷ insert_by le x ys))
    go true h rest = h
    go false (inl e) rest = inr (rest (inl e))
    go false (inr (inl e)) rest = inl e
    go false (inr (inr i)) rest = inr (rest (inr i))

-- a sorted list has no other elements
pub In-sort : {A : Type 0} (le : A → A → Bool) (z : A) (xs : List A) → In z (sort_by le xs) → In z xs
In-sort le z [] h = h
In-sort le z (x ∷ xs) h =
    elim (In-insert le x z (sort_by le xs) h) [ inl e ↦ inl e | inr i ↦ inr (In-sort le z xs i) ]

-- and has each of them
pub sort-In : {A : Type 0} (le : A → A → Bool) (z : A) (xs : List A) → In z xs → In z (sort_by le xs)
sort-In le z [] h = h
sort-In le z (x ∷ xs) (inl e) = insert-In le x z (sort_by le xs) (inl e)
sort-In le z (x ∷ xs) (inr i) = insert-In le x z (sort_by le xs) (inr (sort-In le z xs i))

-- R holds of each two with one inserted where it holds of it and each other one, in order by le
insert-pairs : {A : Type 0} (le : A → A → Bool) (R : A → A → Type 0) (x : A) (ys : List A) →
    ((z : A) → In z ys → (le x z ≡ true → R x z) × (le x z ≡ false → R z x)) →
    ((y z : A) → In y ys → In z ys → R y z → le x y ≡ true → le x z ≡ true) → Pairs R ys →
    Pairs R (insert_by le x ys)
insert-pairs le R x [] f up pairs = (tt, tt)
insert-pairs {A = A} le R x (y ∷ ys) f up pairs =
    go (le x y) refl (insert-pairs le R x ys (λ z i. f z (inr i)) (λ a b i j. up a b (inr i) (inr j))
    pairs.1)
  where
    go : (b : Bool) → le x y ≡ b → Pairs R (insert_by le x ys) →
        Pairs R (cond b (x ∷ (y ∷ ys)) (y ∷ insert_by le x ys))
    go true e rest = (
      (
        (f y (inl refl)).0 e,
        All-from_In (R x) ys (λ z i. (f z (inr i)).0 (up y z (inl refl) (inr i)
            (All-In (R y) ys z pairs.0 i) e)),
      ),
      pairs,
    )
    go false e rest = (All-from_In (R y) (insert_by le x ys) (λ z i. from z (In-insert le x z ys i)), rest)
      where
        from : (z : A) → (z ≡ x) ⊎ In z ys → R y z
        from z (inl q) = subst (R y) (sym q) ((f y (inl refl)).1 e)
        from z (inr i) = All-In (R y) ys z pairs.0 i

-- what holds of each two of a list both ways holds of each two of the sorted list, in order
pub sort-pairs : {A : Type 0} (le : A → A → Bool) (D R : A → A → Type 0) →
    ((x z : A) → D x z → (le x z ≡ true → R x z) × (le x z ≡ false → R z x)) → ((x y z : A) → R y z → le x y
    ≡ true → le x z ≡ true) → (xs : List A) → Pairs D xs → Pairs R (sort_by le xs)
sort-pairs le D R f up [] pairs = tt
sort-pairs le D R f up (x ∷ xs) pairs =
    insert-pairs le R x (sort_by le xs) (λ z i. f x z (All-In (D x) xs z pairs.0 (In-sort le z xs i)))
    (λ y z i j r e. up x y z r e) (sort-pairs le D R f up xs pairs.1)
