-- Members of lists, by cases on the list.
use Rattle.std.proofs.Common.{◌≡◌, ℕ, zero, suc, ◌<◌, ◌⊎◌, inl, inr, ⊎_elim, arith, List, [], ◌∷◌, ◌++◌}
use Rattle.std.proofs.Common.{length, get_or, map, refl, sym, ap, subst}
use Rattle.std.specs.List.{flat_map, Contains}

abbrev pub Within : {X : Type 0} → List X → X → Type 0
Within [] x = ⊥
Within (y ∷ ys) x = (y ≡ x) ⊎ Within ys x

pub within_left : {X : Type 0} (xs ys : List X) (x : X) → Within xs x → Within (xs ++ ys) x
within_left [] ys x h = absurd h
within_left (z ∷ xs) ys x (inl e) = inl e
within_left (z ∷ xs) ys x (inr h) = inr (within_left xs ys x h)

pub within_right : {X : Type 0} (xs ys : List X) (x : X) → Within ys x → Within (xs ++ ys) x
within_right [] ys x h = h
within_right (z ∷ xs) ys x h = inr (within_right xs ys x h)

pub within_map : {X Y : Type 0} (f : X → Y) (xs : List X) (x : X) → Within xs x → Within (map f xs) (f x)
within_map f [] x h = absurd h
within_map f (z ∷ xs) x (inl e) = inl (ap f e)
within_map f (z ∷ xs) x (inr h) = inr (within_map f xs x h)

pub within_flat : {X Y : Type 0} (f : X → List Y) (xs : List X) (x : X) (y : Y) → Within xs x →
    Within (f x) y → Within (flat_map f xs) y
within_flat f [] x y h k = absurd h
within_flat f (z ∷ xs) x y (inl e) k =
    within_left (f z) (flat_map f xs) y (subst (λ w. Within (f w) y) (sym e) k)
within_flat f (z ∷ xs) x y (inr h) k = within_right (f z) (flat_map f xs) y (within_flat f xs x y h k)

pub contains : {X : Type 0} (xs : List X) (x : X) → Within xs x → Contains xs x
contains [] x h = absurd h
contains (z ∷ xs) x (inl e) = (0, omega arith, e)
contains (z ∷ xs) x (inr h) =
    let found : Contains xs x = contains xs x h in (suc found.0, omega (arith, found.1), found.2)

pub within_append_back : {X : Type 0} (xs ys : List X) (x : X) → Within (xs ++ ys) x →
    Within xs x ⊎ Within ys x
within_append_back [] ys x h = inr h
within_append_back (z ∷ xs) ys x (inl e) = inl (inl e)
within_append_back (z ∷ xs) ys x (inr h) =
    ⊎_elim (λ (l : Within xs x). inl (inr l)) (λ (r : Within ys x). inr r) (within_append_back xs ys x h)

pub within_map_back : {X Y : Type 0} (f : X → Y) (xs : List X) (y : Y) → Within (map f xs) y →
    (x : X) × Within xs x × (f x ≡ y)
within_map_back f [] y h = absurd h
within_map_back f (z ∷ xs) y (inl e) = (z, inl refl, e)
within_map_back {X} f (z ∷ xs) y (inr h) =
    let found : (x : X) × Within xs x × (f x ≡ y) = within_map_back f xs y h in
    (found.0, inr found.1, found.2)

pub within_flat_back : {X Y : Type 0} (f : X → List Y) (xs : List X) (y : Y) → Within (flat_map f xs) y →
    (x : X) × Within xs x × Within (f x) y
within_flat_back f [] y h = absurd h
within_flat_back {X} f (z ∷ xs) y h = ⊎_elim (λ (l : Within (f z) y). (z, inl refl, l))
    (λ (r : Within (flat_map f xs) y).
    let found : (x : X) × Within xs x × Within (f x) y = within_flat_back f xs y r in
    (found.0, inr found.1, found.2))
    (within_append_back (f z) (flat_map f xs) y h)

pub within_at : {X : Type 0} (xs : List X) (k : ℕ) (x : X) → k < length xs → get_or xs k x ≡ x → Within xs x
within_at [] k x h e = absurd (omega arith)
within_at (z ∷ xs) zero x h e = inl e
within_at (z ∷ xs) (suc k) x h e = inr (within_at xs k x (omega arith) e)
