-- Clocks of lists whose stamps rise.
use Rattle.std.proofs.Common.{◌≡◌, ℕ, suc, ◌-◌, ◌<◌, List, [], ◌∷◌, ◌++◌, map, length}
use Rattle.std.proofs.Common.{slice_get, Some, None, refl, subst, ap, arith}
use Rattle.std.proofs.lemmas.Option.{slice_get-get_or}
use Rattle.loose_records.specs.Entries.{AreRising}
use Rattle.loose_records.specs.Turns.{clock_of}

-- the clock of stamps that rise is the last of them
pub last_clock : {A : Type 0} (f : A → ℕ) (xs : List A) (x : A) → AreRising (map f xs) →
    slice_get xs (length xs - 1) ≡ Some x → f x ≡ clock_of (map f xs)
last_clock f [] x rising at = cc at
last_clock f (y ∷ []) x rising at = let e : y ≡ x = cc at in let g = ap f e in omega (arith, g)
last_clock {A} f (y ∷ z ∷ zs) x rising at =
    let e : length (y ∷ z ∷ zs) - 1 ≡ suc (length (z ∷ zs) - 1) = omega arith in
    let there : slice_get (z ∷ zs) (length (z ∷ zs) - 1) ≡ Some x =
    subst (λ (k : ℕ). slice_get (y ∷ z ∷ zs) k ≡ Some x) e at in
    let rest : f x ≡ clock_of (map f (z ∷ zs)) =
    last_clock f (z ∷ zs) x (λ i j d a b. rising (suc i) (suc j) d (omega arith) (omega arith)) there in
    let low : f y < f z = rising 0 1 0 (omega arith) (omega arith) in
    omega (arith, rest, low)

-- without a last one it is 0
pub no_clock : {A : Type 0} (f : A → ℕ) (xs : List A) → slice_get xs (length xs - 1) ≡ None →
    0 ≡ clock_of (map f xs)
no_clock f [] at = refl
no_clock f (y ∷ ys) at =
    let l : length (y ∷ ys) - 1 < length (y ∷ ys) = omega arith in
    let e = slice_get-get_or (y ∷ ys) (length (y ∷ ys) - 1) y l in cc (at, e)

-- a stamp above the clock of a list is the clock of the longer list
pub clock_push : (stamps : List ℕ) (now : ℕ) → clock_of stamps < now →
    clock_of (stamps ++ now ∷ []) ≡ now
clock_push [] now above = omega arith
clock_push (stamp ∷ stamps) now above =
    let rest = clock_push stamps now (omega (arith, above)) in omega (arith, above, rest)
