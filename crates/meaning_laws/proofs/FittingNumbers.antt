-- Numbers of 64 bits.
use Rattle.std.specs.Prelude.{◌≡◌, ℕ, zero, suc, ◌<◌, ◌≤◌, ◌^◌, ℤ, pos, negsuc, int_rem, false}
use Rattle.std.specs.Prelude.{List, [], ◌∷◌, slice_get, slice_index_or, IfSome, All, IsTrue}
use Rattle.std.specs.Int.{w64, int_wrap}
use Rattle.std.specs.Int.RustNames.{FitsSigned, unsigned_abs}
use Rattle.std.specs.Ordering.{int_eq}
use Rattle.std.proofs.Common.{arith}
use Rattle.std.proofs.lemmas.Bool.{ltb-true, lt-ltb}
use Rattle.std.proofs.lemmas.Int.{SFits-int_wrap, fits_signed_from_abs, rem_below}
use Rattle.std.proofs.lemmas.List.Elements.{All-head, All-tail}
use Rattle.seuss_program.specs.Values.{fits}

-- a number of 64 bits
abbrev pub Fits : ℤ → Type 0
Fits z = IsTrue (fits z)

-- a number of the signed type of 64 bits is one that fits
pub fitting : (z : ℤ) → FitsSigned w64 z → Fits z
fitting (pos n) h = lt-ltb n (2 ^ 63) h.sfits
fitting (negsuc n) h = lt-ltb n (2 ^ 63) h.sfits

-- what is left of a number modulo 2 ^ 64 fits
pub wrapped-fits : (z : ℤ) → Fits (int_wrap w64 z)
wrapped-fits z = fitting (int_wrap w64 z) (SFits-int_wrap w64 z)

-- the absolute value of a number that fits
absolute : (z : ℤ) → Fits z → unsigned_abs z ≤ 2 ^ 63
absolute (pos n) h = let less = ltb-true n (2 ^ 63) h in omega (arith, less)
absolute (negsuc n) h = let less = ltb-true n (2 ^ 63) h in omega (arith, less)

-- the absolute value of a number that isn't 0
not-zero : (z : ℤ) → int_eq z (pos 0) ≡ false → 0 < unsigned_abs z
not-zero (pos zero) h = absurd (cc)
not-zero (pos (suc n)) h = omega arith
not-zero (negsuc n) h = omega arith

-- a remainder fits where the divisor does
pub remainder-fits : (x y : ℤ) → Fits y → int_eq y (pos 0) ≡ false → Fits (int_rem x y)
remainder-fits x y small differs =
    let below : unsigned_abs (int_rem x y) < unsigned_abs y = rem_below x y (not-zero y differs) in
    let most : unsigned_abs y ≤ 2 ^ 63 = absolute y small in
    fitting (int_rem x y) (fits_signed_from_abs w64 (int_rem x y) (omega (arith, below, most)))

-- a fact on all items and on another one, at what a place stands for
pub all-or : {A : Type 0} (P : A → Type 0) (xs : List A) (n : ℕ) (d : A) → All P xs → P d →
    P (slice_index_or xs n d)
all-or P [] n d all h = h
all-or P (x ∷ xs) zero d all h = All-head P x xs all
all-or P (x ∷ xs) (suc n) d all h = all-or P xs n d (All-tail P x xs all) h

-- a fact on all items, at one that may be there
pub all-get : {A : Type 0} (P : A → Type 0) (xs : List A) (n : ℕ) → All P xs → IfSome (slice_get xs n) P
all-get P [] n all = tt
all-get P (x ∷ xs) zero all = All-head P x xs all
all-get P (x ∷ xs) (suc n) all = all-get P xs n (All-tail P x xs all)
