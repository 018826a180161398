-- Sums modulo 2 ^ 64: to reduce a part changes nothing.
use Rattle.std.proofs.Common.{◌≡◌, ℕ, ◌+◌, ◌%◌, ◌^◌, ◌<◌, to_z, of_z, ap, sym, ◌∙◌, arith}
use Rattle.std.specs.Int.{w64, int_wrap}
use Rattle.std.specs.Int.RustNames.{FitsSigned}
use Rattle.std.proofs.lemmas.Int.{ints, to_z-of_z, int_wrap_fits, int_wrap-add_left, int_wrap-add_right}
use Rattle.std.proofs.lemmas.Int.{int_wrap-mul_right, int_wrap-add_same}
use Rattle.std.proofs.Math.IntN.{ℤ, pos, neg_ℤ, ◌+ℤ◌, ◌*ℤ◌, +ℤ_comm}
use Rattle.shape_terms.specs.Numbers.{with_times}

-- parts that are the same modulo 2 ^ 64 have sums that are
pub same_sums : (a a' b b' : ℤ) → int_wrap w64 a ≡ int_wrap w64 a' → int_wrap w64 b ≡ int_wrap w64 b' →
    int_wrap w64 (a +ℤ b) ≡ int_wrap w64 (a' +ℤ b')
same_sums a a' b b' e f = int_wrap-add_same w64 a a' b e ∙ ap (int_wrap w64) (+ℤ_comm a' b)
    ∙ int_wrap-add_same w64 b b' a' f ∙ ap (int_wrap w64) (+ℤ_comm b' a')

added_back : (c x : ℤ) → (c +ℤ x) +ℤ neg_ℤ c ≡ x
added_back c x = omega (arith, ints)

-- a part that is the same in both sums can be left out
pub same_parts : (c x y : ℤ) → int_wrap w64 (c +ℤ x) ≡ int_wrap w64 (c +ℤ y) →
    int_wrap w64 x ≡ int_wrap w64 y
same_parts c x y e =
    ap (int_wrap w64) (sym (added_back c x)) ∙ int_wrap-add_same w64 (c +ℤ x) (c +ℤ y) (neg_ℤ c) e
    ∙ ap (int_wrap w64) (added_back c y)

-- numbers of 64 bits that are the same modulo 2 ^ 64 are the same
pub same_fitting : (x y : ℤ) → FitsSigned w64 x → FitsSigned w64 y → int_wrap w64 x ≡ int_wrap w64 y → x ≡ y
same_fitting x y p q e = sym (int_wrap_fits w64 x p) ∙ e ∙ int_wrap_fits w64 y q

-- a number and some times another one
pub times_wrapped : (k x y : ℤ) → with_times k x y ≡ int_wrap w64 (x +ℤ k *ℤ y)
times_wrapped k x y = int_wrap-add_right w64 x (k *ℤ y)

zero_added : (z : ℤ) → z +ℤ pos 0 ≡ z
zero_added z = omega (arith, ints)

-- to reduce twice is to reduce once
pub wrapped_twice : (z : ℤ) → int_wrap w64 (int_wrap w64 z) ≡ int_wrap w64 z
wrapped_twice z =
    ap (int_wrap w64) (sym (zero_added (int_wrap w64 z))) ∙ int_wrap-add_left w64 z (pos 0)
    ∙ ap (int_wrap w64) (zero_added z)

pub parts_wrapped : (k s t : ℤ) →
    int_wrap w64 (int_wrap w64 s +ℤ k *ℤ int_wrap w64 t) ≡ int_wrap w64 (s +ℤ k *ℤ t)
parts_wrapped k s t = same_sums (int_wrap w64 s) s (k *ℤ int_wrap w64 t) (k *ℤ t)
    (wrapped_twice s) (int_wrap-mul_right w64 k t)

-- a count of 64 bits, seen with its sign
pub counted : (n : ℕ) → n < 2 ^ 64 → int_wrap w64 (pos n) ≡ to_z w64 n
unfolding int_wrap
counted n h = ap (to_z w64) (small n h)
  where
    small : (n : ℕ) → n < 2 ^ 64 → n % 2 ^ 64 ≡ n
    small n h = omega arith

-- the sum of two counts
pub counts_added : (a b : ℕ) (x y : ℤ) → x ≡ int_wrap w64 (pos a) → y ≡ int_wrap w64 (pos b) →
    int_wrap w64 (x +ℤ y) ≡ int_wrap w64 (pos (a + b))
counts_added a b x y e f =
    same_sums x (pos a) y (pos b) (ap (int_wrap w64) e ∙ wrapped_twice (pos a))
    (ap (int_wrap w64) f ∙ wrapped_twice (pos b))

-- a number of 64 bits is that of its bits
pub of_bits : (z : ℤ) → FitsSigned w64 z → to_z w64 (of_z w64 z) ≡ z
of_bits z h = to_z-of_z w64 z h

pub sums_of : (x y a b : ℤ) → x ≡ a → y ≡ b → int_wrap w64 (x +ℤ y) ≡ int_wrap w64 (a +ℤ b)
sums_of x y a b e f = ap (λ z. int_wrap w64 (z +ℤ y)) e ∙ ap (λ z. int_wrap w64 (a +ℤ z)) f
