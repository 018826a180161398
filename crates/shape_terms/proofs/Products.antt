-- Sums times a number, and products of three.
use Rattle.std.proofs.Common.{◌≡◌, zero, suc, ap, sym, ◌∙◌, arith}
use Rattle.std.proofs.lemmas.Int.{ints}
use Rattle.std.proofs.Math.IntN.{ℤ, pos, negsuc, suc_ℤ, pred_ℤ, neg_ℤ, ◌+ℤ◌, ◌-ℤ◌, ◌*ℤ◌, suc_ℤ-+ℤ}
use Rattle.std.proofs.Math.IntN.{pred_ℤ-+ℤ, suc_ℤ-*ℤ, pred_ℤ-*ℤ, zero-*ℤ, *ℤ_comm, +ℤ_idl, +ℤ_idr, +ℤ_invr}

swapped : (x y c : ℤ) → (x +ℤ y) +ℤ c ≡ (x +ℤ c) +ℤ y
swapped x y c = omega (arith, ints)

swapped_minus : (x y c : ℤ) → (x +ℤ y) -ℤ c ≡ (x -ℤ c) +ℤ y
swapped_minus x y c = omega (arith, ints)

sum_up : (a b c : ℤ) → (a +ℤ b) *ℤ c ≡ a *ℤ c +ℤ b *ℤ c → (suc_ℤ a +ℤ b) *ℤ c ≡ suc_ℤ a *ℤ c +ℤ b *ℤ c
sum_up a b c e = ap (λ z. z *ℤ c) (suc_ℤ-+ℤ a b) ∙ suc_ℤ-*ℤ (a +ℤ b) c ∙ ap (λ z. z +ℤ c) e
    ∙ swapped (a *ℤ c) (b *ℤ c) c ∙ ap (λ z. z +ℤ b *ℤ c) (sym (suc_ℤ-*ℤ a c))

sum_down : (a b c : ℤ) → (a +ℤ b) *ℤ c ≡ a *ℤ c +ℤ b *ℤ c → (pred_ℤ a +ℤ b) *ℤ c ≡ pred_ℤ a *ℤ c +ℤ b *ℤ c
sum_down a b c e = ap (λ z. z *ℤ c) (pred_ℤ-+ℤ a b) ∙ pred_ℤ-*ℤ (a +ℤ b) c ∙ ap (λ z. z -ℤ c) e
    ∙ swapped_minus (a *ℤ c) (b *ℤ c) c ∙ ap (λ z. z +ℤ b *ℤ c) (sym (pred_ℤ-*ℤ a c))

sum_none : (b c : ℤ) → (pos zero +ℤ b) *ℤ c ≡ pos zero *ℤ c +ℤ b *ℤ c
sum_none b c = ap (λ z. z *ℤ c) (+ℤ_idl b) ∙ sym (ap (λ z. z +ℤ b *ℤ c) (zero-*ℤ c) ∙ +ℤ_idl (b *ℤ c))

-- a sum times a number
pub sum_times : (a b c : ℤ) → (a +ℤ b) *ℤ c ≡ a *ℤ c +ℤ b *ℤ c
sum_times (pos zero) b c = sum_none b c
sum_times (pos (suc n)) b c = sum_up (pos n) b c (sum_times (pos n) b c)
sum_times (negsuc zero) b c = sum_down (pos zero) b c (sum_none b c)
sum_times (negsuc (suc n)) b c = sum_down (negsuc n) b c (sum_times (negsuc n) b c)

-- a number times a sum
pub times_sum : (c a b : ℤ) → c *ℤ (a +ℤ b) ≡ c *ℤ a +ℤ c *ℤ b
times_sum c a b =
    *ℤ_comm c (a +ℤ b) ∙ sum_times a b c ∙ ap (λ z. z +ℤ b *ℤ c) (*ℤ_comm a c)
    ∙ ap (λ z. c *ℤ a +ℤ z) (*ℤ_comm b c)

negated : (x y : ℤ) → x +ℤ y ≡ pos 0 → y ≡ neg_ℤ x
negated x y e = omega (arith, ints)

neg_times : (a b : ℤ) → neg_ℤ a *ℤ b ≡ neg_ℤ (a *ℤ b)
neg_times a b =
    negated (a *ℤ b) (neg_ℤ a *ℤ b)
    (sym (sum_times a (neg_ℤ a) b) ∙ ap (λ z. z *ℤ b) (+ℤ_invr a) ∙ zero-*ℤ b)

product_up : (a b c : ℤ) → (a *ℤ b) *ℤ c ≡ a *ℤ (b *ℤ c) → (suc_ℤ a *ℤ b) *ℤ c ≡ suc_ℤ a *ℤ (b *ℤ c)
product_up a b c e =
    ap (λ z. z *ℤ c) (suc_ℤ-*ℤ a b) ∙ sum_times (a *ℤ b) b c ∙ ap (λ z. z +ℤ b *ℤ c) e
    ∙ sym (suc_ℤ-*ℤ a (b *ℤ c))

product_down : (a b c : ℤ) → (a *ℤ b) *ℤ c ≡ a *ℤ (b *ℤ c) → (pred_ℤ a *ℤ b) *ℤ c ≡ pred_ℤ a *ℤ (b *ℤ c)
product_down a b c e =
    ap (λ z. z *ℤ c) (pred_ℤ-*ℤ a b) ∙ sum_times (a *ℤ b) (neg_ℤ b) c
    ∙ ap (λ z. (a *ℤ b) *ℤ c +ℤ z) (neg_times b c)
    ∙ ap (λ z. z -ℤ b *ℤ c) e ∙ sym (pred_ℤ-*ℤ a (b *ℤ c))

product_none : (b c : ℤ) → (pos zero *ℤ b) *ℤ c ≡ pos zero *ℤ (b *ℤ c)
product_none b c = ap (λ z. z *ℤ c) (zero-*ℤ b) ∙ zero-*ℤ c ∙ sym (zero-*ℤ (b *ℤ c))

-- a product times a number
pub product_times : (a b c : ℤ) → (a *ℤ b) *ℤ c ≡ a *ℤ (b *ℤ c)
product_times (pos zero) b c = product_none b c
product_times (pos (suc n)) b c = product_up (pos n) b c (product_times (pos n) b c)
product_times (negsuc zero) b c = product_down (pos zero) b c (product_none b c)
product_times (negsuc (suc n)) b c = product_down (negsuc n) b c (product_times (negsuc n) b c)

-- 1 and -1 times a number
pub one_times : (z : ℤ) → pos 1 *ℤ z ≡ z
one_times z = suc_ℤ-*ℤ (pos zero) z ∙ ap (λ y. y +ℤ z) (zero-*ℤ z) ∙ +ℤ_idl z

pub minus_one_times : (z : ℤ) → negsuc 0 *ℤ z ≡ neg_ℤ z
minus_one_times z = pred_ℤ-*ℤ (pos zero) z ∙ ap (λ y. y -ℤ z) (zero-*ℤ z) ∙ +ℤ_idl (neg_ℤ z)

-- 0 times a number, and 0
pub nothing_times : (z : ℤ) → pos 0 *ℤ z +ℤ pos 0 ≡ pos 0
nothing_times z = +ℤ_idr (pos 0 *ℤ z) ∙ zero-*ℤ z
