-- Products up to a cap.
use Rattle.std.proofs.Common.{◌≡◌, ℕ, zero, suc, ◌+◌, ◌*◌, ◌<◌, ◌≤◌, min, sym, ap, ◌∙◌, arith}
use Rattle.std.proofs.Common.{◌⊎◌, inl, inr, List, map, length, drop, get_or}
use Rattle.std.proofs.lemmas.Bool.{cases_lt}
use Rattle.std.proofs.Math.Nat.{min-eq_left, min-eq_right, mul-le-mul_right, mul_comm}
use Rattle.safety_check.specs.declared.region.Region.{Region}
use Rattle.safety_check.specs.Cases.{product}
use Rattle.safety_judge.proofs.Growth.{from-place}

-- a number of at least the cap is capped
capped : (n : ℕ) → 4097 ≤ n → min 4097 n ≡ 4097
capped n h = min-eq_left h

-- a number of at most the cap stays
kept : (n : ℕ) → n ≤ 4097 → min 4097 n ≡ n
kept n h = min-eq_right h

-- a product with a factor of at least the cap is 0, or it is capped
large : (x y : ℕ) → 4097 ≤ x → min 4097 (4097 * y) ≡ min 4097 (x * y)
large x zero h = ap (min 4097) (let e : 4097 * 0 ≡ x * 0 = omega arith in e)
large x (suc k) h =
    capped (4097 * suc k) (omega arith)
    ∙ sym (capped (x * suc k) (let e : 4097 * suc k ≤ x * suc k = mul-le-mul_right (suc k) h in omega (arith, e)))

-- a factor may be capped
pub cap-left : (x y : ℕ) → min 4097 (min 4097 x * y) ≡ min 4097 (x * y)
cap-left x y = by (cases_lt 4097 x)
  where
    by : (4097 < x) ⊎ (x ≤ 4097) → min 4097 (min 4097 x * y) ≡ min 4097 (x * y)
    by (inl h) =
        let e : 4097 ≤ x = omega (arith, h) in
        ap (λ z. min 4097 (z * y)) (capped x e) ∙ large x y e
    by (inr h) = ap (λ z. min 4097 (z * y)) (kept x h)

-- and the other one
pub cap-right : (x y : ℕ) → min 4097 (x * min 4097 y) ≡ min 4097 (x * y)
cap-right x y = ap (min 4097) (mul_comm x (min 4097 y))
    ∙ (cap-left y x ∙ ap (min 4097) (mul_comm y x))

-- one more factor of a product whose first factors are capped
pub cap-next : (p l rest whole next : ℕ) → next ≡ min 4097 (p * l) → min 4097 (p * (l * rest)) ≡ whole →
    min 4097 (next * rest) ≡ whole
cap-next p l rest whole next is same = ap (λ z. min 4097 (z * rest)) is
    ∙ (cap-left (p * l) rest
    ∙ (ap (min 4097) (let e : (p * l) * rest ≡ p * (l * rest) = omega arith in e) ∙ same))

-- a product of two capped products
pub cap-both : (v s a b r : ℕ) → a ≡ min 4097 v → b ≡ min 4097 s → r ≡ min 4097 (a * b) →
    r ≡ min 4097 (v * s)
cap-both v s a b r first second is = is ∙ (ap (λ z. min 4097 (z * b)) first
    ∙ (cap-left v b ∙ (ap (λ z. min 4097 (v * z)) second ∙ cap-right v s)))

-- one more place of a count of rows that is capped
pub rows-next : (xs : List (List Region)) (i : ℕ) (x : List Region) (p l next whole : ℕ) → i < length xs →
    x ≡ get_or xs i x → l ≡ length x → next ≡ min 4097 (p * l) →
    min 4097 (p * product (map (λ (rs : List Region). length rs) (drop i xs))) ≡ whole →
    min 4097 (next * product (map (λ (rs : List Region). length rs) (drop (i + 1) xs))) ≡ whole
rows-next xs i x p l next whole h at many is same =
    cap-next p (length x) (product (map (λ (rs : List Region). length rs) (drop (i + 1) xs))) whole next
    (is ∙ ap (λ n. min 4097 (p * n)) many)
    (sym (ap (λ ys. min 4097 (p * product (map (λ (rs : List Region). length rs) ys)))
    (from-place xs i x h at)) ∙ same)
