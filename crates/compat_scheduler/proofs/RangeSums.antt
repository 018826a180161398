-- Sums over the numbers from 0 up to before a number.
use Rattle.std.proofs.Common.{◌≡◌, ℕ, ◌+◌, ◌<◌, ◌≤◌, zero, suc, refl, ap, ◌∙◌, ⊎_elim, arith}
use Rattle.std.specs.List.{range_with_len, sum_by}
use Rattle.std.proofs.lemmas.Bool.{cases_eq}
use Rattle.std.proofs.lemmas.List.Sums.{sum_by_push}
use Rattle.compat_scheduler.proofs.Ranges.{range_with_len_more}

-- one number more
sum_more : (f : ℕ → ℕ) (n : ℕ) → sum_by f (range_with_len 0 (suc n)) ≡ sum_by f (range_with_len 0 n) + f n
sum_more f n =
    let next : suc n ≡ n + 1 = omega arith in
    ap (λ k. sum_by f (range_with_len 0 k)) next ∙ ap (sum_by f) (range_with_len_more n)
    ∙ sum_by_push f (range_with_len 0 n) n

-- what agrees at each number has one sum
pub range_sum_same : (f g : ℕ → ℕ) (n : ℕ) → ((j : ℕ) → j < n → g j ≡ f j) →
    sum_by g (range_with_len 0 n) ≡ sum_by f (range_with_len 0 n)
range_sum_same f g zero same = refl
range_sum_same f g (suc n) same =
    omega (
      arith,
      sum_more f n,
      sum_more g n,
      same n (omega arith),
      range_sum_same f g n (λ j h. same j (omega arith)),
    )

-- what agrees but at one number differs in the sum as it does there
pub range_sum_changed : (f g : ℕ → ℕ) (n i : ℕ) → i < n → ((j : ℕ) → j < n → (j ≡ i → ⊥) → g j ≡ f j) →
    sum_by g (range_with_len 0 n) + f i ≡ sum_by f (range_with_len 0 n) + g i
range_sum_changed f g zero i within same = absurd (omega arith)
range_sum_changed f g (suc n) i within same =
    ⊎_elim
    (λ (e : n ≡ i). omega (
      arith,
      sum_more f n,
      sum_more g n,
      ap f e,
      ap g e,
      range_sum_same f g n (λ j h. same j (omega arith) (λ d. omega (arith, d, e, h))),
    ))
    (λ (d : n ≡ i → ⊥). omega (
      arith,
      sum_more f n,
      sum_more g n,
      same n (omega arith) d,
      range_sum_changed f g n i (omega (arith, d)) (λ j h differ. same j (omega arith) differ),
    ))
    (cases_eq n i)

-- each part is within the sum
pub range_sum_least : (f : ℕ → ℕ) (n i : ℕ) → i < n → f i ≤ sum_by f (range_with_len 0 n)
range_sum_least f zero i within = absurd (omega arith)
range_sum_least f (suc n) i within =
    ⊎_elim (λ (e : n ≡ i). omega (arith, sum_more f n, ap f e))
    (λ (d : n ≡ i → ⊥). omega (arith, sum_more f n, range_sum_least f n i (omega (arith, d))))
    (cases_eq n i)

-- where each part is 0 so is the sum
pub range_sum_none : (f : ℕ → ℕ) (n : ℕ) → ((i : ℕ) → i < n → f i ≡ 0) →
    sum_by f (range_with_len 0 n) ≡ 0
range_sum_none f zero none = refl
range_sum_none f (suc n) none =
    omega (arith, sum_more f n, none n (omega arith), range_sum_none f n (λ i h. none i (omega arith)))
