-- What rows are in total where all places but one stand for 0, and rows with equal coefficients.
use Rattle.std.proofs.Common.{◌≡◌, ◌≢◌, ℕ, zero, suc, ap, sym, ◌∙◌, refl, arith, List, [], ◌∷◌}
use Rattle.std.proofs.Math.IntN.{ℤ, pos, ◌+ℤ◌, ◌*ℤ◌, *ℤ-zero, +ℤ_idl, +ℤ_idr, *ℤ_comm}
use Rattle.shape_terms.specs.Numbers.{coefficient, total}
use Rattle.shape_terms.proofs.Products.{one_times, nothing_times}

-- where each place stands for 0
pub total_of_none : (row : List ℤ) (f : ℕ → ℤ) → ((k : ℕ) → f k ≡ pos 0) → total row f ≡ pos 0
total_of_none [] f h = refl
total_of_none (c ∷ cs) f h =
    ap (λ z. c *ℤ z +ℤ total cs (λ k. f (suc k))) (h 0)
    ∙ ap (λ z. z +ℤ total cs (λ k. f (suc k))) (*ℤ-zero c)
    ∙ +ℤ_idl (total cs (λ k. f (suc k))) ∙ total_of_none cs (λ k. f (suc k)) (λ k. h (suc k))

times_one : (c f : ℤ) → f ≡ pos 1 → c *ℤ f ≡ c
times_one c f e = ap (λ z. c *ℤ z) e ∙ *ℤ_comm c (pos 1) ∙ one_times c

-- where one place stands for 1 and each other one for 0
pub total_of_one : (row : List ℤ) (f : ℕ → ℤ) (at : ℕ) → f at ≡ pos 1 → ((k : ℕ) → k ≢ at → f k ≡ pos 0) →
    total row f ≡ coefficient row at
total_of_one [] f at here there = refl
total_of_one (c ∷ cs) f zero here there = ap (λ z. z +ℤ total cs (λ k. f (suc k))) (times_one c (f 0) here)
    ∙ ap (λ z. c +ℤ z) (total_of_none cs (λ k. f (suc k)) (λ k. there (suc k) (omega arith))) ∙ +ℤ_idr c
total_of_one (c ∷ cs) f (suc at) here there =
    ap (λ z. c *ℤ z +ℤ total cs (λ k. f (suc k))) (there 0 (omega arith))
    ∙ ap (λ z. z +ℤ total cs (λ k. f (suc k))) (*ℤ-zero c) ∙ +ℤ_idl (total cs (λ k. f (suc k)))
    ∙ total_of_one cs (λ k. f (suc k)) at here (λ k h. there (suc k) (omega arith))

-- a row of which each coefficient is 0
pub total_of_zeros : (row : List ℤ) (f : ℕ → ℤ) → ((k : ℕ) → coefficient row k ≡ pos 0) → total row f ≡ pos 0
total_of_zeros [] f h = refl
total_of_zeros (c ∷ cs) f h = ap (λ z. z *ℤ f 0 +ℤ total cs (λ k. f (suc k))) (h 0)
    ∙ ap (λ z. pos 0 *ℤ f 0 +ℤ z) (total_of_zeros cs (λ k. f (suc k)) (λ k. h (suc k))) ∙ nothing_times (f 0)

-- rows with equal coefficients
pub total_of_same : (xs ys : List ℤ) (f : ℕ → ℤ) → ((k : ℕ) → coefficient xs k ≡ coefficient ys k) →
    total xs f ≡ total ys f
total_of_same [] ys f h = sym (total_of_zeros ys f (λ k. sym (h k)))
total_of_same (x ∷ xs) [] f h = total_of_zeros (x ∷ xs) f h
total_of_same (x ∷ xs) (y ∷ ys) f h = ap (λ z. z *ℤ f 0 +ℤ total xs (λ k. f (suc k))) (h 0)
    ∙ ap (λ z. y *ℤ f 0 +ℤ z) (total_of_same xs ys (λ k. f (suc k)) (λ k. h (suc k)))
