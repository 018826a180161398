-- Rows of coefficients: their places, and what they are in total.
use Rattle.std.proofs.Common.{◌≡◌, ℕ, zero, suc, ◌+◌, ◌<◌, ◌≤◌, max, take, ◌++◌, ap, sym, ◌∙◌, refl, arith}
use Rattle.std.proofs.Common.{List, [], ◌∷◌, length}
use Rattle.std.specs.Int.{w64, int_wrap}
use Rattle.std.proofs.lemmas.Int.{ints, int_wrap-mul_left}
use Rattle.std.proofs.lemmas.List.{take_more, take_all}
use Rattle.std.proofs.Math.IntN.{ℤ, pos, ◌+ℤ◌, ◌*ℤ◌, *ℤ-zero, +ℤ_idl}
use Rattle.shape_terms.specs.Numbers.{coefficient, total, with_times, rows_with}
use Rattle.shape_terms.proofs.Products.{sum_times, times_sum, product_times, nothing_times}
use Rattle.shape_terms.proofs.Wraps.{same_sums, times_wrapped}

pub length_rows : (k : ℤ) (xs ys : List ℤ) → length (rows_with k xs ys) ≡ max (length xs) (length ys)
length_rows k [] [] = refl
length_rows k [] (y ∷ ys) =
    let e : length (rows_with k [] ys) ≡ max 0 (length ys) = length_rows k [] ys in omega arith
length_rows k (x ∷ xs) [] =
    let e : length (rows_with k xs []) ≡ max (length xs) 0 = length_rows k xs [] in omega arith
length_rows k (x ∷ xs) (y ∷ ys) =
    let e : length (rows_with k xs ys) ≡ max (length xs) (length ys) = length_rows k xs ys in omega arith

pub place_of_rows : (k : ℤ) (xs ys : List ℤ) (at : ℕ) → at < max (length xs) (length ys) →
    coefficient (rows_with k xs ys) at ≡ with_times k (coefficient xs at) (coefficient ys at)
place_of_rows k [] [] at h = absurd (omega arith)
place_of_rows k [] (y ∷ ys) zero h = refl
place_of_rows k [] (y ∷ ys) (suc at) h = place_of_rows k [] ys at (omega arith)
place_of_rows k (x ∷ xs) [] zero h = refl
place_of_rows k (x ∷ xs) [] (suc at) h = place_of_rows k xs [] at (omega arith)
place_of_rows k (x ∷ xs) (y ∷ ys) zero h = refl
place_of_rows k (x ∷ xs) (y ∷ ys) (suc at) h = place_of_rows k xs ys at (omega arith)

crossed : (a b c d : ℤ) → (a +ℤ b) +ℤ (c +ℤ d) ≡ (a +ℤ c) +ℤ (b +ℤ d)
crossed a b c d = omega (arith, ints)

one_more : (k x y f s t rest : ℤ) → int_wrap w64 rest ≡ int_wrap w64 (s +ℤ k *ℤ t) →
    int_wrap w64 (with_times k x y *ℤ f +ℤ rest) ≡ int_wrap w64 ((x *ℤ f +ℤ s) +ℤ k *ℤ (y *ℤ f +ℤ t))
one_more k x y f s t rest e =
    same_sums (with_times k x y *ℤ f) (x *ℤ f +ℤ k *ℤ (y *ℤ f)) rest (s +ℤ k *ℤ t) here e
    ∙ ap (int_wrap w64)
    (crossed (x *ℤ f) (k *ℤ (y *ℤ f)) s (k *ℤ t)
    ∙ ap (λ z. (x *ℤ f +ℤ s) +ℤ z) (sym (times_sum k (y *ℤ f) t)))
  where
    here : int_wrap w64 (with_times k x y *ℤ f) ≡ int_wrap w64 (x *ℤ f +ℤ k *ℤ (y *ℤ f))
    here = ap (λ z. int_wrap w64 (z *ℤ f)) (times_wrapped k x y) ∙ int_wrap-mul_left w64 (x +ℤ k *ℤ y) f
        ∙ ap (int_wrap w64) (sum_times x (k *ℤ y) f ∙ ap (λ z. x *ℤ f +ℤ z) (product_times k y f))

-- a row and some times another one is in total the total and some times the other one
pub total_of_rows : (k : ℤ) (xs ys : List ℤ) (f : ℕ → ℤ) →
    int_wrap w64 (total (rows_with k xs ys) f) ≡ int_wrap w64 (total xs f +ℤ k *ℤ total ys f)
total_of_rows k [] [] f = ap (int_wrap w64) (sym (+ℤ_idl (k *ℤ pos 0) ∙ *ℤ-zero k))
total_of_rows k [] (y ∷ ys) f =
    one_more k (pos 0) y (f 0) (pos 0) (total ys (λ i. f (suc i))) _ (total_of_rows k [] ys (λ i. f (suc i)))
    ∙ ap (λ z. int_wrap w64 (z +ℤ k *ℤ total (y ∷ ys) f)) (nothing_times (f 0))
total_of_rows k (x ∷ xs) [] f =
    one_more k x (pos 0) (f 0) (total xs (λ i. f (suc i))) (pos 0) _ (total_of_rows k xs [] (λ i. f (suc i)))
    ∙ ap (λ z. int_wrap w64 (total (x ∷ xs) f +ℤ k *ℤ z)) (nothing_times (f 0))
total_of_rows k (x ∷ xs) (y ∷ ys) f =
    one_more k x y (f 0) (total xs (λ i. f (suc i))) (total ys (λ i. f (suc i))) _
    (total_of_rows k xs ys (λ i. f (suc i)))

-- one more place of the row that is made
pub row_grown : (k : ℤ) (xs ys row new : List ℤ) (at : ℕ) (z : ℤ) → at < max (length xs) (length ys) →
    row ≡ take at (rows_with k xs ys) → new ≡ row ++ z ∷ [] →
    z ≡ with_times k (coefficient xs at) (coefficient ys at) →
    new ≡ take (at + 1) (rows_with k xs ys)
row_grown k xs ys row new at z h before pushed value =
    pushed ∙ ap (λ l. l ++ z ∷ []) before
    ∙ ap (λ c. take at (rows_with k xs ys) ++ c ∷ []) (value ∙ sym (place_of_rows k xs ys at h))
    ∙ sym (take_more (rows_with k xs ys) at (pos 0) (omega (arith, length_rows k xs ys)))

pub row_whole : (k : ℤ) (xs ys row : List ℤ) (at : ℕ) → max (length xs) (length ys) ≤ at →
    row ≡ take at (rows_with k xs ys) → row ≡ rows_with k xs ys
row_whole k xs ys row at h e = e ∙ take_all at (rows_with k xs ys) (omega (arith, length_rows k xs ys))
