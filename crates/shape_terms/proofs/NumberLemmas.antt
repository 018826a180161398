-- What number forms stand for.
use Rattle.std.proofs.Common.{◌≡◌, ap, sym, ◌∙◌, arith}
use Rattle.std.specs.Int.{w64, int_wrap}
use Rattle.std.proofs.lemmas.Int.{ints}
use Rattle.std.proofs.Math.IntN.{ℤ, pos, negsuc, ◌+ℤ◌, ◌-ℤ◌, ◌*ℤ◌}
use Rattle.shape_terms.specs.declared.num_form.NumForm.{NumForm}
use Rattle.shape_terms.specs.Points.{Point}
use Rattle.shape_terms.specs.Numbers.{total, lengths_at, number, with_times, forms_with, plus, minus}
use Rattle.shape_terms.proofs.Products.{times_sum, one_times, minus_one_times}
use Rattle.shape_terms.proofs.Wraps.{same_sums, times_wrapped, wrapped_twice, parts_wrapped}
use Rattle.shape_terms.proofs.RowLemmas.{total_of_rows}

twice : (k x y : ℤ) → int_wrap w64 (with_times k x y) ≡ int_wrap w64 (x +ℤ k *ℤ y)
twice k x y = ap (int_wrap w64) (times_wrapped k x y) ∙ wrapped_twice (x +ℤ k *ℤ y)

three_and_three : (a b c d e f : ℤ) → (a +ℤ d) +ℤ (b +ℤ e) +ℤ (c +ℤ f) ≡ (a +ℤ b +ℤ c) +ℤ ((d +ℤ e) +ℤ f)
three_and_three a b c d e f = omega (arith, ints)

three_times : (k a b c : ℤ) → k *ℤ (a +ℤ b +ℤ c) ≡ (k *ℤ a +ℤ k *ℤ b) +ℤ k *ℤ c
three_times k a b c = times_sum k (a +ℤ b) c ∙ ap (λ z. z +ℤ k *ℤ c) (times_sum k a b)

-- a form and some times another one
pub number_with : (k : ℤ) (a b : NumForm) (p : Point) →
    number (forms_with k a b) p ≡ int_wrap w64 (number a p +ℤ k *ℤ number b p)
number_with k a b p =
    same_sums _ _ _ _
    (same_sums _ _ _ _ (twice k a.constant b.constant) (total_of_rows k a.atoms b.atoms p.atoms))
    (total_of_rows k a.lengths b.lengths (lengths_at p))
    ∙ ap (int_wrap w64) (three_and_three a.constant (total a.atoms p.atoms) (total a.lengths (lengths_at p))
    (k *ℤ b.constant) (k *ℤ total b.atoms p.atoms) (k *ℤ total b.lengths (lengths_at p))
    ∙ ap (λ z. (a.constant +ℤ total a.atoms p.atoms +ℤ total a.lengths (lengths_at p)) +ℤ z)
    (sym (three_times k b.constant (total b.atoms p.atoms) (total b.lengths (lengths_at p)))))
    ∙ sym (parts_wrapped k (a.constant +ℤ total a.atoms p.atoms +ℤ total a.lengths (lengths_at p))
    (b.constant +ℤ total b.atoms p.atoms +ℤ total b.lengths (lengths_at p)))

pub number_plus : (a b : NumForm) (p : Point) → int_wrap w64 (number a p +ℤ number b p) ≡ number (plus a b) p
number_plus a b p =
    sym (number_with (pos 1) a b p ∙ ap (λ z. int_wrap w64 (number a p +ℤ z)) (one_times (number b p)))

pub number_minus : (a b : NumForm) (p : Point) →
    int_wrap w64 (number a p -ℤ number b p) ≡ number (minus a b) p
number_minus a b p =
    sym (number_with (negsuc 0) a b p
    ∙ ap (λ z. int_wrap w64 (number a p +ℤ z)) (minus_one_times (number b p)))
