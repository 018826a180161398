-- The length of what a form stands for.
use Rattle.std.proofs.Common.{◌≡◌, ℕ, zero, suc, ◌+◌, ap, sym, ◌∙◌, refl, arith, List, [], ◌++◌, length}
use Rattle.std.specs.Int.{w64, int_wrap}
use Rattle.std.proofs.lemmas.List.{length-append, length-map}
use Rattle.std.proofs.Math.IntN.{ℤ, pos, ◌+ℤ◌, ◌*ℤ◌, +ℤ_idl, +ℤ_idr, zero-*ℤ}
use Rattle.shape_terms.specs.declared.num_form.NumForm.{NumForm}
use Rattle.shape_terms.specs.declared.shape.Shape.{Shape}
use Rattle.shape_terms.specs.declared.shape.Shape.TheVariants as S
use Rattle.shape_terms.specs.Points.{Point}
use Rattle.shape_terms.specs.Numbers.{number, total, unit, lengths_at, literal, atom, rest_len}
use Rattle.shape_terms.specs.Sequences.{numbers, items, len}
use Rattle.shape_terms.proofs.Products.{one_times}
use Rattle.shape_terms.proofs.Wraps.{wrapped_twice, same_sums}

-- a row with the one coefficient 1
pub total_of_unit : (at : ℕ) (f : ℕ → ℤ) → total (unit at) f ≡ f at
total_of_unit zero f = +ℤ_idr (pos 1 *ℤ f 0) ∙ one_times (f 0)
total_of_unit (suc at) f = ap (λ z. z +ℤ total (unit at) (λ k. f (suc k))) (zero-*ℤ (f 0))
    ∙ +ℤ_idl (total (unit at) (λ k. f (suc k))) ∙ total_of_unit at (λ k. f (suc k))

-- what an atom, the length of a rest and a literal stand for
pub number_of_atom : (at : ℕ) (p : Point) → number (atom at) p ≡ int_wrap w64 (p.atoms at)
number_of_atom at p = ap (λ z. int_wrap w64 (pos 0 +ℤ z +ℤ pos 0)) (total_of_unit at p.atoms)
    ∙ ap (int_wrap w64) (+ℤ_idr (pos 0 +ℤ p.atoms at) ∙ +ℤ_idl (p.atoms at))

pub number_of_literal : (z : ℤ) (p : Point) → number (literal z) p ≡ int_wrap w64 z
number_of_literal z p = ap (int_wrap w64) (+ℤ_idr (z +ℤ pos 0) ∙ +ℤ_idr z)

number_of_longer : (z : ℤ) (r : ℕ) (p : Point) →
    number (record { constant = z; atoms = []; lengths = unit r }) p ≡ int_wrap w64 (z +ℤ lengths_at p r)
number_of_longer z r p = ap (λ y. int_wrap w64 (z +ℤ pos 0 +ℤ y)) (total_of_unit r (lengths_at p))
    ∙ ap (λ y. int_wrap w64 (y +ℤ lengths_at p r)) (+ℤ_idr z)

pub number_of_rest_len : (r : ℕ) (p : Point) → number (rest_len r) p ≡ int_wrap w64 (lengths_at p r)
number_of_rest_len r p = number_of_longer (pos 0) r p ∙ ap (int_wrap w64) (+ℤ_idl (lengths_at p r))

pub length_of_numbers : (xs : List NumForm) (p : Point) → length (numbers xs p) ≡ length xs
length_of_numbers xs p = length-map xs (λ (form : NumForm). number form p)

pub length_of_long : (xs ys : List NumForm) (r : ℕ) (p : Point) →
    length (items (S.Long xs r ys) p) ≡ (length xs + length ys) + length (p.rests r)
length_of_long xs ys r p = length-append (numbers xs p ++ p.rests r) (numbers ys p)
    ∙ ap (λ n. n + length (numbers ys p)) (length-append (numbers xs p) (p.rests r))
    ∙ turned _ _ _ _ _ (length_of_numbers xs p) (length_of_numbers ys p)
  where
    turned : (a b c d e : ℕ) → a ≡ d → b ≡ e → (a + c) + b ≡ (d + e) + c
    turned a b c d e f g = omega arith

pub len_means : (s : Shape) (p : Point) → int_wrap w64 (pos (length (items s p))) ≡ number (len s) p
len_means (S.Exact xs) p = ap (λ n. int_wrap w64 (pos n)) (length_of_numbers xs p)
    ∙ sym (number_of_literal (int_wrap w64 (pos (length xs))) p ∙ wrapped_twice (pos (length xs)))
len_means (S.Long xs r ys) p = ap (λ n. int_wrap w64 (pos n)) (length_of_long xs ys r p)
    ∙ sym (number_of_longer (int_wrap w64 (pos (length xs + length ys))) r p
    ∙ same_sums (int_wrap w64 (pos (length xs + length ys))) (pos (length xs + length ys)) (lengths_at p r)
    (lengths_at p r)
    (wrapped_twice (pos (length xs + length ys))) refl)
