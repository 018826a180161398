-- Forms without coefficients are numbers, and no other forms are.
use Rattle.std.proofs.Common.{◌≡◌, ℕ, ap, sym, ◌∙◌, Bool, true, false, None, Some}
use Rattle.std.specs.Prelude.{◌&&◌, if◌then◌else◌}
use Rattle.std.specs.Int.{w64, int_wrap}
use Rattle.std.specs.Int.RustNames.{FitsSigned}
use Rattle.std.proofs.lemmas.Int.{int_wrap_fits}
use Rattle.std.proofs.Math.IntN.{ℤ, pos, ◌+ℤ◌, +ℤ_idr}
use Rattle.shape_terms.specs.declared.apart.Apart.TheVariants as A
use Rattle.shape_terms.specs.declared.num_form.NumForm.{NumForm}
use Rattle.shape_terms.specs.Points.{Point, HasNumbers, point_of}
use Rattle.shape_terms.specs.Numbers.{coefficient, number, total, lengths_at}
use Rattle.shape_terms.specs.Rows.{SaysZero, SaysLiteral}
use Rattle.shape_terms.proofs.PointLemmas.{zero_fits, atom_fits, rest_fits}
use Rattle.shape_terms.proofs.ApartLemmas.{number_at_zero, number_at_atom, number_at_rest}
use Rattle.shape_terms.proofs.TotalLemmas.{total_of_zeros}
use Rattle.shape_terms.proofs.Wraps.{same_parts}
use Rattle.std.proofs.Math.Facts.{sfits_lit}

-- a form with the same number at every point that has numbers
abbrev pub IsAlways : NumForm → ℤ → Type 0
IsAlways form z = (p : Point) → HasNumbers p → number form p ≡ z

flat : (form : NumForm) (p : Point) → ((at : ℕ) → coefficient form.atoms at ≡ pos 0) →
    ((at : ℕ) → coefficient form.lengths at ≡ pos 0) →
    number form p ≡ int_wrap w64 form.constant
flat form p atoms lengths =
    ap (λ z. int_wrap w64 (form.constant +ℤ z +ℤ total form.lengths (lengths_at p)))
    (total_of_zeros form.atoms p.atoms atoms)
    ∙ ap (λ z. int_wrap w64 (form.constant +ℤ pos 0 +ℤ z))
    (total_of_zeros form.lengths (lengths_at p) lengths)
    ∙ ap (int_wrap w64) (+ℤ_idr (form.constant +ℤ pos 0) ∙ +ℤ_idr form.constant)

same_as_none : (c x z : ℤ) → int_wrap w64 c ≡ z → int_wrap w64 (c +ℤ x) ≡ z →
    int_wrap w64 x ≡ int_wrap w64 (pos 0)
same_as_none c x z e f = same_parts c x (pos 0) (f ∙ sym e ∙ ap (int_wrap w64) (sym (+ℤ_idr c)))

-- what a form is, by what is known of its rows
pub says_literal : (form : NumForm) (atoms lengths : Bool) → FitsSigned w64 form.constant →
    SaysZero form.atoms atoms → SaysZero form.lengths lengths →
    SaysLiteral form (if atoms && lengths then Some form.constant else None)
says_literal form true true fits a l = λ p. flat form p a l ∙ int_wrap_fits w64 form.constant fits
says_literal form true false fits a (at, differs) =
    λ z always. differs (same_as_none form.constant (coefficient form.lengths at) z
    (sym (number_at_zero form) ∙ always (point_of A.Zero) zero_fits)
    (sym (number_at_rest form at (pos 0))
    ∙ always (point_of (A.Rest at (pos 0))) (rest_fits at (pos 0) (sfits_lit tt))))
says_literal form false lengths fits (at, differs) l =
    λ z always. differs (same_as_none form.constant (coefficient form.atoms at) z
    (sym (number_at_zero form) ∙ always (point_of A.Zero) zero_fits)
    (sym (number_at_atom form at) ∙ always (point_of (A.Atom at)) (atom_fits at)))
