-- Where number forms differ.
use Rattle.std.proofs.Common.{◌≡◌, ◌≢◌, ℕ, ap, sym, ◌∙◌, refl, Bool, true, false, Option, None, Some}
use Rattle.std.specs.Int.{w64, int_wrap}
use Rattle.std.proofs.Math.IntN.{ℤ, pos, ◌+ℤ◌, +ℤ_idr}
use Rattle.std.proofs.Math.Facts.{sfits_lit}
use Rattle.shape_terms.specs.declared.apart.Apart.{Apart}
use Rattle.shape_terms.specs.declared.apart.Apart.TheVariants as A
use Rattle.shape_terms.specs.declared.num_form.NumForm.{NumForm}
use Rattle.shape_terms.specs.Points.{TellsApart, alone, point_of}
use Rattle.shape_terms.specs.Numbers.{coefficient, total, lengths_at, number}
use Rattle.shape_terms.specs.Rows.{Differs, RowsDiffer, first_apart, part_at}
use Rattle.shape_terms.proofs.PointLemmas.{zero_fits, atom_fits, rest_fits, alone_here, alone_there}
use Rattle.shape_terms.proofs.PointLemmas.{length_here, length_there}
use Rattle.shape_terms.proofs.TotalLemmas.{total_of_none, total_of_one, total_of_same}
use Rattle.shape_terms.proofs.Wraps.{same_parts}

-- what a form stands for at these points
pub number_at_zero : (a : NumForm) → number a (point_of A.Zero) ≡ int_wrap w64 a.constant
number_at_zero a =
    ap (λ z. int_wrap w64 (a.constant +ℤ z +ℤ total a.lengths (λ r. pos 0)))
    (total_of_none a.atoms (λ k. pos 0) (λ k. refl))
    ∙ ap (λ z. int_wrap w64 (a.constant +ℤ pos 0 +ℤ z)) (total_of_none a.lengths (λ k. pos 0) (λ k. refl))
    ∙ ap (int_wrap w64) (+ℤ_idr (a.constant +ℤ pos 0) ∙ +ℤ_idr a.constant)

pub number_at_atom : (a : NumForm) (at : ℕ) →
    number a (point_of (A.Atom at)) ≡ int_wrap w64 (a.constant +ℤ coefficient a.atoms at)
number_at_atom a at =
    ap (λ z. int_wrap w64 (a.constant +ℤ z +ℤ total a.lengths (λ r. pos 0)))
    (total_of_one a.atoms (alone at) at (alone_here at) (alone_there at))
    ∙ ap (λ z. int_wrap w64 (a.constant +ℤ coefficient a.atoms at +ℤ z))
    (total_of_none a.lengths (λ k. pos 0) (λ k. refl))
    ∙ ap (int_wrap w64) (+ℤ_idr (a.constant +ℤ coefficient a.atoms at))

pub number_at_rest : (a : NumForm) (at : ℕ) (x : ℤ) →
    number a (point_of (A.Rest at x)) ≡ int_wrap w64 (a.constant +ℤ coefficient a.lengths at)
number_at_rest a at x =
    ap (λ z. int_wrap w64 (a.constant +ℤ z +ℤ total a.lengths (lengths_at (point_of (A.Rest at x)))))
    (total_of_none a.atoms (λ k. pos 0) (λ k. refl))
    ∙ ap (λ z. int_wrap w64 (a.constant +ℤ pos 0 +ℤ z))
    (total_of_one a.lengths (lengths_at (point_of (A.Rest at x))) at (length_here at x) (length_there at x))
    ∙ ap (λ z. int_wrap w64 (z +ℤ coefficient a.lengths at)) (+ℤ_idr a.constant)

constants_apart : (a b : NumForm) → int_wrap w64 a.constant ≢ int_wrap w64 b.constant →
    TellsApart (number a) (number b) (Some A.Zero)
constants_apart a b h = (zero_fits, λ e. h (sym (number_at_zero a) ∙ e ∙ number_at_zero b))

atoms_apart : (a b : NumForm) (at : ℕ) → a.constant ≡ b.constant →
    int_wrap w64 (coefficient a.atoms at) ≢ int_wrap w64 (coefficient b.atoms at) →
    TellsApart (number a) (number b) (Some (A.Atom at))
atoms_apart a b at same h = (
  atom_fits at,
  λ e. h (same_parts b.constant (coefficient a.atoms at) (coefficient b.atoms at)
      (ap (λ z. int_wrap w64 (z +ℤ coefficient a.atoms at)) (sym same) ∙ sym (number_at_atom a at) ∙ e
      ∙ number_at_atom b at)),
)

lengths_apart : (a b : NumForm) (at : ℕ) → a.constant ≡ b.constant →
    int_wrap w64 (coefficient a.lengths at) ≢ int_wrap w64 (coefficient b.lengths at) →
    TellsApart (number a) (number b) (Some (A.Rest at (pos 0)))
lengths_apart a b at same h = (
  rest_fits at (pos 0) (sfits_lit tt),
  λ e. h (same_parts b.constant (coefficient a.lengths at) (coefficient b.lengths at)
      (ap (λ z. int_wrap w64 (z +ℤ coefficient a.lengths at)) (sym same) ∙ sym (number_at_rest a at (pos 0))
      ∙ e ∙ number_at_rest b at (pos 0))),
)

all_same : (a b : NumForm) → a.constant ≡ b.constant → RowsDiffer a.atoms b.atoms None →
    RowsDiffer a.lengths b.lengths None →
    TellsApart (number a) (number b) None
all_same a b same atoms lengths p = ap (int_wrap w64)
    (ap (λ z. z +ℤ total a.atoms p.atoms +ℤ total a.lengths (lengths_at p)) same
    ∙ ap (λ z. b.constant +ℤ z +ℤ total a.lengths (lengths_at p))
    (total_of_same a.atoms b.atoms p.atoms atoms)
    ∙ ap (λ z. b.constant +ℤ total b.atoms p.atoms +ℤ z)
    (total_of_same a.lengths b.lengths (lengths_at p) lengths))

-- the first of constants, atoms and lengths in which two forms differ tells them apart
pub first_tells : (a b : NumForm) (constants : Bool) (atoms lengths : Option ℕ) →
    Differs constants a.constant b.constant →
    RowsDiffer a.atoms b.atoms atoms → RowsDiffer a.lengths b.lengths lengths →
    TellsApart (number a) (number b) (first_apart constants atoms lengths)
first_tells a b true atoms lengths c d e = constants_apart a b c
first_tells a b false (Some at) lengths c d e = atoms_apart a b at c d
first_tells a b false None (Some at) c d e = lengths_apart a b at c e
first_tells a b false None None c d e = all_same a b c d e

-- what a form stands for at such a point
pub number_at_point : (a : NumForm) (at : Apart) →
    int_wrap w64 (a.constant +ℤ part_at a at) ≡ number a (point_of at)
number_at_point a A.Zero = ap (int_wrap w64) (+ℤ_idr a.constant) ∙ sym (number_at_zero a)
number_at_point a (A.Atom at) = sym (number_at_atom a at)
number_at_point a (A.Rest at x) = sym (number_at_rest a at x)
number_at_point a (A.Truth at) = ap (int_wrap w64) (+ℤ_idr a.constant) ∙ sym (number_at_zero a)
