-- Where rows of coefficients differ.
use Rattle.std.specs.Prelude.{◌≡◌, ◌≢◌, ℕ, ℤ, pos, List, Bool, true, false, Option, None, Some}
use Rattle.std.specs.Int.{w64, int_wrap}
use Rattle.shape_terms.specs.declared.apart.Apart.{Apart}
use Rattle.shape_terms.specs.declared.apart.Apart.TheVariants as A
use Rattle.shape_terms.specs.declared.num_form.NumForm.{NumForm}
use Rattle.shape_terms.specs.Points.{Point, HasNumbers}
use Rattle.shape_terms.specs.Numbers.{coefficient, number}

-- whether two numbers differ, which have 64 bits
abbrev pub Differs : Bool → ℤ → ℤ → Type 0
Differs true x y = int_wrap w64 x ≢ int_wrap w64 y
Differs false x y = x ≡ y

-- a place at which two rows differ, or that there is none
abbrev pub RowsDiffer : List ℤ → List ℤ → Option ℕ → Type 0
RowsDiffer xs ys None = (at : ℕ) → coefficient xs at ≡ coefficient ys at
RowsDiffer xs ys (Some at) = int_wrap w64 (coefficient xs at) ≢ int_wrap w64 (coefficient ys at)

-- The point that tells forms apart, by what differs: their constants, else a coefficient of an atom, else
-- one of a length.
abbrev pub first_apart : Bool → Option ℕ → Option ℕ → Option Apart
first_apart true atoms lengths = Some A.Zero
first_apart false (Some at) lengths = Some (A.Atom at)
first_apart false None (Some at) = Some (A.Rest at (pos 0))
first_apart false None None = None

-- whether each coefficient of a row is 0, or a place where one isn't
abbrev pub SaysZero : List ℤ → Bool → Type 0
SaysZero row true = (at : ℕ) → coefficient row at ≡ pos 0
SaysZero row false = (at : ℕ) × (int_wrap w64 (coefficient row at) ≢ int_wrap w64 (pos 0))

-- a form that is this number at every point, or that is no number
abbrev pub SaysLiteral : NumForm → Option ℤ → Type 0
SaysLiteral form (Some z) = (p : Point) → number form p ≡ z
SaysLiteral form None = (z : ℤ) → ((p : Point) → HasNumbers p → number form p ≡ z) → ⊥

-- what a form has beside its constant at a point that tells forms apart
abbrev pub part_at : NumForm → Apart → ℤ
part_at form A.Zero = pos 0
part_at form (A.Atom at) = coefficient form.atoms at
part_at form (A.Rest at z) = coefficient form.lengths at
part_at form (A.Truth at) = pos 0
