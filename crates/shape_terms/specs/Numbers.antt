-- A number form is a sum: a constant, and a coefficient for each atom and for the length of each unknown
-- rest. Coefficients that aren't written are 0.
use Rattle.std.specs.Prelude.{ℕ, suc, ℤ, pos, negsuc, ◌+ℤ◌, ◌*ℤ◌, List, [], ◌∷◌, ◌++◌, length, replicate}
use Rattle.std.specs.Prelude.{slice_index_or, Option, Some, None, Bool, true, ◌&&◌, if◌then◌else◌}
use Rattle.std.specs.Int.{w64, int_wrap}
use Rattle.std.specs.Ordering.{int_eq}
use Rattle.shape_terms.specs.declared.num_form.NumForm.{NumForm}
use Rattle.shape_terms.specs.Points.{Point}

-- the coefficient at a place of a row
abbrev pub coefficient : List ℤ → ℕ → ℤ
coefficient row at = slice_index_or row at (pos 0)

-- a row of coefficients, each times what its place stands for
abbrev pub total : List ℤ → (ℕ → ℤ) → ℤ
total [] f = pos 0
total (c ∷ cs) f = c *ℤ f 0 +ℤ total cs (λ k. f (suc k))

-- how long each unknown rest is
abbrev pub lengths_at : Point → ℕ → ℤ
lengths_at p r = pos (length (p.rests r))

-- what a form stands for at a point: its sum modulo 2 ^ 64, in the signed range
abbrev pub number : NumForm → Point → ℤ
number form p = int_wrap w64 (form.constant +ℤ total form.atoms p.atoms +ℤ total form.lengths (lengths_at p))

-- the row whose one coefficient is 1
abbrev pub unit : ℕ → List ℤ
unit at = replicate at (pos 0) ++ pos 1 ∷ []

-- an atom as a form
abbrev pub atom : ℕ → NumForm
atom at = record { constant = pos 0; atoms = unit at; lengths = [] }

-- the length of an unknown rest as a form
abbrev pub rest_len : ℕ → NumForm
rest_len at = record { constant = pos 0; atoms = []; lengths = unit at }

-- a number as a form
abbrev pub literal : ℤ → NumForm
literal z = record { constant = z; atoms = []; lengths = [] }

-- a number and some times another one, modulo 2 ^ 64
abbrev pub with_times : ℤ → ℤ → ℤ → ℤ
with_times k x y = int_wrap w64 (x +ℤ int_wrap w64 (k *ℤ y))

-- a row and some times another one, place by place
abbrev pub rows_with : ℤ → List ℤ → List ℤ → List ℤ
rows_with k [] [] = []
rows_with k [] (y ∷ ys) = with_times k (pos 0) y ∷ rows_with k [] ys
rows_with k (x ∷ xs) [] = with_times k x (pos 0) ∷ rows_with k xs []
rows_with k (x ∷ xs) (y ∷ ys) = with_times k x y ∷ rows_with k xs ys

-- a form and some times another one
abbrev pub forms_with : ℤ → NumForm → NumForm → NumForm
forms_with k a b = record {
  constant = with_times k a.constant b.constant;
  atoms = rows_with k a.atoms b.atoms;
  lengths = rows_with k a.lengths b.lengths;
}

-- the sum of two forms
abbrev pub plus : NumForm → NumForm → NumForm
plus = forms_with (pos 1)

-- the difference of two forms
abbrev pub minus : NumForm → NumForm → NumForm
minus = forms_with (negsuc 0)

-- a row without coefficients
abbrev pub is_zero : List ℤ → Bool
is_zero [] = true
is_zero (c ∷ cs) = int_eq c (pos 0) && is_zero cs

-- the number that a form without coefficients is
abbrev pub literal_of : NumForm → Option ℤ
literal_of form = if is_zero form.atoms && is_zero form.lengths then Some form.constant else None
