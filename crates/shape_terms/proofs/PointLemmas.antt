-- The points that tell forms apart.
use Rattle.std.proofs.Common.{◌≡◌, ◌≢◌, ℕ, ap, refl, Bool, true, false, eqb, List, [], ◌∷◌, length}
use Rattle.std.specs.Prelude.{All, if◌then◌else◌}
use Rattle.std.specs.Int.{w64}
use Rattle.std.specs.Int.RustNames.{FitsSigned}
use Rattle.std.proofs.Math.Facts.{sfits_lit}
use Rattle.std.proofs.Math.IntN.{ℤ, pos}
use Rattle.std.proofs.lemmas.Bool.{ne_eqb, eq-eqb}
use Rattle.std.proofs.lemmas.List.Elements.{All-nil, All-cons}
use Rattle.shape_terms.specs.declared.apart.Apart.TheVariants as A
use Rattle.shape_terms.specs.Points.{HasNumbers, alone, point_of}
use Rattle.shape_terms.specs.Numbers.{lengths_at}

fitting_one : (b : Bool) → FitsSigned w64 (if b then pos 1 else pos 0)
fitting_one true = sfits_lit tt
fitting_one false = sfits_lit tt

fitting_rest : (b : Bool) (z : ℤ) → FitsSigned w64 z → All (FitsSigned w64) (if b then z ∷ [] else [])
fitting_rest true z h = All-cons (FitsSigned w64) z [] h (All-nil (FitsSigned w64))
fitting_rest false z h = All-nil (FitsSigned w64)

pub zero_fits : HasNumbers (point_of A.Zero)
zero_fits = record { atoms = λ k. sfits_lit tt; rests = λ r. All-nil (FitsSigned w64) }

pub atom_fits : (at : ℕ) → HasNumbers (point_of (A.Atom at))
atom_fits at = record { atoms = λ k. fitting_one (eqb k at); rests = λ r. All-nil (FitsSigned w64) }

pub rest_fits : (at : ℕ) (z : ℤ) → FitsSigned w64 z → HasNumbers (point_of (A.Rest at z))
rest_fits at z h = record { atoms = λ k. sfits_lit tt; rests = λ r. fitting_rest (eqb r at) z h }

-- one number stands at its place and nowhere else
pub alone_here : (at : ℕ) → alone at at ≡ pos 1
alone_here at = ap (λ b. if b then pos 1 else pos 0) (eq-eqb at at refl)

pub alone_there : (at k : ℕ) → k ≢ at → alone at k ≡ pos 0
alone_there at k h = ap (λ b. if b then pos 1 else pos 0) (ne_eqb k at h)

pub rest_here : (at : ℕ) (z : ℤ) → (point_of (A.Rest at z)).rests at ≡ z ∷ []
rest_here at z = ap (λ b. if b then z ∷ [] else []) (eq-eqb at at refl)

pub rest_there : (at : ℕ) (z : ℤ) (r : ℕ) → r ≢ at → (point_of (A.Rest at z)).rests r ≡ []
rest_there at z r h = ap (λ b. if b then z ∷ [] else []) (ne_eqb r at h)

pub length_here : (at : ℕ) (z : ℤ) → lengths_at (point_of (A.Rest at z)) at ≡ pos 1
length_here at z = ap (λ (l : List ℤ). pos (length l)) (rest_here at z)

pub length_there : (at : ℕ) (z : ℤ) (r : ℕ) → r ≢ at → lengths_at (point_of (A.Rest at z)) r ≡ pos 0
length_there at z r h = ap (λ (l : List ℤ). pos (length l)) (rest_there at z r h)
