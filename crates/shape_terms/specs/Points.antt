-- What the atoms and the unknown rests of a certificate's case stand for.
use Rattle.std.specs.Prelude.{◌≡◌, ◌≢◌, ℕ, ℤ, pos, List, [], ◌∷◌, All, Bool, false, Option, None, Some}
use Rattle.std.specs.Prelude.{◌==◌, if◌then◌else◌}
use Rattle.std.specs.Int.{w64}
use Rattle.std.specs.Int.RustNames.{FitsSigned}
use Rattle.shape_terms.specs.declared.apart.Apart.{Apart}
use Rattle.shape_terms.specs.declared.apart.Apart.TheVariants as A

-- a number for each atom, a sequence for each unknown rest, and a bool for each bool that isn't told
pub record Point : Type 0 where
  pub atoms : ℕ → ℤ
  pub rests : ℕ → List ℤ
  pub truths : ℕ → Bool

-- all numbers of a point have 64 bits
pub record HasNumbers (p : Point) : Type 0 where
  pub atoms : (k : ℕ) → FitsSigned w64 (p.atoms k)
  pub rests : (r : ℕ) → All (FitsSigned w64) (p.rests r)

-- one number stands at a place, and 0 at every other one
abbrev pub alone : ℕ → ℕ → ℤ
alone at k = if k == at then pos 1 else pos 0

-- The points that tell forms apart: all atoms are 0, all rests empty and all bools false, but for one atom
-- that is 1, one rest that has one number, or one bool that is true.
abbrev pub point_of : Apart → Point
point_of A.Zero = record { atoms = λ k. pos 0; rests = λ r. []; truths = λ k. false }
point_of (A.Atom at) = record { atoms = alone at; rests = λ r. []; truths = λ k. false }
point_of (A.Rest at z) =
    record { atoms = λ k. pos 0; rests = λ r. if r == at then z ∷ [] else []; truths = λ k. false }
point_of (A.Truth at) = record { atoms = λ k. pos 0; rests = λ r. []; truths = λ k. k == at }

-- None says that two meanings are equal at every point; a point that they differ there.
abbrev pub TellsApart : {A : Type 0} → (Point → A) → (Point → A) → Option Apart → Type 0
TellsApart f g None = (p : Point) → f p ≡ g p
TellsApart f g (Some at) = HasNumbers (point_of at) × (f (point_of at) ≢ g (point_of at))
