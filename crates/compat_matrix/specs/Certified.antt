-- What a certificate of two procedures says of their steps.
use Rattle.std.specs.Prelude.{◌≡◌, ◌≢◌, ℕ, List, IsTrue, Some, slice_get}
use Rattle.seuss_base.specs.declared.level.Level.{Level}
use Rattle.seuss_base.specs.declared.level.Level.TheVariants.{Never}
use Rattle.seuss_program.specs.declared.tree.Ref.{Ref}
use Rattle.seuss_program.specs.declared.tree.Proc.{Proc}
use Rattle.seuss_program.specs.declared.program.Program.{Program}
use Rattle.seuss_program.specs.declared.state.Value.{Value}
use Rattle.seuss_program.specs.Programs.{procedure_of}
use Rattle.seuss_program.specs.Keeping.{AreOf, param_kinds}
use Rattle.method_code.specs.Codes.{compiled, number_of, cat_number}
use Rattle.method_code.specs.Steps.{entry}
use Rattle.method_code.specs.Singles.{is_single}
use Rattle.method_code.specs.Beside.{Start, Semicommutes}
use Rattle.compat_matrix.specs.Rule.{CertifiedLevels}

-- arguments of a procedure
abbrev pub AreArguments : Proc Ref → List Value → Type 0
AreArguments q args = AreOf args (param_kinds q.params)

-- a step from the entry of a procedure
abbrev pub entering : Program → ℕ → ℕ → List Value → ℕ → Start
entering p box number args budget = record {
  frame = entry (compiled p) (number_of p box number) args;
  budget = budget;
}

-- Two procedures have neither preprocedures nor calls nor loops, and the step of the first one semicommutes
-- at this level over that of the second one, whatever their arguments are.
pub record Commute (p : Program) (box first second : ℕ) (m n : Proc Ref) (level : Level) : Type 0 where
  pub first_single : IsTrue (is_single m.form)
  pub second_single : IsTrue (is_single n.form)
  pub swaps : (args others : List Value) (budget other : ℕ) → AreArguments m args → AreArguments n others →
      Semicommutes p box level (entering p box first args budget) (entering p box second others other)

-- The levels of certificates are sound: where there is one, its procedures commute at its level.
pub record IsSound (p : Program) (certified : CertifiedLevels) : Type 0 where
  pub commute : (box first second : ℕ) (m n : Proc Ref) (level : Level) →
      procedure_of p box first ≡ Some m → procedure_of p box second ≡ Some n →
      certified (cat_number (slice_get p.boxes box)) first second ≡ level → level ≢ Never →
      Commute p box first second m n level
