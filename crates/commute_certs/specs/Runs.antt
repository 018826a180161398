-- The run of a single procedure on the variables of its box alone, and when two such runs may change places.
use Rattle.std.specs.Prelude.{◌≡◌, ℤ, Bool, true, false, not, List, [], ◌∷◌, map, All, IsTrue, Option, Some}
use Rattle.seuss_base.specs.declared.level.Level.{Level}
use Rattle.seuss_base.specs.declared.level.Level.TheVariants.{Never, Loose, Firm}
use Rattle.seuss_base.specs.declared.outcome.Outcome.{Outcome}
use Rattle.seuss_program.specs.declared.tree.Ref.{Ref}
use Rattle.seuss_program.specs.declared.tree.Proc.{Proc}
use Rattle.seuss_program.specs.declared.tree.Cat.{Cat}
use Rattle.seuss_program.specs.declared.program.Program.{Program}
use Rattle.seuss_program.specs.declared.state.Value.{Value}
use Rattle.seuss_program.specs.declared.state.State.{State}
use Rattle.seuss_program.specs.Programs.{vars_of}
use Rattle.seuss_program.specs.Bodies.{Called}
use Rattle.seuss_program.specs.Attempts.{attempt, attempt_of, entry_slots}
use Rattle.seuss_program.specs.Keeping.{AreOf, var_kinds, param_kinds}
use Rattle.method_code.specs.Singles.{is_plainly_rejected}

-- a program without boxes: a single procedure calls none
abbrev pub nothing : Program
nothing = record { cats = []; boxes = []; actions = [] }

-- one box
abbrev pub one_box : List Value → State
one_box vars = record { boxes = record { values = vars } ∷ [] }

-- an attempt of a procedure on one box, with nothing to pay
abbrev pub attempted : Proc Ref → List Value → List Value → Called
attempted q args vars = attempt_of nothing (attempt nothing 0) 0 (Some q) args (one_box vars) 0

-- what a run comes to: its outcome, its result, whether it was plainly rejected, and the variables after
-- it
pub record Alone : Type 0 where
  pub outcome : Outcome
  pub result : Option ℤ
  pub plain : Bool
  pub vars : List Value

-- the run of a procedure with these arguments on these variables alone
abbrev pub alone : Proc Ref → List Value → List Value → Alone
alone q args vars = record {
  outcome = (attempted q args vars).outcome;
  result = (attempted q args vars).result;
  plain = is_plainly_rejected q.form vars (entry_slots q args);
  vars = vars_of (attempted q args vars).state 0;
}

-- a state of a cat: values of the kinds of its variables, whose numbers have 64 bits
abbrev pub IsState : Cat Ref → List Value → Type 0
IsState c vars = AreOf vars (var_kinds c.vars)

-- arguments of a method
abbrev pub AreArguments : Proc Ref → List Value → Type 0
AreArguments q args = AreOf args (param_kinds q.params)

-- two runs end alike
pub record EndAlike (r s : Alone) : Type 0 where
  pub outcome : r.outcome ≡ s.outcome
  pub result : r.result ≡ s.result
  pub plain : r.plain ≡ s.plain

-- Two methods from one state, with these arguments: each ends alike whichever of them comes first, and the
-- same variables are left.
pub record Commute (m n : Proc Ref) (args others state : List Value) : Type 0 where
  pub first : EndAlike (alone m args (alone n others state).vars) (alone m args state)
  pub second : EndAlike (alone n others state) (alone n others (alone m args state).vars)
  pub vars : (alone m args (alone n others state).vars).vars
      ≡ (alone n others (alone m args state).vars).vars

-- whether a level asks something where the first run is plainly rejected, or isn't
abbrev pub asks : Level → Bool → Bool
asks Never plain = false
asks Loose plain = not plain
asks Firm plain = true

-- a certificate holds at a level
abbrev pub HoldsAt : Cat Ref → Level → Proc Ref → Proc Ref → Type 0
HoldsAt c level m n = (args others state : List Value) → IsState c state → AreArguments m args →
    AreArguments n others →
    IsTrue (asks level (alone m args state).plain) → Commute m n args others state
