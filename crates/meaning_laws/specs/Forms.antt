-- What runs and attempts of a checked program leave.
use Rattle.std.specs.Prelude.{◌≡◌, Bool, true, false, ◌&&◌, List, is_some}
use Rattle.seuss_base.specs.declared.outcome.Outcome.{Outcome}
use Rattle.seuss_base.specs.declared.outcome.Outcome.TheVariants as O
use Rattle.seuss_program.specs.declared.tree.Ref.{Ref}
use Rattle.seuss_program.specs.declared.tree.Proc.{Proc}
use Rattle.seuss_program.specs.declared.program.Program.{Program}
use Rattle.seuss_program.specs.declared.state.State.{State}
use Rattle.seuss_program.specs.declared.state.Value.{Value}
use Rattle.seuss_program.specs.Bodies.{Ran, Called}
use Rattle.seuss_program.specs.Keeping.{AreOf, HasForm, slot_kinds}

-- a state of the program's form, and slots of a procedure
pub record AreFormed (p : Program) (q : Proc Ref) (state : State) (slots : List Value) : Type 0 where
  pub state_is : HasForm p state
  pub slots_are : AreOf slots (slot_kinds q)

-- what a run leaves is such a state and such slots
abbrev pub LeavesFormed : Program → Proc Ref → Ran → Type 0
LeavesFormed p q ran = AreFormed p q ran.state ran.slots

-- whether an attempt was accepted
abbrev pub is_accepted : Outcome → Bool
is_accepted O.Accepted = true
is_accepted O.Rejected = false
is_accepted (O.Trapped t) = false
is_accepted O.Spent = false

-- an attempt has a result exactly where it was accepted and the procedure gives one
abbrev pub HasResult : Proc Ref → Called → Type 0
HasResult q called = is_some called.result ≡ (is_accepted called.outcome && q.gives)
