-- What the calls of the threaded engine do to the seat that they are made with. What lies in a turn or under the
-- scheduler's lock is seen as it was at the moment when the call took it.
use Rattle.std.specs.Prelude.{◌≡◌, ◌≢◌, ℕ, ◌⊎◌, List, Some, slice_get}
use Rattle.seuss_program.specs.declared.program.Program.{Program}
use Rattle.seuss_program.specs.declared.state.Value.{Value}
use Rattle.method_code.specs.declared.method.Method.{Method}
use Rattle.compat_scheduler.specs.declared.ticket.FinishVerdict.{FinishVerdict}
use Rattle.round_ledger.specs.declared.standing.Standing.{Standing}
use Rattle.round_ledger.specs.Cells.{CellState}
use Rattle.pass_seats.specs.declared.pass.Progress.{Progress}
use Rattle.pass_seats.specs.declared.pass.SeatPass.{SeatPass}
use Rattle.pass_seats.specs.declared.refusal.EngineRefusal as E
use Rattle.pass_seats.specs.declared.refusal.EngineRefusal.TheVariants as X
use Rattle.pass_seats.specs.Names.{Names}
use Rattle.pass_seats.specs.Seats.{SeatState}
use Rattle.pass_seats.specs.Steps.{IsOpen, Tears, sees_quit}
use Rattle.pass_seats.specs.Slots.{HasStep}
use Rattle.pass_seats.specs.Finishes.{IsOver}
use Rattle.worker_seats.specs.declared.progress.TryProgress as R
use Rattle.worker_seats.specs.declared.progress.TryProgress.TheVariants as Y
use Rattle.worker_seats.specs.Workers.{WorkerState, with_core}
use Rattle.worker_seats.specs.Tries.{Tries, StepRefused, Advances, WaitRefused}
use Rattle.worker_seats.specs.Endings.{FinishedAll, FinishIsWorn, StartIsWorn, StandingTold}
use Rattle.shared_engine.specs.Rings.{IsSchedOf}

-- after a try of a step that ended so, the pass has a next step, or it is over and may be finished
abbrev pub MayTryOn : R.TryProgress → SeatState → ℕ → Type 0
MayTryOn Y.Busy s slot = HasStep s slot
MayTryOn Y.Stepped s slot = HasStep s slot
MayTryOn Y.Over s slot = IsOver s slot

-- each pass that the seat had is in its slot as it was
pub record KeepsPasses (old new : WorkerState) : Type 0 where
  pub each : (slot : ℕ) (pass : SeatPass) → slice_get old.core.passes slot ≡ Some pass →
      slice_get new.core.passes slot ≡ Some pass

-- each pass that the seat had, but for the one in this slot, is as it was
pub record KeepsOthers (old new : WorkerState) (slot : ℕ) : Type 0 where
  pub each : (other : ℕ) (pass : SeatPass) → other ≢ slot → slice_get old.core.passes other ≡ Some pass →
      slice_get new.core.passes other ≡ Some pass

-- a try of a step of the pass in a slot, on the box at which it is
pub record Tried (program : Program) (code : List Method) (first : ℕ → List Value) (old new : WorkerState)
    (slot : ℕ) (progress : R.TryProgress) : Type 0 where
  pub b : ℕ
  pub at : IsOpen old.core slot b
  pub tries : Tries program code first old new slot b progress

-- why a try was refused, and what then holds
pub record TryRefused (old new : WorkerState) (slot : ℕ) (refusal : E.EngineRefusal) : Type 0 where
  pub b : ℕ
  pub at : IsOpen old.core slot b
  pub refused : StepRefused old new slot b refusal

-- a step of the pass in a slot, on the box at which it is, after tries that found the box taken
pub record Advanced (program : Program) (code : List Method) (first : ℕ → List Value) (old new : WorkerState)
    (slot : ℕ) (progress : Progress) : Type 0 where
  pub b : ℕ
  pub at : IsOpen old.core slot b
  pub advances : Advances program code first old new slot b progress

-- why a step was refused, after tries that found the box taken
pub record AdvanceRefused (old new : WorkerState) (slot : ℕ) (refusal : E.EngineRefusal) : Type 0 where
  pub b : ℕ
  pub at : IsOpen old.core slot b
  pub refused : WaitRefused old new slot b refusal

-- A finish of the pass in a slot, and then all starts that can be made, at the scheduler's cell: what the seat had
-- seen of its list was a beginning, and the seat has then seen the whole, a run after which no pass can start.
pub record HasFinished (names : Names) (old new : WorkerState) (slot : ℕ) (verdict : FinishVerdict) : Type 0 where
  pub cell : CellState
  pub next : CellState
  pub of : IsSchedOf names cell
  pub made : FinishedAll cell next old new slot verdict

-- the stamp of the finish, or of a start after it, would be 2^63; the entries before it stand
pub record HasWorn (names : Names) (old new : WorkerState) (slot stamp : ℕ) : Type 0 where
  pub cell : CellState
  pub next : CellState
  pub of : IsSchedOf names cell
  pub worn : FinishIsWorn cell next old new slot stamp ⊎ StartIsWorn cell next old new slot stamp

-- why a finish was refused, and what then holds
abbrev pub FinishRefused : Names → WorkerState → WorkerState → ℕ → E.EngineRefusal → Type 0
FinishRefused names old new slot (X.GivenUp by) = new ≡ with_core old (sees_quit old.core by)
FinishRefused names old new slot X.Memory = Tears old.core new.core
FinishRefused names old new slot (X.Worn stamp) = HasWorn names old new slot stamp

-- whether the run goes on, as the machine at the end of the scheduler's whole list says, which the seat has seen
pub record Stands (names : Names) (old new : WorkerState) (answer : Standing) : Type 0 where
  pub cell : CellState
  pub of : IsSchedOf names cell
  pub told : StandingTold cell old new answer

-- the refusal is that somebody was seen to have given the engine up
abbrev pub StandingRefused : WorkerState → WorkerState → E.EngineRefusal → Type 0
StandingRefused old new (X.GivenUp by) = new ≡ with_core old (sees_quit old.core by)
StandingRefused old new X.Memory = ⊥
StandingRefused old new (X.Worn stamp) = ⊥
