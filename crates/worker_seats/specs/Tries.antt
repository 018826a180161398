-- What a try of a step does: a step on the box, or a miss where another seat holds it.
use Rattle.std.specs.Prelude.{◌≡◌, ℕ, zero, suc, ◌+◌, List, Some, slice_get, slice_set, Result, Ok, Err}
use Rattle.seuss_program.specs.declared.program.Program.{Program}
use Rattle.seuss_program.specs.declared.state.Value.{Value}
use Rattle.method_code.specs.declared.method.Method.{Method}
use Rattle.step_journal.specs.Histories.{Log}
use Rattle.loose_records.specs.declared.record.BoxEntry.{BoxEntry}
use Rattle.box_lock.specs.Cells as B
use Rattle.box_turn.specs.Seats as T
use Rattle.pass_seats.specs.declared.pass.Progress as P
use Rattle.pass_seats.specs.declared.pass.Progress.TheVariants as V
use Rattle.pass_seats.specs.declared.refusal.EngineRefusal as E
use Rattle.pass_seats.specs.declared.refusal.EngineRefusal.TheVariants as X
use Rattle.pass_seats.specs.Steps.{AdvancedAt, IsWorn, SawBox, Tears, sees_quit}
use Rattle.worker_seats.specs.declared.progress.TryProgress as R
use Rattle.worker_seats.specs.declared.progress.TryProgress.TheVariants as Y
use Rattle.worker_seats.specs.Workers.{WorkerState, with_core}

-- the seat of a turn, with one miss more
abbrev pub with_miss : T.SeatState ℕ → T.SeatState ℕ
with_miss t = record t { misses = t.misses + 1 }

-- this box was found taken once more, and nothing else has changed
pub record Missed (b : ℕ) (old new : WorkerState) : Type 0 where
  pub turn : T.SeatState ℕ
  pub there : slice_get old.turns b ≡ Some turn
  pub new_is : new ≡ record old { turns = slice_set old.turns b (with_miss turn) }

-- A step of the pass in a slot on this box, which the seat had taken and has given back: the step is made on the
-- box's whole history. Nothing but what the seat has of any engine has changed.
pub record StepMade (program : Program) (code : List Method) (first : ℕ → List Value) (old new : WorkerState)
    (slot b : ℕ) (progress : P.Progress) : Type 0 where
  pub cell : B.CellState
  pub after : B.CellState
  pub at : cell.number ≡ b
  pub step : AdvancedAt program code first cell after old.core new.core slot progress
  pub new_is : new ≡ with_core old new.core

-- what one try answers: a step, or that the box was found taken
abbrev pub Tries : Program → List Method → (ℕ → List Value) → WorkerState → WorkerState → ℕ → ℕ →
    R.TryProgress → Type 0
Tries program code first old new slot b Y.Busy = Missed b old new
Tries program code first old new slot b Y.Stepped = StepMade program code first old new slot b V.Stepped
Tries program code first old new slot b Y.Over = StepMade program code first old new slot b V.Over

-- The stamp of the step would be 2^63, after the clocks of the pass and of the box: the seat has seen the box's
-- whole history, and nothing else has changed.
pub record StepIsWorn (old new : WorkerState) (slot b stamp : ℕ) : Type 0 where
  pub log : Log BoxEntry
  pub worn : IsWorn log old.core slot stamp
  pub saw : SawBox log b old.core new.core
  pub new_is : new ≡ with_core old new.core

-- why a step was refused, and what then holds of the seat. It has counted no miss.
abbrev pub StepRefused : WorkerState → WorkerState → ℕ → ℕ → E.EngineRefusal → Type 0
StepRefused old new slot b (X.GivenUp by) = new ≡ with_core old (sees_quit old.core by)
StepRefused old new slot b X.Memory = Tears old.core new.core × (new ≡ with_core old new.core)
StepRefused old new slot b (X.Worn stamp) = StepIsWorn old new slot b stamp

-- so many tries, one after the other, each of which found this box taken
abbrev pub Waits : ℕ → ℕ → WorkerState → WorkerState → Type 0
Waits zero b old new = new ≡ old
Waits (suc n) b old new = (mid : WorkerState) × Waits n b old mid × Missed b mid new

-- tries until the box was free, and then the step
pub record Advances (program : Program) (code : List Method) (first : ℕ → List Value) (old new : WorkerState)
    (slot b : ℕ) (progress : P.Progress) : Type 0 where
  pub misses : ℕ
  pub waited : WorkerState
  pub waits : Waits misses b old waited
  pub step : StepMade program code first waited new slot b progress

-- tries until one was refused
pub record WaitRefused (old new : WorkerState) (slot b : ℕ) (refusal : E.EngineRefusal) : Type 0 where
  pub misses : ℕ
  pub waited : WorkerState
  pub waits : Waits misses b old waited
  pub refused : StepRefused waited new slot b refusal

-- what a step answers, as a try answers it
abbrev pub as_tried : Result P.Progress E.EngineRefusal → Result R.TryProgress E.EngineRefusal
as_tried (Ok V.Over) = Ok Y.Over
as_tried (Ok V.Stepped) = Ok Y.Stepped
as_tried (Err refusal) = Err refusal
