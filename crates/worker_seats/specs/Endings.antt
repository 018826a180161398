-- What a finish does at the scheduler's desk: the finish of a pass, and then all starts that can be made; and
-- whether a run goes on.
use Rattle.std.specs.Prelude.{◌≡◌, ℕ, ◌⊎◌, true}
use Rattle.compat_scheduler.specs.declared.ticket.FinishVerdict.{FinishVerdict}
use Rattle.step_journal.specs.Histories.{IsNoteOf}
use Rattle.round_ledger.specs.declared.standing.Standing.{Standing}
use Rattle.round_ledger.specs.Cells.{CellState}
use Rattle.pass_seats.specs.declared.refusal.EngineRefusal as E
use Rattle.pass_seats.specs.declared.refusal.EngineRefusal.TheVariants as X
use Rattle.pass_seats.specs.Steps.{Tears, sees_quit}
use Rattle.pass_seats.specs.Starts.{sees_sched}
use Rattle.pass_seats.specs.Finishes.{Finished, FinishWorn, Stands}
use Rattle.worker_seats.specs.Workers.{WorkerState, with_core}
use Rattle.worker_seats.specs.Readies.{StartedAll, StartsEnd}

-- The finish of the pass in a slot, by the note that came with its ticket, on a list of which the seat had seen a
-- beginning.
pub record FinishMade (cell next : CellState) (old new : WorkerState) (slot : ℕ) (verdict : FinishVerdict)
    : Type 0 where
  pub before : IsNoteOf cell.journal.log old.core.number old.core.note.seen
  pub finished : Finished cell next (sees_sched old.core cell.journal.log) new.core slot verdict
  pub new_is : new ≡ with_core old new.core

-- the stamp of the finish would be 2^63; the seat and the pass have seen the scheduler's whole list, and nothing
-- else has changed
pub record FinishIsWorn (cell next : CellState) (old new : WorkerState) (slot stamp : ℕ) : Type 0 where
  pub before : IsNoteOf cell.journal.log old.core.number old.core.note.seen
  pub worn : FinishWorn cell next (sees_sched old.core cell.journal.log) new.core slot stamp
  pub new_is : new ≡ with_core old new.core

-- why a finish alone was refused, and what then holds
abbrev pub FinishRefused : CellState → CellState → WorkerState → WorkerState → ℕ → E.EngineRefusal → Type 0
FinishRefused cell next old new slot (X.GivenUp by) =
    (next ≡ cell) × (new ≡ with_core old (sees_quit old.core by)) × (cell.broken ≡ true)
FinishRefused cell next old new slot X.Memory = Tears old.core new.core × (new ≡ with_core old new.core)
FinishRefused cell next old new slot (X.Worn stamp) = FinishIsWorn cell next old new slot stamp

-- a finish, and then all starts that can be made, which the seat has pushed
pub record FinishedAll (cell next : CellState) (old new : WorkerState) (slot : ℕ) (verdict : FinishVerdict)
    : Type 0 where
  pub between : CellState
  pub seat : WorkerState
  pub finish : FinishMade cell between old seat slot verdict
  pub starts : StartedAll between next seat new

-- a finish, after which the stamp of a start would be 2^63
pub record StartIsWorn (cell next : CellState) (old new : WorkerState) (slot stamp : ℕ) : Type 0 where
  pub verdict : FinishVerdict
  pub between : CellState
  pub seat : WorkerState
  pub finish : FinishMade cell between old seat slot verdict
  pub starts : StartsEnd between next seat new (X.Worn stamp)

-- why a finish, or a start after it, was refused, and what then holds
abbrev pub FinishAllRefused : CellState → CellState → WorkerState → WorkerState → ℕ → E.EngineRefusal → Type 0
FinishAllRefused cell next old new slot (X.GivenUp by) =
    FinishRefused cell next old new slot (X.GivenUp by)
FinishAllRefused cell next old new slot X.Memory = Tears old.core new.core
FinishAllRefused cell next old new slot (X.Worn stamp) =
    FinishIsWorn cell next old new slot stamp ⊎ StartIsWorn cell next old new slot stamp

-- whether the run goes on, as the machine at the end of the whole list says, which the seat has then seen
pub record StandingTold (cell : CellState) (old new : WorkerState) (answer : Standing) : Type 0 where
  pub stands : Stands cell old.core new.core answer
  pub new_is : new ≡ with_core old new.core

-- it was refused because the cell is broken, and the seat has seen who gave up
abbrev pub StandingRefused : CellState → WorkerState → WorkerState → E.EngineRefusal → Type 0
StandingRefused cell old new (X.GivenUp by) =
    (new ≡ with_core old (sees_quit old.core by)) × (cell.broken ≡ true)
StandingRefused cell old new X.Memory = ⊥
StandingRefused cell old new (X.Worn stamp) = ⊥
