-- Starts of passes at the scheduler's desk, whose passes a seat pushes into the ready queue.
use Rattle.std.specs.Prelude.{◌≡◌, ℕ, zero, suc, ◌⊎◌}
use Rattle.round_ledger.specs.Cells.{CellState}
use Rattle.ready_queue.specs.Seats as Q
use Rattle.ready_queue.specs.Rules.{pushing}
use Rattle.pass_seats.specs.declared.refusal.EngineRefusal as E
use Rattle.pass_seats.specs.declared.refusal.EngineRefusal.TheVariants as X
use Rattle.pass_seats.specs.Seats.{SeatState}
use Rattle.pass_seats.specs.Items.{ItemState}
use Rattle.pass_seats.specs.Steps.{Tears}
use Rattle.pass_seats.specs.Starts.{Issued, NoneIssued, IssueRefusedBy, SchedBreaks}
use Rattle.worker_seats.specs.Marks.{mark_of_item}
use Rattle.worker_seats.specs.Workers.{WorkerState, with_core}

-- The start of a pass was made, by the core of a seat, on the scheduler's whole list, and its pass was pushed, as one
-- more of those of the seat's row.
pub record Pushed (cell next : CellState) (old new : SeatState) (ready after : Q.SeatState) : Type 0 where
  pub item : ItemState
  pub issued : Issued cell next old new item
  pub after_is : after ≡ record ready { row = pushing ready.row (mark_of_item item) }

-- no pass can start, as the core of the seat has then seen, and nothing was pushed
pub record NonePushed (cell next : CellState) (old new : SeatState) (ready after : Q.SeatState) : Type 0 where
  pub none : NoneIssued cell next old new
  pub same : after ≡ ready

-- the start of a pass was made, which the queue could not take
pub record IsLost (cell next : CellState) (seat : SeatState) : Type 0 where
  pub item : ItemState
  pub between : SeatState
  pub issued : Issued cell next seat between item

-- why a start was refused at the scheduler's desk, or its pass by the queue, and what then holds
abbrev pub PushRefused : CellState → CellState → SeatState → SeatState → E.EngineRefusal → Type 0
PushRefused cell next old new (X.GivenUp by) = IssueRefusedBy cell next old new (X.GivenUp by)
PushRefused cell next old new X.Memory = (SchedBreaks cell next ⊎ IsLost cell next old) × Tears old new
PushRefused cell next old new (X.Worn stamp) = IssueRefusedBy cell next old new (X.Worn stamp)

-- The seat has made the start of a pass, and has pushed the pass.
pub record Readied (cell next : CellState) (old new : WorkerState) : Type 0 where
  pub pushed : Pushed cell next old.core new.core old.ready new.ready
  pub new_is : new ≡ record old { core = new.core; ready = new.ready }

-- no pass can start, as the seat has then seen
pub record NoneReadied (cell next : CellState) (old new : WorkerState) : Type 0 where
  pub none : NoneIssued cell next old.core new.core
  pub new_is : new ≡ with_core old new.core

-- why a start was not made and pushed, and what then holds of the seat
pub record ReadyRefused (cell next : CellState) (old new : WorkerState) (refusal : E.EngineRefusal) : Type 0 where
  pub why : PushRefused cell next old.core new.core refusal
  pub new_is : new ≡ with_core old new.core

-- so many starts, one after the other
abbrev pub Readies : ℕ → CellState → WorkerState → CellState → WorkerState → Type 0
Readies zero cell old next new = (next ≡ cell) × (new ≡ old)
Readies (suc n) cell old next new = (mid : CellState) × (seat : WorkerState) × Readies n cell old mid seat
    × Readied mid next seat new

-- starts until no pass can start
pub record StartedAll (cell next : CellState) (old new : WorkerState) : Type 0 where
  pub many : ℕ
  pub between : CellState
  pub seat : WorkerState
  pub starts : Readies many cell old between seat
  pub none : NoneReadied between next seat new

-- starts until one was refused
pub record StartsEnd (cell next : CellState) (old new : WorkerState) (refusal : E.EngineRefusal) : Type 0 where
  pub many : ℕ
  pub between : CellState
  pub seat : WorkerState
  pub starts : Readies many cell old between seat
  pub refused : ReadyRefused between next seat new refusal

-- Why not all passes were started that can start, at a cell that wasn't broken, and what then holds.
abbrev pub StartAllRefused : CellState → CellState → WorkerState → WorkerState → E.EngineRefusal → Type 0
StartAllRefused cell next old new (X.GivenUp by) = ⊥
StartAllRefused cell next old new X.Memory =
    StartsEnd cell next old new X.Memory × Tears old.core new.core
StartAllRefused cell next old new (X.Worn stamp) = StartsEnd cell next old new (X.Worn stamp)
