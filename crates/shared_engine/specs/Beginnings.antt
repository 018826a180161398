-- How a threaded engine begins.
use Rattle.std.specs.Prelude.{◌≡◌, ℕ, ◌<◌, List, [], length, None, Some, slice_get}
use Rattle.round_ledger.specs.Cells.{CellState}
use Rattle.ready_queue.specs.Rules.{new_row}
use Rattle.pass_seats.specs.Names.{Names}
use Rattle.pass_seats.specs.Opening.{fresh_sched, IsFresh}
use Rattle.box_turn.specs.Seats as T
use Rattle.worker_seats.specs.Workers.{Ring, WorkerState, ring_of}
use Rattle.worker_seats.specs.Readies.{StartedAll}

-- the seat of a turn that was never used
abbrev pub fresh_turn : T.TurnState ℕ → T.SeatState ℕ
fresh_turn t = T.new_seat t.name t.names

-- a seat with this number at this ring, which has seen nothing and was given no pass, without the first view
pub record IsNewSeat (ring : Ring) (number : ℕ) (s : WorkerState) : Type 0 where
  pub core : IsFresh number s.core
  pub at : ring_of s ≡ ring
  pub row : s.ready.row ≡ new_row number
  pub alone : s.first ≡ None

-- seats with their numbers, from 0 on
pub record AreNewSeats (ring : Ring) (seats : List WorkerState) : Type 0 where
  pub each : (w : ℕ) (s : WorkerState) → slice_get seats w ≡ Some s → IsNewSeat ring w s

-- the first seat of a new engine with so many seats, which keeps the first view of the queue
pub record IsFirstSeat (names : Names) (ring : Ring) (s : WorkerState) : Type 0 where
  pub core : IsFresh 0 s.core
  pub at : ring_of s ≡ ring
  pub row : s.ready.row ≡ new_row 0
  pub home : s.first ≡ Some (record { queue = ring.queue; rows = []; given = names.seats })

-- What the first seat has done: from the scheduler's beginning, all starts that can be made. It is still the seat
-- with number 0 at this ring, and the first view of the queue still lies in it.
pub record HasBegun (names : Names) (ring : Ring) (s : WorkerState) : Type 0 where
  pub new : WorkerState
  pub fresh : IsFirstSeat names ring new
  pub next : CellState
  pub starts : StartedAll (fresh_sched names.sched names.setting.scheduler names.seats) next new s
  pub number : s.core.number ≡ 0
  pub at : ring_of s ≡ ring
  pub home : s.first ≡ Some (record { queue = ring.queue; rows = []; given = names.seats })

-- So many seats of an engine at its beginning, by their numbers: the first has made the first starts, and the
-- others are new.
pub record AreSeats (names : Names) (ring : Ring) (seats : List WorkerState) : Type 0 where
  pub many : length seats ≡ names.seats
  pub first : (s : WorkerState) → slice_get seats 0 ≡ Some s → HasBegun names ring s
  pub others : (w : ℕ) (s : WorkerState) → 0 < w → slice_get seats w ≡ Some s → IsNewSeat ring w s
