-- What contracts see of a worker's seat at the threaded engine, and what it keeps.
use Rattle.std.specs.Prelude.{◌≡◌, ℕ, false, List, [], length, map, Option, Some, None, slice_get}
use Rattle.atomic_table.specs.Seated.{TableId}
use Rattle.atomic_blocks.specs.Laid.{WebId}
use Rattle.box_turn.specs.Seats as T
use Rattle.ready_queue.specs.Seats as Q
use Rattle.pass_seats.specs.Names.{Names}
use Rattle.pass_seats.specs.Seats.{SeatState}
use Rattle.worker_seats.specs.Marks.{mark_of, own_marks}

-- what the seat has of any engine, its seat at the turn of each box, its seat of the ready queue, and in one of all
-- seats the first view of the queue
pub record WorkerState : Type 0 where
  pub core : SeatState
  pub turns : List (T.SeatState ℕ)
  pub ready : Q.SeatState
  pub first : Option Q.FirstState

-- the turns of the boxes, by their numbers, and the ready queue, at which a seat is
pub record Ring : Type 0 where
  pub turns : List TableId
  pub queue : WebId

-- the turn at which a seat is
abbrev pub turn_of : T.SeatState ℕ → TableId
turn_of t = t.turn

-- the ring at which a worker's seat is
abbrev pub ring_of : WorkerState → Ring
ring_of s = record { turns = map turn_of s.turns; queue = s.ready.queue }

-- the seat with another core
abbrev pub with_core : WorkerState → SeatState → WorkerState
with_core s core = record s { core = core }

-- a seat at the turn of this box, which it doesn't hold
pub record IsTurn (b : ℕ) (t : T.SeatState ℕ) : Type 0 where
  pub box : t.names ≡ b
  pub free : t.holds ≡ false

-- The first view of the queue, where it lies in this seat: it has given a number to each seat, and no row has come
-- back to it.
abbrev pub IsHome : Names → WebId → Option Q.FirstState → Type 0
IsHome names queue None = Unit {0}
IsHome names queue (Some first) = first ≡ record { queue = queue; rows = []; given = names.seats }

-- What a seat keeps beside its core. It holds no turn between calls. Until a call with it is refused for want of
-- memory, or gives the engine up, it has pushed just the passes that it has started, and taken just those that it
-- was given.
pub record IsWorker (names : Names) (s : WorkerState) : Type 0 where
  pub many : length s.turns ≡ length names.boxes
  pub turns : (b : ℕ) (t : T.SeatState ℕ) → slice_get s.turns b ≡ Some t → IsTurn b t
  pub number : s.ready.row.number ≡ s.core.number
  pub home : IsHome names s.ready.queue s.first
  pub pushed : s.core.torn ≡ false → s.ready.row.pushed ≡ own_marks s.core.number s.core.note.seen
  pub taken : s.core.torn ≡ false → s.ready.row.taken ≡ map mark_of s.core.passes

-- the same seat after a call: of this number, at this ring, with the first view or without it
pub record IsSameSeat (old new : WorkerState) : Type 0 where
  pub number : new.core.number ≡ old.core.number
  pub ring : ring_of new ≡ ring_of old
  pub first : new.first ≡ old.first
