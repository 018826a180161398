-- The seats of a threaded engine, taken apart.
use Rattle.std.specs.Prelude.{◌≡◌, ℕ, List, [], ◌∷◌, length, map, Option, Some, None}
use Rattle.atomic_table.specs.Seated.{TableId}
use Rattle.box_turn.specs.Seats as T
use Rattle.ready_queue.specs.declared.view.Row.{Row}
use Rattle.ready_queue.specs.Seats as Q
use Rattle.worker_seats.specs.Workers.{WorkerState, turn_of}
use Rattle.engine_gather.specs.declared.seats_apart.SeatsApart.{SeatsApart}
use Rattle.engine_gather.specs.Gathering.{core_of}
use Rattle.engine_gather.specs.Columns.{column_of}

-- the seat of the ready queue, and its row
abbrev pub ready_of : WorkerState → Q.SeatState
ready_of s = s.ready

abbrev pub row_of : Q.SeatState → Row
row_of s = s.row

-- the first of two that is there
abbrev pub earlier : {A : Type 0} → Option A → Option A → Option A
earlier None other = other
earlier (Some x) other = Some x

-- the first view of the queue, of the first seat that keeps it
abbrev pub first_of : List WorkerState → Option Q.FirstState
first_of [] = None
first_of (s ∷ seats) = earlier s.first (first_of seats)

-- the seat is at these turns
abbrev pub IsAt : List TableId → WorkerState → Type 0
IsAt turns s = map turn_of s.turns ≡ turns

-- The parts of these seats, seat by seat, at the turns to which all of them have come back.
pub record AreApart {N : Type 0} (turns : List (T.TurnState ℕ)) (seats : List WorkerState) (made : SeatsApart N)
    : Type 0 where
  pub columns : made.columns.items ≡ map (column_of (length seats)) turns
  pub cores : made.cores.items ≡ map core_of seats
  pub rows : made.rows.items ≡ map ready_of seats
  pub first : made.line ≡ first_of seats
