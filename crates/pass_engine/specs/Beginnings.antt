-- How an engine for one thread begins.
use Rattle.std.specs.Prelude.{◌≡◌, ℕ, List, length, None, Some, slice_get}
use Rattle.seuss_program.specs.Programs.{vars_of}
use Rattle.box_lock.specs.Cells as B
use Rattle.pass_seats.specs.Names.{Names, table_at}
use Rattle.pass_seats.specs.Seats.{SeatState}
use Rattle.pass_seats.specs.Opening.{fresh_cell, fresh_sched, IsFresh}
use Rattle.pass_engine.specs.Engines.{EngineState}

-- the cell of a box of an engine at its beginning
abbrev pub cell_at : Names → ℕ → B.CellState
cell_at names b = fresh_cell (table_at names b) b (vars_of names.first b) names.seats

-- An engine at its beginning: the boxes of these names with their first variables, and the scheduler, all
-- without entries, and nobody has given it up.
pub record IsNewEngine (names : Names) (e : EngineState) : Type 0 where
  pub many : length e.boxes ≡ length names.boxes
  pub boxes : (b : ℕ) (cell : B.CellState) → slice_get e.boxes b ≡ Some cell → cell ≡ cell_at names b
  pub sched : e.sched ≡ fresh_sched names.sched names.setting.scheduler names.seats
  pub going : e.given_up ≡ None

-- so many seats by their numbers, which have seen nothing and were given no pass
pub record AreNewWorkers (many : ℕ) (seats : List SeatState) : Type 0 where
  pub all : length seats ≡ many
  pub each : (w : ℕ) (s : SeatState) → slice_get seats w ≡ Some s → IsFresh w s
