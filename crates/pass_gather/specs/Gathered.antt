-- Which record the cells and the seats of an engine make.
use Rattle.std.specs.Prelude.{◌≡◌, ℕ, List, length, map, Some, slice_get}
use Rattle.seuss_program.specs.declared.state.State.{State}
use Rattle.seuss_program.specs.declared.state.Vars.{Vars}
use Rattle.step_journal.specs.Histories.{Log}
use Rattle.loose_records.specs.declared.record.BoxEntry.{BoxEntry}
use Rattle.loose_records.specs.declared.record.Record.{Record}
use Rattle.box_lock.specs.Cells as B
use Rattle.round_ledger.specs.Cells as S
use Rattle.pass_seats.specs.Names.{Names}
use Rattle.pass_seats.specs.Desks.{BoxDeskState}
use Rattle.pass_seats.specs.Seats.{SeatState}
use Rattle.pass_gather.specs.Given.{given_of, Lists}
use Rattle.pass_gather.specs.Gathers.{record_of}

-- the cell at a desk
abbrev pub cell_of : BoxDeskState → B.CellState
cell_of d = d.cell

-- the cells of all boxes of an engine, by their numbers
pub record AreBoxes (names : Names) (cells : List B.CellState) : Type 0 where
  pub many : length cells ≡ length names.boxes
  pub each : (b : ℕ) (c : B.CellState) → slice_get cells b ≡ Some c → c.number ≡ b

-- the variables of a cell
abbrev pub vars_in : B.CellState → Vars
vars_in c = record { values = c.vars }

-- the state of these boxes
abbrev pub state_in : List B.CellState → State
state_in cells = record { boxes = map vars_in cells }

-- the journal of a cell
abbrev pub log_in : B.CellState → Log BoxEntry
log_in c = c.journal.log

-- The record of these cells and seats: the journals of the cells with the state that the cells are in, and the
-- records of the passes that the seats were given, in the order of their numbers.
pub record IsGathered (first : State) (cells : List B.CellState) (sched : S.CellState) (seats : List SeatState)
    (r : Record) : Type 0 where
  pub passes : Lists (given_of seats) sched.machine.starts r.passes
  pub record_is : r ≡ record_of first (state_in cells) (map log_in cells) sched.journal.log r.passes
