-- Seats that look at the scheduler's whole list once more.
use Rattle.std.specs.Prelude.{◌≡◌, false, List}
use Rattle.std.specs.List.{AllZip}
use Rattle.step_journal.specs.Histories.{Log, IsNoteOf}
use Rattle.loose_records.specs.declared.record.SchedEntry.{SchedEntry}
use Rattle.round_ledger.specs.Cells.{CellState}
use Rattle.pass_seats.specs.Names.{Names}
use Rattle.pass_seats.specs.Seats.{SeatState, IsSeat}
use Rattle.pass_seats.specs.Starts.{sees_sched}

-- the seat with this list seen of the scheduler's journal
abbrev pub seen_with : Log SchedEntry → SeatState → SeatState
seen_with log s = sees_sched s log

-- the seat has seen the whole list, of which it had seen a beginning with all its own entries
pub record SeesAll (log : Log SchedEntry) (old new : SeatState) : Type 0 where
  pub before : IsNoteOf log old.number old.note.seen
  pub new_is : new ≡ seen_with log old

-- The seat has looked at the list of this cell. Where the cell isn't broken it has seen the whole.
pub record HasLooked (names : Names) (cell : CellState) (old new : SeatState) : Type 0 where
  pub number : new.number ≡ old.number
  pub torn : new.torn ≡ old.torn
  pub kept : IsSeat names new
  pub sees : cell.broken ≡ false → SeesAll cell.journal.log old new

-- each of these seats has looked at it
abbrev pub HaveLooked : Names → CellState → List SeatState → List SeatState → Type 0
HaveLooked names cell olds news = AllZip (HasLooked names cell) olds news
