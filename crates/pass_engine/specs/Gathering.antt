-- What the seats of an engine are when its record is made, and what they have then seen.
use Rattle.std.specs.Prelude.{◌≡◌, ℕ, false, List, length, Some, slice_get}
use Rattle.step_journal.specs.Histories.{Log, IsNoteOf}
use Rattle.loose_records.specs.declared.record.SchedEntry.{SchedEntry}
use Rattle.pass_seats.specs.Names.{Names}
use Rattle.pass_seats.specs.Seats.{SeatState, IsSeat}
use Rattle.pass_seats.specs.Starts.{sees_sched}
use Rattle.pass_gather.specs.Given.{TookItsOwn}

-- the seat with this number, no call with which was refused for want of memory or gave the engine up
pub record IsWholeAt (number : ℕ) (s : SeatState) : Type 0 where
  pub number_is : s.number ≡ number
  pub untorn : s.torn ≡ false

-- all seats of an engine, by their numbers
pub record AreAllSeats (names : Names) (seats : List SeatState) : Type 0 where
  pub many : length seats ≡ names.seats
  pub each : (w : ℕ) (s : SeatState) → slice_get seats w ≡ Some s → IsWholeAt w s

-- the seat with this list seen of the scheduler's journal
abbrev pub seen_with : Log SchedEntry → SeatState → SeatState
seen_with log s = sees_sched s log

-- The seat had seen a beginning of the scheduler's list with all its own entries, which are the starts of
-- the passes that it was given, and is one of the engine with the whole list seen.
pub record SeesAll (names : Names) (log : Log SchedEntry) (s : SeatState) : Type 0 where
  pub before : IsNoteOf log s.number s.note.seen
  pub took : TookItsOwn log s
  pub kept : IsSeat names (seen_with log s)
