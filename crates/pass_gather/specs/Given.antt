-- The passes that seats were given, and the records of these.
use Rattle.std.specs.Prelude.{◌≡◌, ℕ, ◌<◌, List, [], ◌∷◌, ◌++◌, length, map, true, false, Some, slice_get}
use Rattle.step_journal.specs.Histories.{Log, own_entries}
use Rattle.step_journal.specs.Journals.{NoteState, ShareState}
use Rattle.loose_records.specs.declared.record.SchedEntry.{SchedEntry}
use Rattle.loose_records.specs.declared.record.PassRecord.{PassRecord}
use Rattle.pass_seats.specs.declared.pass.Done.{Done}
use Rattle.pass_seats.specs.declared.pass.Place.{Place}
use Rattle.pass_seats.specs.declared.pass.SeatPass.{SeatPass}
use Rattle.pass_seats.specs.Names.{Names}
use Rattle.pass_seats.specs.Seats.{SeatState, IsSeat, is_done, start_of}

-- the passes that the seats were given, seat by seat
abbrev pub given_of : List SeatState → List SeatPass
given_of [] = []
given_of (s ∷ seats) = s.passes ++ given_of seats

-- the note of a seat, and of a pass, of the scheduler's journal
abbrev pub seat_note : SeatState → NoteState SchedEntry
seat_note s = s.note

abbrev pub pass_note : SeatPass → NoteState SchedEntry
pass_note p = p.note

-- and the share
abbrev pub seat_share : SeatState → ShareState
seat_share s = s.share

abbrev pub pass_share : SeatPass → ShareState
pass_share p = p.share

-- the places of a seat, by the numbers of the boxes
abbrev pub places_of : SeatState → List Place
places_of s = s.places

-- all notes of the scheduler's journal: those of the seats, and then those of the given passes
abbrev pub notes_of : List SeatState → List (NoteState SchedEntry)
notes_of seats = map seat_note seats ++ map pass_note (given_of seats)

-- the shares, in the same order
abbrev pub shares_of : List SeatState → List ShareState
shares_of seats = map seat_share seats ++ map pass_share (given_of seats)

-- the seat with this number, no call with which was refused for want of memory or gave the engine up
pub record IsSeatAt (names : Names) (number : ℕ) (s : SeatState) : Type 0 where
  pub number_is : s.number ≡ number
  pub seat : IsSeat names s
  pub untorn : s.torn ≡ false
  pub unmarked : s.quit.mark ≡ false

-- all seats of an engine, by their numbers
pub record AreSeats (names : Names) (seats : List SeatState) : Type 0 where
  pub many : length seats ≡ names.seats
  pub each : (w : ℕ) (s : SeatState) → slice_get seats w ≡ Some s → IsSeatAt names w s

-- the seat was given just the passes that it has started, in their order, as far as the journal goes
abbrev pub TookItsOwn : Log SchedEntry → SeatState → Type 0
TookItsOwn log s = own_entries s.number log ≡ map start_of s.passes

-- each of these passes has finished
pub record AllFinished (given : List SeatPass) : Type 0 where
  pub done : (j : ℕ) (p : SeatPass) → slice_get given j ≡ Some p → is_done p ≡ true

-- each number below the starts is that of one of these passes
abbrev pub HaveAllNumbers : ℕ → List SeatPass → Type 0
HaveAllNumbers starts given = (i : ℕ) → i < starts →
    (j : ℕ) × (p : SeatPass) × (slice_get given j ≡ Some p) × (p.ticket.pass ≡ i)

-- the number of each of these passes is below the starts
abbrev pub AreBelow : ℕ → List SeatPass → Type 0
AreBelow starts given = (j : ℕ) (p : SeatPass) → slice_get given j ≡ Some p → p.ticket.pass < starts

-- the record of a pass that has finished
pub record Tells (p : SeatPass) (r : PassRecord) : Type 0 where
  pub ticket : r.ticket ≡ p.ticket
  pub claims : r.claims ≡ p.claims
  pub commit : p.commit ≡ Some r.commit
  pub over : p.over ≡ Some r.end
  pub done : Done
  pub done_is : p.done ≡ Some done
  pub verdict : r.verdict ≡ done.verdict

-- the record of one of the given passes, which has this number
pub record IsRecordOf (given : List SeatPass) (number : ℕ) (r : PassRecord) : Type 0 where
  pub slot : ℕ
  pub pass : SeatPass
  pub there : slice_get given slot ≡ Some pass
  pub number_is : pass.ticket.pass ≡ number
  pub tells : Tells pass r

-- the records of the given passes, in the order of their numbers
pub record Lists (given : List SeatPass) (starts : ℕ) (passes : List PassRecord) : Type 0 where
  pub many : length passes ≡ starts
  pub each : (i : ℕ) (r : PassRecord) → slice_get passes i ≡ Some r → IsRecordOf given i r
