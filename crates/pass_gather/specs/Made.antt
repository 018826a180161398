-- That a record is the one that seats have made.
use Rattle.std.specs.Prelude.{◌≡◌, ℕ, List, Some, slice_get}
use Rattle.step_journal.specs.Histories.{entries_of, IsPrefix}
use Rattle.loose_records.specs.declared.record.BoxEntry.{BoxEntry}
use Rattle.loose_records.specs.declared.record.Record.{Record}
use Rattle.loose_records.specs.Entries.{journal}
use Rattle.pass_seats.specs.declared.pass.Place.{Place}
use Rattle.pass_seats.specs.Passes.{log_at}
use Rattle.pass_seats.specs.Seats.{SeatState, logs_of}

-- the entry of a box at this place is the seat's own
abbrev pub IsOwn : SeatState → ℕ → ℕ → BoxEntry → Type 0
IsOwn s b place e = slice_get (log_at (logs_of s.places) b) place ≡ Some (s.number, e)

-- the entry of a box at this place is an own entry of just one of the seats, at the same place
pub record IsMadeOnce (seats : List SeatState) (b place : ℕ) (e : BoxEntry) : Type 0 where
  pub number : ℕ
  pub seat : SeatState
  pub there : slice_get seats number ≡ Some seat
  pub own : IsOwn seat b place e
  pub only : (w : ℕ) (s : SeatState) (f : BoxEntry) → slice_get seats w ≡ Some s → IsOwn s b place f →
      w ≡ number

-- The seats made the record: all that a seat has seen of a box or of the scheduler is a beginning of its
-- journal in the record, and each entry of a box is an own entry of just one seat, at the same place.
pub record SeatsMade (seats : List SeatState) (r : Record) : Type 0 where
  pub boxes : (w b : ℕ) (s : SeatState) (p : Place) → slice_get seats w ≡ Some s →
      slice_get s.places b ≡ Some p →
      IsPrefix (entries_of p.note.seen) (journal r b)
  pub sched : (w : ℕ) (s : SeatState) → slice_get seats w ≡ Some s →
      IsPrefix (entries_of s.note.seen) r.sched
  pub made : (b place : ℕ) (e : BoxEntry) → slice_get (journal r b) place ≡ Some e →
      IsMadeOnce seats b place e
