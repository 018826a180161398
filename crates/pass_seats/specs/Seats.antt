-- What the seat of a worker keeps.
use Rattle.std.specs.Prelude.{◌≡◌, ℕ, ◌<◌, Bool, true, false, List, length, map, Option, Some, None, slice_get}
use Rattle.std.specs.Prelude.{count_by}
use Rattle.step_journal.specs.Histories.{Log}
use Rattle.step_journal.specs.Journals.{NoteState, ShareState, IsPair}
use Rattle.quit_word.specs.Seats as Q
use Rattle.loose_records.specs.declared.record.BoxEntry.{BoxEntry}
use Rattle.loose_records.specs.declared.record.SchedEntry.{SchedEntry}
use Rattle.loose_records.specs.declared.record.SchedEntry.TheVariants.{Start}
use Rattle.loose_records.specs.declared.record.Claim.{Claim}
use Rattle.pass_seats.specs.declared.pass.Done.{Done}
use Rattle.pass_seats.specs.declared.pass.Place.{Place}
use Rattle.pass_seats.specs.declared.pass.SeatPass.{SeatPass}
use Rattle.pass_seats.specs.Names.{Names, table_at}
use Rattle.pass_seats.specs.Passes.{IsSeatPass, log_at}
use Rattle.pass_seats.specs.Desks.{HasSeen}

-- A seat: its number, its place at each box, its note and share of the scheduler's journal, its view of the quit
-- word, its part of the ledger of finishes, the passes that it was given, and whether a call with it was refused
-- for want of memory.
pub record SeatState : Type 0 where
  pub number : ℕ
  pub places : List Place
  pub note : NoteState SchedEntry
  pub share : ShareState
  pub quit : Q.SeatState
  pub parts : ℕ
  pub amount : ℕ
  pub passes : List SeatPass
  pub torn : Bool

-- what the seat has seen of each box
abbrev pub logs_of : List Place → List (Log BoxEntry)
logs_of places = map (λ (p : Place). p.note.seen) places

-- a pass of the seat claims the entry at this place of this box
pub record IsClaimed (passes : List SeatPass) (b place : ℕ) (e : BoxEntry) : Type 0 where
  pub slot : ℕ
  pub pass : SeatPass
  pub there : slice_get passes slot ≡ Some pass
  pub own : pass.ticket.pass ≡ e.pass
  pub claim : Claim
  pub here : slice_get pass.claims e.number ≡ Some claim
  pub on : claim.box_number ≡ b
  pub at : claim.place ≡ place

-- the place of a seat at a box: the note and the share of the maker with the seat's number
pub record IsPlace (names : Names) (seat b : ℕ) (p : Place) : Type 0 where
  pub journal : p.note.journal ≡ table_at names b
  pub maker : p.note.maker ≡ seat
  pub pair : IsPair p.note p.share

-- whether there is one
abbrev pub is_some : Option Done → Bool
is_some None = false
is_some (Some d) = true

-- whether a pass has finished
abbrev pub is_done : SeatPass → Bool
is_done p = is_some p.done

-- the start of a pass
abbrev pub start_of : SeatPass → SchedEntry
start_of p = Start p.ticket p.started

-- What a seat keeps of its passes until a call with it is refused for want of memory. Its part of the ledger
-- counts those that have finished, and each entry that it has made is claimed by one of them.
pub record IsWhole (names : Names) (s : SeatState) : Type 0 where
  pub amount : s.amount ≡ count_by is_done s.passes
  pub passes : (k : ℕ) (p : SeatPass) → slice_get s.passes k ≡ Some p →
      IsSeatPass names s.number (logs_of s.places) p
  pub claimed : (b place : ℕ) (e : BoxEntry) → slice_get (log_at (logs_of s.places) b) place
      ≡ Some (s.number, e) → IsClaimed s.passes b place e

-- A seat of the engine. After a call with it was refused for want of memory it has seen who gave up; until then it
-- hasn't given up itself.
pub record IsSeat (names : Names) (s : SeatState) : Type 0 where
  pub number : s.number < names.seats
  pub many : length s.places ≡ length names.boxes
  pub places : (b : ℕ) (p : Place) → slice_get s.places b ≡ Some p → IsPlace names s.number b p
  pub journal : s.note.journal ≡ names.sched
  pub maker : s.note.maker ≡ s.number
  pub pair : IsPair s.note s.share
  pub quit : (s.quit.number ≡ s.number) × (s.quit.name ≡ names.quit)
  pub part : s.parts ≡ 1
  pub torn : s.torn ≡ true → HasSeen s.quit.seen
  pub unmarked : s.torn ≡ false → s.quit.mark ≡ false
  pub whole : s.torn ≡ false → IsWhole names s
