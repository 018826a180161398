-- What the close of the scheduler promises, with all seats, is what the record needs of it.
use Rattle.std.proofs.Common.{◌≡◌, ℕ, ◌+◌, ◌<◌, List, map, length, arith, Some}
use Rattle.std.specs.Prelude.{slice_get}
use Rattle.std.specs.List.{range_with_len}
use Rattle.std.proofs.lemmas.List.Elements.{All-contains}
use Rattle.compat_scheduler.specs.declared.ticket.Ticket.{Ticket}
use Rattle.compat_scheduler.specs.Runs.{started}
use Rattle.step_journal.specs.Histories.{IsNoteOf}
use Rattle.step_journal.specs.Journals.{NoteState}
use Rattle.loose_records.specs.declared.record.SchedEntry.{SchedEntry}
use Rattle.loose_records.specs.LooseRecords.{IsOver}
use Rattle.round_ledger.specs.Cells.{CellState, log_events}
use Rattle.pass_seats.specs.declared.pass.SeatPass.{SeatPass}
use Rattle.pass_seats.specs.Names.{Names}
use Rattle.pass_seats.specs.Passes.{IsSeatPass}
use Rattle.pass_seats.specs.Seats.{SeatState, logs_of}
use Rattle.pass_gather.specs.Given.{given_of, notes_of, seat_note, pass_note, AreSeats, HaveAllNumbers, AreBelow}
use Rattle.pass_gather.specs.Closing.{ClosesSched}
use Rattle.pass_gather.specs.Gathers.{GathersSched}
use Rattle.pass_gather.proofs.Lists.{get_front, get_after, get_map, contains_get}
use Rattle.pass_gather.proofs.Owners.{given_seat, pass_started, whole_at}
use Rattle.pass_gather.proofs.Apart as A

module _ (names : Names) (cell : CellState) (seats : List SeatState)
    (closed : ClosesSched names cell (notes_of seats)) (are : AreSeats names seats)
    (numbers : map (λ (t : Ticket). t.pass) (started (log_events cell.journal.log))
    ≡ range_with_len 0 cell.machine.starts) where
  -- a given pass is one that its seat keeps
  pass_at : (j : ℕ) (p : SeatPass) → slice_get (given_of seats) j ≡ Some p →
      (s : SeatState) × IsSeatPass names s.number (logs_of s.places) p
  pass_at j p at =
      let f = given_seat seats j p at in
      (f.seat, (whole_at names f.number f.seat (are.each f.number f.seat f.there)).passes f.slot p f.here)

  -- each note has seen a beginning of the journal
  note_of_journal : (k : ℕ) (n : NoteState SchedEntry) → slice_get (notes_of seats) k ≡ Some n →
      IsNoteOf cell.journal.log n.maker n.seen
  note_of_journal k n at =
      All-contains (λ (n : NoteState SchedEntry). IsNoteOf cell.journal.log n.maker n.seen) (notes_of
      seats) n
      closed.notes_are (contains_get (notes_of seats) k n at)

  -- that of a seat
  front_at : (w : ℕ) (s : SeatState) → slice_get seats w ≡ Some s →
      IsNoteOf cell.journal.log s.note.maker s.note.seen
  front_at w s at =
      note_of_journal w s.note (get_front (map seat_note seats) (map pass_note (given_of seats)) w s.note
      (get_map seat_note seats w s at))

  -- and that of a given pass
  note_at : (j : ℕ) (p : SeatPass) → slice_get (given_of seats) j ≡ Some p →
      IsNoteOf cell.journal.log p.note.maker p.note.seen
  note_at j p at =
      note_of_journal (length (map seat_note seats) + j) p.note (get_after (map seat_note seats)
      (map pass_note (given_of seats)) j p.note (get_map pass_note (given_of seats) j p at))

  -- the makers of the seats
  workers : (w : ℕ) (s : SeatState) → slice_get seats w ≡ Some s → s.note.maker < names.seats
  workers w s at = let seat = (are.each w s at).seat in omega (arith, seat.maker, seat.number)

  -- and of the given passes
  makers : (j : ℕ) (p : SeatPass) → slice_get (given_of seats) j ≡ Some p →
      (p.note.maker ≡ names.seats + p.ticket.pass) × (p.ticket.pass < cell.machine.starts)
  makers j p at =
      let is = (pass_at j p at).1 in
      (is.maker, (pass_started cell.journal.log cell.machine.starts p numbers (note_at j p at) is.start).2)

  -- all that the record needs of the scheduler
  pub sched_gathers : IsOver names.setting cell.machine →
      GathersSched names cell.journal.log cell.machine seats
  sched_gathers over = record {
    run = closed.run;
    stamps = closed.stamps;
    over = over;
    fronts = front_at;
    notes = note_at;
    apart = A.apart names.seats cell.machine.starts seats closed.each_once workers makers;
  }

  -- and each number below the starts has a pass
  pub each_has : HaveAllNumbers cell.machine.starts (given_of seats)
  each_has = A.each_number names.seats cell.machine.starts seats closed.each_once workers makers

  -- and the number of each pass is below them
  pub each_below : AreBelow cell.machine.starts (given_of seats)
  each_below j p at = (makers j p at).1
