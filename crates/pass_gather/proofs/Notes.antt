-- The notes and shares of the scheduler's journal: those of all seats and of all given passes.
use Rattle.std.proofs.Common.{◌≡◌, ℕ, ◌+◌, ◌<◌, ◌≤◌, ⊎_elim, List, [], ◌++◌, map, length, All, sym, ap}
use Rattle.std.proofs.Common.{◌∙◌, subst, arith, Some, sum_by, count_by, length-append, false}
use Rattle.std.specs.Prelude.{slice_get}
use Rattle.std.specs.List.{AllZip, range_with_len}
use Rattle.std.proofs.lemmas.List.{length-map}
use Rattle.std.proofs.lemmas.List.Elements.{All-nil, All-append, All-map}
use Rattle.compat_scheduler.specs.declared.ticket.Ticket.{Ticket}
use Rattle.compat_scheduler.specs.Machines.{running_count}
use Rattle.compat_scheduler.specs.Runs.{started}
use Rattle.step_journal.specs.Journals.{NoteState, ShareState, IsPair}
use Rattle.loose_records.specs.declared.record.SchedEntry.{SchedEntry}
use Rattle.round_ledger.specs.Cells as S
use Rattle.pass_seats.specs.declared.pass.SeatPass.{SeatPass}
use Rattle.pass_seats.specs.Names.{Names}
use Rattle.pass_seats.specs.Passes.{IsSeatPass}
use Rattle.pass_seats.specs.Desks.{finishes_in}
use Rattle.pass_seats.specs.Seats.{SeatState, is_done, logs_of}
use Rattle.pass_gather.specs.Given.{given_of, notes_of, shares_of, seat_note, pass_note, seat_share, pass_share}
use Rattle.pass_gather.specs.Given.{AreSeats, AllFinished}
use Rattle.pass_gather.specs.Closing.{IsOpenSched}
use Rattle.pass_gather.specs.Listing.{IsThrough}
use Rattle.pass_gather.specs.Parting.{seat_amount}
use Rattle.pass_gather.proofs.Lists.{less_or, nil_from_length}
use Rattle.pass_gather.proofs.Rows.{get-all, zip-maps, zip-append, sum-same}
use Rattle.pass_gather.proofs.Counting.{starts_done}
use Rattle.pass_gather.proofs.Owners.{given_seat, whole_at}
use Rattle.pass_gather.proofs.Finished.{all_through}

-- the seats' parts of the ledger count the passes that they have finished
amounts_done : (names : Names) (seats : List SeatState) → AreSeats names seats →
    sum_by seat_amount seats ≡ sum_by (λ (s : SeatState). count_by is_done s.passes) seats
amounts_done names seats are =
    sum-same seat_amount (λ (s : SeatState). count_by is_done s.passes) seats
    (λ w s at. (whole_at names w s (are.each w s at)).amount)

-- the seats were given as many passes as were started, where that follows from so many finishes
pub given_now : (names : Names) (clock : ℕ) (cell : S.CellState) (seats : List SeatState) → AreSeats names seats →
    IsOpenSched names cell → S.IsCell clock cell →
    map (λ (t : Ticket). t.pass) (started (S.log_events cell.journal.log)) ≡ range_with_len 0 cell.machine.starts →
    running_count cell.machine ≡ 0 →
    (0 < names.seats → sum_by seat_amount seats ≡ finishes_in cell.journal.log) →
    (cell.broken ≡ false → cell.machine.starts ≤ sum_by (λ (s : SeatState). count_by is_done s.passes) seats →
    length (given_of seats) ≡ cell.machine.starts) → length (given_of seats) ≡ cell.machine.starts
given_now names clock cell seats are sound kept numbers quiet counted given =
    given sound.whole
    (starts_done cell.setting cell.machine cell.journal.log cell.seats
    (sum_by (λ (s : SeatState). count_by is_done s.passes) seats) kept.owners kept.tickets numbers quiet
    (λ some. sym (amounts_done names seats are) ∙ counted (subst (λ (n : ℕ). 0 < n) sound.seats some)))

-- where the seats count as many finishes as the scheduler each given pass is through
pub seats_through : (names : Names) (seats : List SeatState) (finishes : ℕ) → AreSeats names seats →
    (0 < names.seats → sum_by seat_amount seats ≡ finishes) →
    (sum_by (λ (s : SeatState). count_by is_done s.passes) seats ≡ finishes → AllFinished (given_of seats)) →
    All IsThrough (given_of seats)
seats_through names seats finishes are counted finished =
    ⊎_elim (λ (some : 0 < names.seats). all_through names seats are (finished
    (sym (amounts_done names seats are) ∙ counted some)))
    (λ (none : names.seats ≤ 0).
    let nobody : seats ≡ [] = nil_from_length seats (omega (arith, none, are.many)) in
    subst (λ (l : List SeatState). All IsThrough (given_of l)) (sym nobody) (All-nil IsThrough))
    (less_or 0 names.seats)

module _ (names : Names) (seats : List SeatState) (are : AreSeats names seats) where
  -- what holds of a given pass
  kept : (j : ℕ) (p : SeatPass) → slice_get (given_of seats) j ≡ Some p →
      (s : SeatState) × IsSeatPass names s.number (logs_of s.places) p
  kept j p at =
      let f = given_seat seats j p at in
      (f.seat, (whole_at names f.number f.seat (are.each f.number f.seat f.there)).passes f.slot p f.here)

  -- as many notes as seats and given passes
  pub notes_many : length (notes_of seats) ≡ names.seats + length (given_of seats)
  notes_many =
      omega (
        arith,
        length-append (map seat_note seats) (map pass_note (given_of seats)),
        length-map seats seat_note,
        length-map (given_of seats) pass_note,
        are.many,
      )

  -- all are of the scheduler's journal
  pub notes_named : All (λ (n : NoteState SchedEntry). n.journal ≡ names.sched) (notes_of seats)
  notes_named =
      All-append (λ (n : NoteState SchedEntry). n.journal ≡ names.sched) (map seat_note seats)
      (map pass_note (given_of seats))
      (All-map (λ (n : NoteState SchedEntry). n.journal ≡ names.sched) seat_note seats
      (get-all (λ (s : SeatState). s.note.journal ≡ names.sched) seats (λ w s at. (are.each w s at).seat.journal)))
      (All-map (λ (n : NoteState SchedEntry). n.journal ≡ names.sched) pass_note (given_of seats)
      (get-all (λ (p : SeatPass). p.note.journal ≡ names.sched) (given_of seats) (λ j p at.
      (kept j p at).1.journal)))

  -- each has its share at its side
  pub notes_paired : AllZip IsPair (notes_of seats) (shares_of seats)
  notes_paired =
      zip-append IsPair (map seat_note seats) (map seat_share seats) (map pass_note (given_of seats))
      (map pass_share (given_of seats))
      (zip-maps IsPair seat_note seat_share seats
      (get-all (λ (s : SeatState). IsPair s.note s.share) seats (λ w s at. (are.each w s at).seat.pair)))
      (zip-maps IsPair pass_note pass_share (given_of seats)
      (get-all (λ (p : SeatPass). IsPair p.note p.share) (given_of seats) (λ j p at. (kept j p at).1.pair)))

-- the notes of the seats with those of the given passes after them are all notes
pub notes_made : (seats : List SeatState) (passes : List SeatPass) (old new : List (NoteState SchedEntry)) →
    new ≡ old ++ map pass_note passes → old ≡ map seat_note seats → passes ≡ given_of seats → new ≡ notes_of seats
notes_made seats passes old new is was given =
    is ∙ ap (λ (l : List (NoteState SchedEntry)). l ++ map pass_note passes) was
    ∙ ap (λ (l : List SeatPass). map seat_note seats ++ map pass_note l) given

-- and so are the shares
pub shares_made : (seats : List SeatState) (passes : List SeatPass) (old new : List ShareState) →
    new ≡ old ++ map pass_share passes → old ≡ map seat_share seats → passes ≡ given_of seats →
    new ≡ shares_of seats
shares_made seats passes old new is was given =
    is ∙ ap (λ (l : List ShareState). l ++ map pass_share passes) was
    ∙ ap (λ (l : List SeatPass). map seat_share seats ++ map pass_share l) given
