-- Where each maker has just one note, no two passes have one number, and each number has a pass.
use Rattle.std.proofs.Common.{◌≡◌, ℕ, ◌+◌, ◌<◌, ◌≤◌, List, map, length, true, ◌==◌, sym, ap, ◌∙◌, ⊎_elim}
use Rattle.std.proofs.Common.{arith}
use Rattle.std.proofs.Common.{Some, count_by}
use Rattle.std.specs.Prelude.{slice_get}
use Rattle.std.proofs.lemmas.Bool.Decides.{nat_tests}
use Rattle.step_journal.specs.Journals.{NoteState}
use Rattle.loose_records.specs.declared.record.SchedEntry.{SchedEntry}
use Rattle.pass_seats.specs.declared.pass.SeatPass.{SeatPass}
use Rattle.pass_seats.specs.Seats.{SeatState}
use Rattle.pass_gather.specs.Given.{given_of, notes_of, seat_note, pass_note, HaveAllNumbers}
use Rattle.pass_gather.proofs.Lists.{get_map, get_unmap, get_after, get_either, once_at, somewhere}

module _ (count starts : ℕ) (seats : List SeatState)
    (once : (m : ℕ) → m < count + starts →
    count_by (λ (n : NoteState SchedEntry). n.maker == m) (notes_of seats) ≡ 1)
    (workers : (w : ℕ) (s : SeatState) → slice_get seats w ≡ Some s → s.note.maker < count)
    (makers : (j : ℕ) (p : SeatPass) → slice_get (given_of seats) j ≡ Some p →
    (p.note.maker ≡ count + p.ticket.pass) × (p.ticket.pass < starts)) where
  -- a note is one of its own maker
  test : (m : ℕ) (n : NoteState SchedEntry) → n.maker ≡ m → (n.maker == m) ≡ true
  test m n is = grind (arith, nat_tests)

  -- the place of a pass's note among all notes
  note_place : (i : ℕ) (p : SeatPass) → slice_get (given_of seats) i ≡ Some p →
      slice_get (notes_of seats) (length (map seat_note seats) + i) ≡ Some p.note
  note_place i p at = get_after (map seat_note seats) (map pass_note (given_of seats)) i p.note
      (get_map pass_note (given_of seats) i p at)

  -- passes with one number are one
  pub apart : (i j : ℕ) (p q : SeatPass) → slice_get (given_of seats) i ≡ Some p →
      slice_get (given_of seats) j ≡ Some q → p.ticket.pass ≡ q.ticket.pass → i ≡ j
  apart i j p q at_p at_q same =
      let m = count + p.ticket.pass in
      let p_is = makers i p at_p in
      let q_is = makers j q at_q in
      let few : count_by (λ (n : NoteState SchedEntry). n.maker == m) (notes_of seats) ≤ 1 =
      omega (arith, once m (omega (arith, p_is.1))) in
      let one = once_at (λ (n : NoteState SchedEntry). n.maker == m) (notes_of seats)
      (length (map seat_note seats) + i) (length (map seat_note seats) + j) p.note q.note few
      (note_place i p at_p) (test m p.note p_is.0)
      (note_place j q at_q) (test m q.note (q_is.0 ∙ ap (λ n. count + n) (sym same))) in
      omega (arith, one)

  -- each number below the starts has a pass
  pub each_number : HaveAllNumbers starts (given_of seats)
  each_number i less =
      let m = count + i in
      let first = map seat_note seats in
      let rest = map pass_note (given_of seats) in
      let found = somewhere (λ (n : NoteState SchedEntry). n.maker == m) (notes_of seats)
      (omega (arith, once m (omega (arith, less)))) in
      let maker : found.1.maker ≡ m = made found.1 m found.3 in
      ⊎_elim (λ (t : slice_get first found.0 ≡ Some found.1).
      let s = get_unmap seat_note seats found.0 found.1 t in
      absurd (omega (arith, workers found.0 s.0 s.1, ap (λ n. n.maker) s.2, maker)))
      (λ (t : (j : ℕ) × (slice_get rest j ≡ Some found.1)).
      let p = get_unmap pass_note (given_of seats) t.0 found.1 t.1 in
      (t.0, p.0, p.1, omega (arith, (makers t.0 p.0 p.1).0, ap (λ n. n.maker) p.2, maker)))
      (get_either first rest found.0 found.1 found.2)
    where
      made : (n : NoteState SchedEntry) (m : ℕ) → (n.maker == m) ≡ true → n.maker ≡ m
      made n m is = grind (arith, nat_tests)
