-- Seats that were just made, and started passes.
use Rattle.std.proofs.Common.{◌≡◌, ℕ, ◌+◌, ◌<◌, ◌≤◌, ◌⊎◌, ⊎_elim, List, [], ◌∷◌, ◌++◌, sym, ap, ◌∙◌, refl}
use Rattle.std.proofs.Common.{append-nil, length-append, ◌≢◌, subst, length, arith, set, true, false, Some, None, count_by}
use Rattle.std.specs.Prelude.{slice_get}
use Rattle.std.proofs.lemmas.List.{length-map}
use Rattle.std.proofs.lemmas.Option.{slice_get_within}
use Rattle.std.proofs.lemmas.Bool.{cases_lt}
use Rattle.step_journal.specs.Histories.{Log}
use Rattle.step_journal.specs.Journals.{NoteState, ShareState, IsPair}
use Rattle.loose_records.specs.declared.record.BoxEntry.{BoxEntry}
use Rattle.loose_records.specs.declared.record.SchedEntry.{SchedEntry}
use Rattle.pass_seats.proofs.Lists.{push-cases, at-within, at-map}
use Rattle.quit_word.specs.Seats as Q
use Rattle.box_lock.specs.Cells as B
use Rattle.pass_seats.specs.declared.pass.Place.{Place}
use Rattle.pass_seats.specs.declared.pass.SeatPass.{SeatPass}
use Rattle.pass_seats.specs.Names.{Names}
use Rattle.pass_seats.specs.Passes.{log_at}
use Rattle.pass_seats.specs.Seats.{IsSeat, IsPlace, SeatState, logs_of, is_done}
use Rattle.round_ledger.specs.Cells as S
use Rattle.pass_seats.specs.Desks.{BoxDeskState, SchedDeskState, IsSchedDesk, finishes_in}
use Rattle.pass_seats.specs.Opening.{fresh_sched, ArePlaces, PlacesState, ArePlacesOf, IsNewBox, AreNewBoxes, IsFresh, AreNewSeats}
use Rattle.pass_seats.proofs.Lists.{none_some, read-at, read-past, set-cases}
use Rattle.pass_seats.proofs.Placing.{seat_at}

-- places with the next one
pub places_push : (names : Names) (seat b : ℕ) (places : List Place) (p : Place) → ArePlaces names seat places →
    b ≡ length places → IsPlace names seat b p → p.note.seen ≡ [] → ArePlaces names seat (places ++ p ∷ [])
places_push names seat b places p old b_is is nothing j q at =
    ⊎_elim (λ (t : slice_get places j ≡ Some q). old j q t)
    (λ (t : (j ≡ length places) × (p ≡ q)). (
      subst (λ (n : ℕ). IsPlace names seat n q) (b_is ∙ sym t.0) (subst (IsPlace names seat b) t.1 is),
      ap (λ (r : Place). r.note.seen) (sym t.1) ∙ nothing,
    )) (push-cases places p q j at)

-- a seat that was just made has nothing
pub fresh_seat : (names : Names) (number : ℕ) (places : List Place) (note : NoteState SchedEntry)
    (share : ShareState) (quit : Q.SeatState) (parts amount : ℕ) (passes : List SeatPass) →
    ArePlaces names number places → length places ≡ length names.boxes → number < names.seats →
    note.journal ≡ names.sched → note.maker ≡ number → IsPair note share →
    (quit.number ≡ number) × (quit.name ≡ names.quit) → quit.mark ≡ false → parts ≡ 1 → amount ≡ 0 → passes ≡ [] →
    IsSeat names (seat_at number places note share quit parts amount passes false)
fresh_seat names number places note share quit parts amount passes are many less journal maker pair quit_is unmarked
    parts_is amount_is none = record {
      number = less;
      many = many;
      places = λ b p at. (are b p at).0;
      journal = journal;
      maker = maker;
      pair = pair;
      quit = quit_is;
      part = parts_is;
      torn = λ e. absurd (grind (arith, e));
      unmarked = λ _. unmarked;
      whole = λ _. record {
        amount = amount_is ∙ sym (ap (count_by is_done) none);
        passes = λ k p at. absurd (none_some p (subst (λ (ps : List SeatPass). slice_get ps k ≡ Some p) none at));
        claimed = λ b i e at. absurd (none_some (number, e)
            (subst (λ (l : Log BoxEntry). slice_get l i ≡ Some (number, e)) (empty b (cases_lt b (length places))) at));
      };
    }
  where
    empty : (b : ℕ) → (b < length places) ⊎ (length places ≤ b) → log_at (logs_of places) b ≡ []
    empty b h =
        ⊎_elim (λ (t : b < length places).
        let p = at-within places b t in
        read-at (logs_of places) b p.0.note.seen [] (at-map (λ (q : Place). q.note.seen) places b p.0 p.1)
        ∙ (are b p.0 p.1).1)
        (λ (t : length places ≤ b).
        read-past (logs_of places) b []
        (omega (arith, t, length-map places (λ (q : Place). q.note.seen)))) h

-- the places of the seat of this number, so many
abbrev places_at : ℕ → ℕ → PlacesState
places_at number many = record { number = number; many = many }

-- The seats before this one have one place more than this, and the others as many.
pub record AreJoined (many count : ℕ) (places : List PlacesState) : Type 0 where
  pub before : (w : ℕ) (p : PlacesState) → slice_get places w ≡ Some p → w < count → p ≡ places_at w (many + 1)
  pub behind : (w : ℕ) (p : PlacesState) → slice_get places w ≡ Some p → count ≤ w → p ≡ places_at w many

-- before the first seat has joined
pub none_joined : (many : ℕ) (places : List PlacesState) → ArePlacesOf many places → AreJoined many 0 places
none_joined many places are = record {
  before = λ w p at less. absurd (omega (arith, less));
  behind = λ w p at _. let is = are.each w p at in λ i. places_at (is.0 i) (is.1 i);
}

-- one seat more has joined
pub next_joined : (many w : ℕ) (places : List PlacesState) (p q : PlacesState) → slice_get places w ≡ Some p →
    q ≡ record p { many = p.many + 1 } → AreJoined many w places → AreJoined many (w + 1) (set places w q)
next_joined many w places p q at q_is are = record {
  before = λ j r at_r less. ⊎_elim (λ (t : (j ≡ w) × (q ≡ r)).
      sym t.1 ∙ q_is ∙ ap (λ (s : PlacesState). places_at s.number (s.many + 1)) (are.behind w p at (omega arith))
      ∙ ap (λ (n : ℕ). places_at n (many + 1)) (sym t.0))
      (λ (t : (j ≢ w) × (slice_get places j ≡ Some r)). are.before j r t.1 (earlier j t.0 less))
      (set-cases places w j q r at_r);
  behind = λ j r at_r more. ⊎_elim (λ (t : (j ≡ w) × (q ≡ r)). absurd (omega (arith, t.0, more)))
      (λ (t : (j ≢ w) × (slice_get places j ≡ Some r)). are.behind j r t.1 (omega (arith, more)))
      (set-cases places w j q r at_r);
}
  where
    earlier : (j : ℕ) → j ≢ w → j < w + 1 → j < w
    earlier j other less = omega (arith, other, less)

-- once all seats have joined
pub all_joined : (many : ℕ) (places : List PlacesState) → AreJoined many (length places) places →
    ArePlacesOf (many + 1) places
all_joined many places are = record {
  each = λ w p at.
      let e = are.before w p at (slice_get_within places w p at) in
      (ap (λ (s : PlacesState). s.number) e, ap (λ (s : PlacesState). s.many) e);
}

-- the places of the next seat, at no box yet
pub places_next : (places : List PlacesState) (p : PlacesState) → p ≡ places_at (length places) 0 →
    ArePlacesOf 0 places → ArePlacesOf 0 (places ++ p ∷ [])
places_next places p is are = record {
  each = λ w q at. ⊎_elim (λ (t : slice_get places w ≡ Some q). are.each w q t)
      (λ (t : (w ≡ length places) × (p ≡ q)). (
        ap (λ (s : PlacesState). s.number) (sym t.1 ∙ is) ∙ sym t.0,
        ap (λ (s : PlacesState). s.many) (sym t.1 ∙ is),
      )) (push-cases places p q w at);
}

-- the desk of the next box
pub boxes_push : (names : Names) (desks : List BoxDeskState) (d : BoxDeskState) → IsNewBox names (length desks) d →
    AreNewBoxes names desks → AreNewBoxes names (desks ++ d ∷ [])
boxes_push names desks d is are = record {
  each = λ b e at. ⊎_elim (λ (t : slice_get desks b ≡ Some e). are.each b e t)
      (λ (t : (b ≡ length desks) × (d ≡ e)).
      subst (λ (n : ℕ). IsNewBox names n e) (sym t.0) (subst (IsNewBox names (length desks)) t.1 is))
      (push-cases desks d e b at);
}

-- the next seat
pub seats_push : (seats : List SeatState) (s : SeatState) → IsFresh (length seats) s → AreNewSeats seats →
    AreNewSeats (seats ++ s ∷ [])
seats_push seats s is are = record {
  each = λ w q at. ⊎_elim (λ (t : slice_get seats w ≡ Some q). are.each w q t)
      (λ (t : (w ≡ length seats) × (s ≡ q)).
      subst (λ (n : ℕ). IsFresh n q) (sym t.0) (subst (IsFresh (length seats)) t.1 is))
      (push-cases seats s q w at);
}

-- what stands after a beginning
at-middle : {A : Type 0} (ys rest : List A) (x : A) → slice_get (ys ++ x ∷ rest) (length ys) ≡ Some x
at-middle [] rest x = refl
at-middle (y ∷ ys) rest x = at-middle ys rest x

-- the places behind those of these seats
pub places_here : (many : ℕ) (ys rest all : List PlacesState) (p : PlacesState) → ys ++ p ∷ rest ≡ all →
    ArePlacesOf many all → (p.number ≡ length ys) × (p.many ≡ many)
places_here many ys rest all p is are =
    are.each (length ys) p
    (subst (λ (l : List PlacesState). slice_get l (length ys) ≡ Some p) is (at-middle ys rest p))

-- and there is one at least
pub fewer : {A : Type 0} (ys rest all : List A) (x : A) → ys ++ x ∷ rest ≡ all → length ys < length all
fewer ys rest all x is = omega (arith, ap length is, length-append ys (x ∷ rest))

-- where nothing is left
pub none_left : {A : Type 0} (ys rest all : List A) → ys ++ rest ≡ all → length rest ≡ 0 → ys ≡ all
none_left ys [] all is none = sym (append-nil ys) ∙ is
none_left ys (x ∷ rest) all is none = absurd (omega (arith, none))

-- the cell with so many makers
abbrev pub with_makers : B.CellState → ℕ → B.CellState
with_makers cell n = record cell { journal = record cell.journal { makers = n } }

-- the desk of a scheduler at its beginning
pub fresh_desk : (names : Names) (d : SchedDeskState) → d.cell ≡ fresh_sched names.sched names.setting.scheduler names.seats →
    d.quit.name ≡ names.quit →
    d.first ≡ record { given = names.seats; held = []; seen = None; name = names.quit } → d.total ≡ 0 →
    IsSchedDesk names d
fresh_desk names d cell quit first total = record {
  journal = ap (λ (k : S.CellState). k.journal.name) cell;
  setting = ap (λ (k : S.CellState). k.setting) cell;
  seats = ap (λ (k : S.CellState). k.seats) cell;
  quit = quit;
  first = (
    ap (λ (q : Q.FirstState). q.name) first,
    ap (λ (q : Q.FirstState). q.given) first,
    ap (λ (q : Q.FirstState). q.held) first,
  );
  broken = λ e. absurd (false_true (sym (ap (λ (k : S.CellState). k.broken) cell) ∙ e));
  counted = total ∙ sym (ap (λ (k : S.CellState). finishes_in k.journal.log) cell);
}
  where
    false_true : ◌≡◌ false true → ⊥
    false_true e = cc e
