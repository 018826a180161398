-- What a seat keeps over a step of one of its passes, over looks, and when it gives the engine up.
use Rattle.std.proofs.Common.{◌≡◌, ◌≢◌, ℕ, ◌^◌, ◌⊎◌, ⊎_elim, List, [], ◌∷◌, ◌++◌, sym, ap, ◌∙◌, refl, subst, length}
use Rattle.std.proofs.Common.{arith, set, Bool, true, false, ◌==◌, Option, Some, None}
use Rattle.std.specs.Prelude.{slice_get, MatchOption}
use Rattle.std.proofs.lemmas.List.{length-set}
use Rattle.std.proofs.lemmas.Bool.Decides.{nat_tests}
use Rattle.seuss_program.specs.declared.state.Value.{Value}
use Rattle.method_code.specs.declared.method.Method.{Method}
use Rattle.method_code.specs.declared.frame.End.{End}
use Rattle.method_code.specs.declared.activation.Activation.{Activation}
use Rattle.method_code.specs.Chains.{Next, turned}
use Rattle.step_journal.specs.Histories.{Log, own_entries, IsNoteOf}
use Rattle.step_journal.specs.Journals.{NoteState, ShareState, IsPair}
use Rattle.loose_records.specs.declared.record.BoxEntry.{BoxEntry}
use Rattle.loose_records.specs.declared.record.SchedEntry.{SchedEntry}
use Rattle.pass_seats.proofs.Lists.{at-map}
use Rattle.quit_word.specs.Seats as Q
use Rattle.box_lock.specs.Cells.{CellState, Sees, next_stamp}
use Rattle.pass_seats.specs.declared.pass.Place.{Place}
use Rattle.pass_seats.specs.declared.pass.Progress as P
use Rattle.pass_seats.specs.declared.pass.SeatPass.{SeatPass}
use Rattle.pass_seats.specs.Names.{Names, AreNames}
use Rattle.pass_seats.specs.Desks.{HasSeen}
use Rattle.pass_seats.specs.Passes.{IsWithin, log_at}
use Rattle.pass_seats.specs.Seats.{SeatState, IsSeat, IsWhole, IsPlace, IsClaimed, logs_of}
use Rattle.pass_seats.specs.Steps.{Steps, Stepped, IsStillPlace, AdvancedAt, IsWorn, SawBox}
use Rattle.pass_seats.proofs.Lists.{at-prefix, read-at, set-cases, set-again}
use Rattle.pass_seats.proofs.Owns.{own-within, own-push}
use Rattle.pass_seats.proofs.Boxes.{turned_within}
use Rattle.pass_seats.proofs.Stepping.{log-here, log-else, pass-grows, stepped_whole}

-- the seat of these parts
abbrev pub seat_at : ℕ → List Place → NoteState SchedEntry → ShareState → Q.SeatState → ℕ → ℕ → List SeatPass → Bool →
    SeatState
seat_at number places note share quit parts amount passes torn = record {
  number = number;
  places = places;
  note = note;
  share = share;
  quit = quit;
  parts = parts;
  amount = amount;
  passes = passes;
  torn = torn;
}

-- each place is still the seat's
placed-set : (names : Names) (seat b : ℕ) (places : List Place) (p q : Place) → slice_get places b ≡ Some p →
    IsStillPlace p q → ((j : ℕ) (r : Place) → slice_get places j ≡ Some r → IsPlace names seat j r) →
    (j : ℕ) (r : Place) → slice_get (set places b q) j ≡ Some r → IsPlace names seat j r
placed-set names seat b places p q at still old j r at_r =
    ⊎_elim (λ (t : (j ≡ b) × (q ≡ r)).
    let was = old b p at in
    subst (λ (n : ℕ). IsPlace names seat n r) (sym t.0) (subst (IsPlace names seat b) t.1
    (record { journal = still.journal ∙ was.journal; maker = still.maker ∙ was.maker; pair = still.pair })))
    (λ (t : (j ≢ b) × (slice_get places j ≡ Some r)). old j r t.1) (set-cases places b j q r at_r)

-- the seat with one place and its passes changed, and what then holds of its passes
pub placed_seat : (names : Names) (s : SeatState) (b : ℕ) (place seen : Place) (passes : List SeatPass) →
    slice_get s.places b ≡ Some place → IsStillPlace place seen → IsSeat names s →
    (s.torn ≡ false → IsWhole names (record s { places = set s.places b seen; passes = passes })) →
    IsSeat names (record s { places = set s.places b seen; passes = passes })
placed_seat names s b place seen passes at still seat whole = record {
  number = seat.number;
  many = length-set s.places b seen ∙ seat.many;
  places = placed-set names s.number b s.places place seen at still seat.places;
  journal = seat.journal;
  maker = seat.maker;
  pair = seat.pair;
  quit = seat.quit;
  part = seat.part;
  torn = seat.torn;
  unmarked = seat.unmarked;
  whole = whole;
}

-- after a refusal for want of memory
pub torn_seat : (names : Names) (s : SeatState) (b : ℕ) (place seen : Place) (quit : Q.SeatState)
    (passes : List SeatPass) → slice_get s.places b ≡ Some place → IsStillPlace place seen →
    (quit.number ≡ s.quit.number) × (quit.name ≡ s.quit.name) → HasSeen quit.seen → IsSeat names s →
    IsSeat names (record s { places = set s.places b seen; quit = quit; passes = passes; torn = true })
torn_seat names s b place seen quit passes at still same has seat = record {
  number = seat.number;
  many = length-set s.places b seen ∙ seat.many;
  places = placed-set names s.number b s.places place seen at still seat.places;
  journal = seat.journal;
  maker = seat.maker;
  pair = seat.pair;
  quit = (same.0 ∙ seat.quit.0, same.1 ∙ seat.quit.1);
  part = seat.part;
  torn = λ _. has;
  unmarked = λ e. absurd (grind (arith, e));
  whole = λ e. absurd (grind (arith, e));
}

-- a seat that gave up, whose parts of the scheduler and passes are to be dropped
pub gave_up : (names : Names) (s : SeatState) (quit : Q.SeatState) (note : NoteState SchedEntry) (share : ShareState)
    (amount : ℕ) (passes : List SeatPass) → IsSeat names s → note.journal ≡ s.note.journal →
    note.maker ≡ s.note.maker → IsPair note share → (quit.number ≡ s.quit.number) × (quit.name ≡ s.quit.name) →
    HasSeen quit.seen → IsSeat names (record s {
      note = note;
      share = share;
      quit = quit;
      amount = amount;
      passes = passes;
      torn = true;
    })
gave_up names s quit note share amount passes seat journal maker pair same has = record {
  number = seat.number;
  many = seat.many;
  places = seat.places;
  journal = journal ∙ seat.journal;
  maker = maker ∙ seat.maker;
  pair = pair;
  quit = (same.0 ∙ seat.quit.0, same.1 ∙ seat.quit.1);
  part = seat.part;
  torn = λ _. has;
  unmarked = λ e. absurd (grind (arith, e));
  whole = λ e. absurd (grind (arith, e));
}

-- after a quit somebody was seen to give up
pub has_seen : (old new : Q.SeatState) → ((new.mark ≡ true) × (new.seen ≡ Some old.number))
    ⊎ ((new.mark ≡ old.mark) × ((t : ℕ) × (new.seen ≡ Some t))) → HasSeen new.seen
has_seen old new h =
    ⊎_elim (λ (t : (new.mark ≡ true) × (new.seen ≡ Some old.number)). (old.number, t.1))
    (λ (t : (new.mark ≡ old.mark) × ((x : ℕ) × (new.seen ≡ Some x))). t.1) h

-- the seat with another view of the quit word
quit_seat : (names : Names) (s : SeatState) (quit : Q.SeatState) →
    (quit.number ≡ s.quit.number) × (quit.name ≡ s.quit.name) → quit.mark ≡ s.quit.mark →
    (HasSeen s.quit.seen → HasSeen quit.seen) → IsSeat names s → IsSeat names (record s { quit = quit })
quit_seat names s quit same mark seen seat = record {
  number = seat.number;
  many = seat.many;
  places = seat.places;
  journal = seat.journal;
  maker = seat.maker;
  pair = seat.pair;
  quit = (same.0 ∙ seat.quit.0, same.1 ∙ seat.quit.1);
  part = seat.part;
  torn = λ e. seen (seat.torn e);
  unmarked = λ e. mark ∙ seat.unmarked e;
  whole = λ e. let w = seat.whole e in record { amount = w.amount; passes = w.passes; claimed = w.claimed };
}

-- after a look at the quit word
pub looked_seat : (names : Names) (s : SeatState) (quit : Q.SeatState) (r : Option ℕ) →
    MatchOption r ((quit ≡ s.quit) × (s.quit.seen ≡ None)) (λ n. quit ≡ record s.quit { seen = Some n }) →
    IsSeat names s → IsSeat names (record s { quit = quit })
looked_seat names s quit None h seat =
    quit_seat names s quit (ap (λ (q : Q.SeatState). q.number) h.0, ap (λ (q : Q.SeatState). q.name) h.0)
    (ap (λ (q : Q.SeatState). q.mark) h.0)
    (λ t. (t.0, ap (λ (q : Q.SeatState). q.seen) h.0 ∙ t.1)) seat
looked_seat names s quit (Some n) h seat =
    quit_seat names s quit (ap (λ (q : Q.SeatState). q.number) h, ap (λ (q : Q.SeatState). q.name) h)
    (ap (λ (q : Q.SeatState). q.mark) h)
    (λ t. (n, ap (λ (q : Q.SeatState). q.seen) h)) seat

-- the seat with another note of the scheduler's journal, and other passes
pub with_note : (names : Names) (s : SeatState) (note : NoteState SchedEntry) (share : ShareState) →
    IsSeat names s → note.journal ≡ s.note.journal → note.maker ≡ s.note.maker → IsPair note share →
    IsSeat names (record s { note = note; share = share })
with_note names s note share seat journal maker pair = record {
  number = seat.number;
  many = seat.many;
  places = seat.places;
  journal = journal ∙ seat.journal;
  maker = maker ∙ seat.maker;
  pair = pair;
  quit = seat.quit;
  part = seat.part;
  torn = seat.torn;
  unmarked = seat.unmarked;
  whole = λ e. let w = seat.whole e in record { amount = w.amount; passes = w.passes; claimed = w.claimed };
}

-- the seat with other passes, that many of which its part counts
pub with_passes : (names : Names) (s : SeatState) (parts amount : ℕ) (passes : List SeatPass) → IsSeat names s →
    parts ≡ s.parts → (s.torn ≡ false → IsWhole names (record s { amount = amount; passes = passes })) →
    IsSeat names (record s { parts = parts; amount = amount; passes = passes })
with_passes names s parts amount passes seat same whole = record {
  number = seat.number;
  many = seat.many;
  places = seat.places;
  journal = seat.journal;
  maker = seat.maker;
  pair = seat.pair;
  quit = seat.quit;
  part = same ∙ seat.part;
  torn = seat.torn;
  unmarked = seat.unmarked;
  whole = λ e. let w = whole e in record { amount = w.amount; passes = w.passes; claimed = w.claimed };
}

-- after a look at the whole journal of a box
module _ (names : Names) (log : Log BoxEntry) (place seen : Place) (b : ℕ) (s : SeatState)
    (at_place : slice_get s.places b ≡ Some place) (mine : place.note.maker ≡ s.number)
    (sees : Sees log place.note seen.note) (whole : IsWhole names s) where
  abbrev logs : List (Log BoxEntry)
  logs = logs_of s.places

  abbrev logs' : List (Log BoxEntry)
  logs' = logs_of (set s.places b seen)

  here : log_at logs' b ≡ log
  here = log-here s.places b seen place at_place ∙ ap (λ n. n.seen) sees.seen

  was : log_at logs b ≡ place.note.seen
  was = read-at logs b place.note.seen [] (at-map (λ (r : Place). r.note.seen) s.places b place at_place)

  grows : (j i : ℕ) (x : ℕ × BoxEntry) → slice_get (log_at logs j) i ≡ Some x →
      slice_get (log_at logs' j) i ≡ Some x
  grows j i x at = by_box (j == b) refl
    where
      by_box : (t : Bool) → (j == b) ≡ t → slice_get (log_at logs' j) i ≡ Some x
      by_box true is =
          let j_is : j ≡ b = grind (arith, nat_tests) in
          let in_seen : slice_get place.note.seen i ≡ Some x =
          subst (λ (l : Log BoxEntry). slice_get l i ≡ Some x) (ap (log_at logs) j_is ∙ was) at in
          subst (λ (l : Log BoxEntry). slice_get l i ≡ Some x) (sym (ap (log_at logs') j_is ∙ here))
          (at-prefix place.note.seen log i x sees.before.front in_seen)
      by_box false is =
          subst (λ (l : Log BoxEntry). slice_get l i ≡ Some x)
          (sym (log-else s.places b j seen (λ e. absurd (grind (arith, nat_tests))))) at

  all_claimed : (j i : ℕ) (e : BoxEntry) → slice_get (log_at logs' j) i ≡ Some (s.number, e) →
      IsClaimed s.passes j i e
  all_claimed j i e at = by_box (j == b) refl
    where
      by_box : (t : Bool) → (j == b) ≡ t → IsClaimed s.passes j i e
      by_box true is =
          let j_is : j ≡ b = grind (arith, nat_tests) in
          let in_log : slice_get log i ≡ Some (s.number, e) =
          subst (λ (l : Log BoxEntry). slice_get l i ≡ Some (s.number, e)) (ap (log_at logs') j_is ∙ here) at in
          let own = own-within log place.note.seen s.number e i
          (subst (λ (n : ℕ). IsNoteOf log n place.note.seen) mine sees.before) in_log in
          whole.claimed j i e (subst (λ (l : Log BoxEntry). slice_get l i ≡ Some (s.number, e))
          (sym (ap (log_at logs) j_is ∙ was)) own)
      by_box false is =
          whole.claimed j i e (subst (λ (l : Log BoxEntry). slice_get l i ≡ Some (s.number, e))
          (log-else s.places b j seen (λ e. absurd (grind (arith, nat_tests)))) at)

  -- the passes are what they were
  pub seen_whole : IsWhole names (record s { places = set s.places b seen })
  seen_whole = record {
    amount = whole.amount;
    passes = λ j p at. pass-grows logs logs' grows s.number names p (whole.passes j p at);
    claimed = all_claimed;
  }

-- the seat after such a look
pub saw_box_seat : (names : Names) (log : Log BoxEntry) (s : SeatState) (b : ℕ) (place seen : Place)
    (passes : List SeatPass) → slice_get s.places b ≡ Some place → Sees log place.note seen.note →
    IsStillPlace place seen → passes ≡ s.passes → IsSeat names s →
    IsSeat names (record s { places = set s.places b seen; passes = passes })
saw_box_seat names log s b place seen passes at sees still same seat =
    subst (λ (ps : List SeatPass). IsSeat names (record s { places = set s.places b seen; passes = ps })) (sym same)
    (placed_seat names s b place seen s.passes at still seat
    (λ e. seen_whole names log place seen b s at (seat.places b place at).maker sees (seat.whole e)))

-- what such a look is to the seat, where the stamp of the next step of a pass is worn
pub saw_box : (s : SeatState) (log : Log BoxEntry) (b number slot stamp : ℕ) (place seen : Place)
    (pass after : SeatPass) → b ≡ number → slice_get s.places b ≡ Some place →
    slice_get s.passes slot ≡ Some pass → after ≡ pass → seen.share ≡ place.share →
    Sees log place.note seen.note → stamp ≡ 2 ^ 63 → stamp ≡ next_stamp pass.clock log →
    IsWorn log s slot stamp
    × SawBox log number s (record s { places = set s.places b seen; passes = set s.passes slot after })
saw_box s log b number slot stamp place seen pass after b_is at_place at_pass same share sees worn stamp_is =
    let passes : set s.passes slot after ≡ s.passes = set-again s.passes slot after (at_pass ∙ ap Some (sym same)) in (
      record { pass = pass; there = at_pass; stamp_is = stamp_is; worn = worn },
      record {
        place = place;
        seen = seen;
        there = subst (λ (n : ℕ). slice_get s.places n ≡ Some place) b_is at_place;
        sees = sees;
        share = share;
        new_is = λ i. record s { places = set s.places (b_is i) seen; passes = passes i };
      },
    )

-- what a step of a pass on a cell is to its seat
module _ (names : Names) (code : List Method) (first : ℕ → List Value) (named : AreNames names code first)
    (cell new : CellState) (place seen : Place) (pass after : SeatPass) (progress : P.Progress) (b slot : ℕ)
    (s : SeatState) (b_is : b ≡ cell.number) (at_place : slice_get s.places b ≡ Some place)
    (at_pass : slice_get s.passes slot ≡ Some pass) (going : pass.over ≡ None) (mine : place.note.maker ≡ s.number)
    (step : Stepped names.setting.program code first cell new place seen pass after progress) where
  log_is : seen.note.seen ≡ cell.journal.log ++ (s.number, step.entry) ∷ []
  log_is = ap (λ n. n.seen) step.seen_is ∙ ap (λ m. cell.journal.log ++ (m, step.entry) ∷ []) mine

  before : IsNoteOf cell.journal.log s.number place.note.seen
  before = subst (λ (n : ℕ). IsNoteOf cell.journal.log n place.note.seen) mine step.before

  turns : (a c : Activation) (end : End) → IsWithin (length names.boxes) a →
      turned names.setting.program a end ≡ Next c → IsWithin (length names.boxes) c
  turns a c end within is =
      subst (λ (n : ℕ). IsWithin n c) (sym named.boxes)
      (turned_within names.setting.program named.keeps a c end
      (subst (λ (n : ℕ). IsWithin n a) named.boxes within) is)

  steps_at : (n : ℕ) → cell.number ≡ n →
      Steps names.setting.program code n cell.journal.log cell.vars new.vars pass after step.entry progress
  steps_at n is =
      subst (λ (k : ℕ). Steps names.setting.program code k cell.journal.log cell.vars new.vars pass after step.entry
      progress) is step.steps

  -- the seat after the step
  pub stepped_seat : IsStillPlace place seen → s.torn ≡ false → IsSeat names s →
      IsSeat names (record s { places = set s.places b seen; passes = set s.passes slot after })
  stepped_seat still untorn seat =
      placed_seat names s b place seen (set s.passes slot after) at_place still seat
      (λ e. stepped_whole names code cell.journal.log cell.vars new.vars place seen pass after step.entry progress
      b slot s at_place at_pass going before (steps_at b (sym b_is)) log_is turns (seat.whole untorn) s.torn)

  -- the step, as the seat sees it
  pub advanced : AdvancedAt names.setting.program code first cell new s
      (record s { places = set s.places b seen; passes = set s.passes slot after }) slot progress
  advanced = record {
    entry = step.entry;
    whole = step.whole;
    advanced = record {
      place = place;
      seen = seen;
      pass = pass;
      after = after;
      at_place = subst (λ (n : ℕ). slice_get s.places n ≡ Some place) b_is at_place;
      at_pass = at_pass;
      before = before;
      history = step.history;
      steps = step.steps;
      seen_is = step.seen_is ∙ ap (λ (m : ℕ). record {
        maker = place.note.maker;
        seen = cell.journal.log ++ (m, step.entry) ∷ [];
        journal = place.note.journal;
      }) mine;
      own = ap (own_entries s.number) log_is ∙ own-push s.number cell.journal.log step.entry
          ∙ ap (λ es. es ++ step.entry ∷ []) (sym before.own);
      new_is = λ i. record s { places = set s.places (b_is i) seen; passes = set s.passes slot after };
    };
    cell_is = step.cell_is ∙ ap (λ (m : ℕ). record {
      number = cell.number;
      vars = new.vars;
      journal = record {
        log = cell.journal.log ++ (m, step.entry) ∷ [];
        makers = cell.journal.makers;
        name = cell.journal.name;
      };
      broken = cell.broken;
    }) mine;
  }
