-- What a worker's seat keeps, after each change of its core and of its row.
use Rattle.std.proofs.Common.{◌≡◌, ℕ, ◌+◌, List, [], ◌∷◌, ◌++◌, map, true, false, refl, sym, ap, ◌∙◌, subst, Some}
use Rattle.std.specs.Prelude.{slice_get, slice_set}
use Rattle.std.proofs.lemmas.List.{map-append}
use Rattle.step_journal.specs.Histories.{Log, IsNoteOf}
use Rattle.loose_records.specs.declared.record.SchedEntry.{SchedEntry}
use Rattle.round_ledger.specs.Cells as S
use Rattle.ready_queue.specs.declared.view.Mark.{Mark}
use Rattle.ready_queue.specs.Seats as Q
use Rattle.ready_queue.specs.Rules.{pushing, taking}
use Rattle.pass_seats.specs.declared.pass.Pass.{Pass}
use Rattle.pass_seats.specs.declared.pass.Place.{Place}
use Rattle.pass_seats.specs.declared.pass.SeatPass.{SeatPass}
use Rattle.pass_seats.specs.Names.{Names}
use Rattle.pass_seats.specs.Seats.{SeatState}
use Rattle.pass_seats.specs.Items.{ItemState}
use Rattle.pass_seats.specs.Steps.{Tears, sees_quit}
use Rattle.pass_seats.specs.Starts.{Issued, Taken, sees_sched}
use Rattle.pass_seats.proofs.Lists.{set-map}
use Rattle.worker_seats.specs.Marks.{mark_of, mark_of_item, own_marks}
use Rattle.worker_seats.specs.Workers.{WorkerState, IsWorker, IsSameSeat, with_core}
use Rattle.worker_seats.proofs.Marks.{marks_seen, marks_push}

-- the same seat, with another core
pub core_same : (s : WorkerState) (new : SeatState) → new.number ≡ s.core.number → IsSameSeat s (with_core s new)
core_same s new number = record { number = number; ring = refl; first = refl }

-- what was pushed, with a pass that the seat has started
pub pushed_more : (core new : SeatState) (marks : List Mark) (cell next : S.CellState) (item : ItemState) →
    marks ≡ own_marks core.number core.note.seen → Issued cell next core new item →
    marks ++ mark_of_item item ∷ [] ≡ own_marks core.number next.journal.log
pushed_more core new marks cell next item is issued =
    ap (λ (n : ℕ). marks ++ record { ticket = item.ticket; seat = n } ∷ []) issued.seat
    ∙ ap (λ (l : List Mark). l ++ record { ticket = item.ticket; seat = core.number } ∷ [])
    (is ∙ marks_seen core.number core.note.seen cell.journal.log issued.before)
    ∙ sym (marks_push core.number cell.journal.log item.ticket item.stamp)
    ∙ sym (ap (own_marks core.number) issued.after_is.log_is)

-- a seat that keeps what it has to
module _ (names : Names) (s : WorkerState) (w : IsWorker names s) where
  -- the seat with another core and another row, at the same queue
  abbrev pub changed : SeatState → Q.SeatState → WorkerState
  changed core ready = record s { core = core; ready = ready }

  -- with another core, that has started and was given as much
  pub core_kept : (new : SeatState) → new.number ≡ s.core.number → (new.torn ≡ false →
      (s.core.torn ≡ false) × (own_marks new.number new.note.seen ≡ own_marks s.core.number s.core.note.seen)
      × (map mark_of new.passes ≡ map mark_of s.core.passes)) → IsWorker names (with_core s new)
  core_kept new number same = record {
    many = w.many;
    turns = w.turns;
    number = w.number ∙ sym number;
    home = w.home;
    pushed = λ whole. let h = same whole in w.pushed h.0 ∙ sym h.1;
    taken = λ whole. let h = same whole in w.taken h.0 ∙ sym h.2;
  }

  -- after the seat has given up
  pub torn_kept : (new : SeatState) → Tears s.core new → IsWorker names (with_core s new)
  torn_kept new tears = core_kept new tears.number (λ whole. absurd (false_true (sym whole ∙ tears.torn)))
    where
      false_true : ◌≡◌ false true → ⊥
      false_true e = cc e

  -- after the seat has given up with an item taken
  pub lost_kept : (new : SeatState) (mark : Mark) → Tears s.core new →
      IsWorker names (changed new (record s.ready { row = taking s.ready.row mark }))
  lost_kept new mark tears = record {
    many = w.many;
    turns = w.turns;
    number = w.number ∙ sym tears.number;
    home = w.home;
    pushed = λ whole. absurd (false_true (sym whole ∙ tears.torn));
    taken = λ whole. absurd (false_true (sym whole ∙ tears.torn));
  }
    where
      false_true : ◌≡◌ false true → ⊥
      false_true e = cc e

  -- after a look at the scheduler's whole list
  pub saw_kept : (log : Log SchedEntry) (new : SeatState) → IsNoteOf log s.core.number s.core.note.seen →
      new ≡ sees_sched s.core log → IsWorker names (with_core s new)
  saw_kept log new before is =
      subst (λ (c : SeatState). IsWorker names (with_core s c)) (sym is)
      (core_kept (sees_sched s.core log) refl
      (λ whole. (whole, sym (marks_seen s.core.number s.core.note.seen log before), refl)))

  -- after a look at the quit word
  pub quit_kept : (by : ℕ) (new : SeatState) → new ≡ sees_quit s.core by → IsWorker names (with_core s new)
  quit_kept by new is =
      subst (λ (c : SeatState). IsWorker names (with_core s c)) (sym is)
      (core_kept (sees_quit s.core by) refl (λ whole. (whole, refl, refl)))

  -- after a look at a box
  pub placed_kept : (places : List Place) (new : SeatState) → new ≡ record s.core { places = places } →
      IsWorker names (with_core s new)
  placed_kept places new is =
      subst (λ (c : SeatState). IsWorker names (with_core s c)) (sym is)
      (core_kept (record s.core { places = places }) refl (λ whole. (whole, refl, refl)))

  -- with another pass at a slot, which was started as the one that was there
  pub passed_kept : (places : List Place) (amount slot : ℕ) (p q : SeatPass) (new : SeatState) →
      slice_get s.core.passes slot ≡ Some p → mark_of q ≡ mark_of p →
      new ≡ record s.core { places = places; amount = amount; passes = slice_set s.core.passes slot q } →
      IsWorker names (with_core s new)
  passed_kept places amount slot p q new there same is =
      subst (λ (c : SeatState). IsWorker names (with_core s c)) (sym is)
      (core_kept (record s.core {
        places = places;
        amount = amount;
        passes = slice_set s.core.passes slot q;
      }) refl (λ whole. (whole, refl, set-map mark_of s.core.passes slot p q there same)))

  -- after the seat has pushed a pass that it has started
  pub pushed_kept : (cell next : S.CellState) (new : SeatState) (item : ItemState) (ready : Q.SeatState) →
      s.core.torn ≡ false → Issued cell next s.core new item →
      ready ≡ record s.ready { row = pushing s.ready.row (mark_of_item item) } →
      IsWorker names (changed new ready)
  pushed_kept cell next new item ready whole issued is =
      let core : SeatState = record s.core {
        note = record s.core.note { seen = next.journal.log };
        share = record s.core.share { count = s.core.share.count + 1 };
      } in
      let row : Q.SeatState = record s.ready { row = pushing s.ready.row (mark_of_item item) } in
      let kept : IsWorker names (changed core row) = record {
        many = w.many;
        turns = w.turns;
        number = w.number;
        home = w.home;
        pushed = λ _. pushed_more s.core new s.ready.row.pushed cell next item (w.pushed whole) issued;
        taken = w.taken;
      } in
      subst (λ (r : Q.SeatState). IsWorker names (changed new r)) (sym is)
      (subst (λ (c : SeatState). IsWorker names (changed c row)) (sym issued.new_is) kept)

  -- after the seat has taken a pass
  pub taken_kept : (new : SeatState) (item : ItemState) (pass : Pass) (ready : Q.SeatState) →
      Taken names s.core new item pass →
      ready ≡ record s.ready { row = taking s.ready.row (mark_of_item item) } →
      IsWorker names (changed new ready)
  taken_kept new item pass ready taken is =
      let core : SeatState = record s.core { passes = s.core.passes ++ taken.given ∷ [] } in
      let row : Q.SeatState = record s.ready { row = taking s.ready.row (mark_of_item item) } in
      let kept : IsWorker names (changed core row) = record {
        many = w.many;
        turns = w.turns;
        number = w.number;
        home = w.home;
        pushed = w.pushed;
        taken = λ whole.
            ap (λ (l : List Mark). l ++ mark_of_item item ∷ []) (w.taken whole)
            ∙ ap (λ (m : Mark). map mark_of s.core.passes ++ m ∷ []) (sym (ap mark_of taken.given_is))
            ∙ sym (map-append mark_of s.core.passes (taken.given ∷ []));
      } in
      subst (λ (r : Q.SeatState). IsWorker names (changed new r)) (sym is)
      (subst (λ (c : SeatState). IsWorker names (changed c row)) (sym taken.new_is) kept)
