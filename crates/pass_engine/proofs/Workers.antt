-- A worker's seat was given just the passes that it has started: what keeps it so.
use Rattle.std.proofs.Common.{◌≡◌, ℕ, ◌+◌, List, [], ◌∷◌, ◌++◌, sym, ap, ◌∙◌, subst, map, true, false}
use Rattle.std.proofs.Common.{Some}
use Rattle.std.specs.Prelude.{slice_get, slice_set}
use Rattle.std.proofs.lemmas.List.{map-append}
use Rattle.step_journal.specs.Histories.{Log, own_entries, IsNoteOf}
use Rattle.loose_records.specs.declared.record.SchedEntry.{SchedEntry}
use Rattle.loose_records.specs.declared.record.SchedEntry.TheVariants.{Start}
use Rattle.round_ledger.specs.Cells as S
use Rattle.pass_seats.specs.declared.pass.Pass.{Pass}
use Rattle.pass_seats.specs.declared.pass.Place.{Place}
use Rattle.pass_seats.specs.declared.pass.SeatPass.{SeatPass}
use Rattle.pass_seats.specs.Names.{Names}
use Rattle.pass_seats.specs.Seats.{SeatState, start_of}
use Rattle.pass_seats.specs.Steps.{Tears, sees_quit}
use Rattle.pass_seats.specs.Starts.{sees_sched}
use Rattle.pass_seats.proofs.Lists.{set-map}
use Rattle.pass_seats.proofs.Owns.{own-push}
use Rattle.pass_engine.specs.Engines.{IsWorker}
use Rattle.pass_engine.specs.Calls.{StartMade}

-- a torn seat keeps nothing
pub torn_worker : (seat after : SeatState) → Tears seat after → IsWorker after
torn_worker seat after tears = record { took = λ whole. absurd (false_true (sym whole ∙ tears.torn)) }
  where
    false_true : ◌≡◌ false true → ⊥
    false_true e = cc e

-- after the start of a pass that the seat takes
pub started_worker : (names : Names) (cell next : S.CellState) (seat after : SeatState) (pass : Pass) →
    seat.torn ≡ false → StartMade names cell next seat after pass → IsWorker seat → IsWorker after
started_worker names cell next seat after pass whole made worker =
    let given = made.taken.given in
    let start = Start made.item.ticket made.item.stamp in
    let starts : List SchedEntry = map start_of seat.passes in
    let took : own_entries seat.number next.journal.log ≡ map start_of (seat.passes ++ given ∷ []) =
    ap (own_entries seat.number) made.issued.after_is.log_is
    ∙ own-push seat.number cell.journal.log start
    ∙ ap (λ (es : List SchedEntry). es ++ start ∷ []) (sym made.issued.before.own ∙ worker.took whole)
    ∙ ap (λ (e : SchedEntry). starts ++ e ∷ []) (sym (ap start_of made.taken.given_is))
    ∙ sym (map-append start_of seat.passes (given ∷ [])) in
    let core : IsWorker (record seat {
      note = record seat.note { seen = next.journal.log };
      share = record seat.share { count = seat.share.count + 1 };
      passes = seat.passes ++ given ∷ [];
    }) = record { took = λ _. took } in
    subst IsWorker (sym made.taken.new_is)
    (subst (λ (s : SeatState). IsWorker (record s { passes = s.passes ++ given ∷ [] }))
    (sym made.issued.new_is) core)

-- after a look at the scheduler's whole list
pub saw_worker : (log : Log SchedEntry) (seat after : SeatState) → IsNoteOf log seat.number seat.note.seen →
    after ≡ sees_sched seat log → IsWorker seat → IsWorker after
saw_worker log seat after before is worker =
    let core : IsWorker (sees_sched seat log) =
    record { took = λ whole. sym before.own ∙ worker.took whole } in
    subst IsWorker (sym is) core

-- after a look at the quit word
pub quit_worker : (by : ℕ) (seat after : SeatState) → after ≡ sees_quit seat by → IsWorker seat →
    IsWorker after
quit_worker by seat after is worker =
    let core : IsWorker (sees_quit seat by) = record { took = worker.took } in subst IsWorker (sym is) core

-- after a look at a box
pub placed_worker : (places : List Place) (seat after : SeatState) →
    after ≡ record seat { places = places } →
    IsWorker seat → IsWorker after
placed_worker places seat after is worker =
    let core : IsWorker (record seat { places = places }) = record { took = worker.took } in
    subst IsWorker (sym is) core

-- with another pass at a slot, which was started as the one that was there
pub passed_worker : (places : List Place) (amount slot : ℕ) (p q : SeatPass) (seat after : SeatState) →
    slice_get seat.passes slot ≡ Some p → start_of q ≡ start_of p →
    after ≡ record seat { places = places; amount = amount; passes = slice_set seat.passes slot q } →
    IsWorker seat → IsWorker after
passed_worker places amount slot p q seat after there same is worker =
    let core : IsWorker (record seat {
      places = places;
      amount = amount;
      passes = slice_set seat.passes slot q;
    }) =
    record { took = λ whole. worker.took whole ∙ sym (set-map start_of seat.passes slot p q there same) } in
    subst IsWorker (sym is) core
