-- A new engine shows the run at its beginning.
use Rattle.std.proofs.Common.{◌≡◌, ℕ, suc, List, [], ◌∷◌, ◌++◌, map, length, refl, sym, ap, ◌∙◌, Some, None}
use Rattle.std.proofs.Common.{slice_get, subst, arith, replicate}
use Rattle.std.specs.Prelude.{Option}
use Rattle.std.proofs.lemmas.Option.{none-some, get_or_from_slice_get, slice_get_within}
use Rattle.std.proofs.lemmas.List.{length-map, length-replicate}
use Rattle.seuss_program.specs.declared.state.Vars.{Vars}
use Rattle.step_journal.specs.Histories.{entries_of}
use Rattle.loose_records.specs.Growing.{empty_record}
use Rattle.box_lock.specs.Cells.{CellState}
use Rattle.round_ledger.specs.Cells as L
use Rattle.pass_seats.specs.declared.pass.SeatPass.{SeatPass}
use Rattle.pass_seats.specs.Names.{Names}
use Rattle.pass_seats.specs.Seats.{SeatState}
use Rattle.pass_gather.specs.Given.{given_of}
use Rattle.pass_engine.specs.Engines.{EngineState}
use Rattle.pass_engine.specs.Beginnings.{AreNewWorkers, IsNewEngine}
use Rattle.turn_runs.specs.declared.hand.Hand.{Hand}
use Rattle.turn_runs.proofs.ListLemmas.{at-map, at-within}
use Rattle.still_turns.specs.declared.hand.InHand.{InHand}
use Rattle.still_turns.specs.declared.hand.InHand.TheVariants as H
use Rattle.pass_gather.specs.Gathered.{vars_in}
use Rattle.still_turns.specs.Shown.{Shows, ShowsBoxes, IsSlot, IsInHand, entries_in}
use Rattle.still_turns.specs.Shown.{run_begun}
use Rattle.still_turns.proofs.ListPlaces.{same_list, at_replicate, map_replicate}

-- seats without passes were given none
none_given : (seats : List SeatState) → ((w : ℕ) (s : SeatState) → slice_get seats w ≡ Some s → s.passes ≡ []) →
    given_of seats ≡ []
none_given [] none = refl
none_given (s ∷ seats) none =
    ap (λ (ps : List SeatPass). ps ++ given_of seats) (none 0 s refl)
    ∙ none_given seats (λ w x at. none (suc w) x at)

module _ (names : Names) (e : EngineState) (new : IsNewEngine names e)
    (boxes : length names.boxes ≡ length names.first.boxes) where
  -- there are as many boxes as in the first state
  many : length e.boxes ≡ length names.first.boxes
  many = new.many ∙ boxes

  -- no box has entries
  no_entries : (b : ℕ) (cell : CellState) → slice_get e.boxes b ≡ Some cell → entries_in cell ≡ []
  no_entries b cell at = ap (λ (c : CellState). entries_in c) (new.boxes b cell at)

  -- the variables of a box are those of the first state
  first_vars : (b : ℕ) (v : Vars) → slice_get names.first.boxes b ≡ Some v →
      slice_get (map vars_in e.boxes) b ≡ Some v
  first_vars b v at =
      let within = slice_get_within names.first.boxes b v at in
      let cell = at-within e.boxes b (omega (arith, within, many)) in
      let none : Vars = record { values = [] } in
      let is : vars_in cell.0 ≡ v =
      ap (λ (c : CellState). vars_in c) (new.boxes b cell.0 cell.1)
      ∙ get_or_from_slice_get names.first.boxes b v none at in
      at-map vars_in e.boxes b cell.0 cell.1 ∙ ap Some is

  -- the boxes at the beginning
  pub boxes_begun : ShowsBoxes e.boxes (empty_record names.first)
  boxes_begun = record {
    boxes = ap (λ (n : ℕ). replicate n []) (sym many) ∙ sym (map_replicate entries_in [] e.boxes no_entries);
    last = λ i. record {
      boxes = same_list names.first.boxes (map vars_in e.boxes)
          (sym (length-map e.boxes vars_in ∙ many)) first_vars i;
    };
  }

  -- a new engine shows the run at its beginning
  pub run_begins : (seats : List SeatState) → AreNewWorkers names.seats seats →
      Shows names e seats (replicate names.seats H.Nothing) (run_begun names) (replicate names.seats None)
  run_begins seats fresh = record {
    first = refl;
    boxes = boxes_begun;
    sched = record {
      setting = ap (λ (c : L.CellState). c.setting) new.sched;
      core = refl;
      machine = sym (ap (λ (c : L.CellState). c.machine) new.sched);
      sched = sym (ap (λ (c : L.CellState). entries_of c.journal.log) new.sched);
    };
    going = new.going;
    workers = record {
      all = fresh.all;
      each = λ w s at. ((fresh.each w s at).number_is, (fresh.each w s at).whole);
    };
    passes = record {
      each = λ w k p is. absurd (no_slot w k p is);
      once = λ v w j k p q a b same. absurd (no_slot v j p a);
      many = ap (λ (ps : List SeatPass). length ps)
          (none_given seats (λ w s at. (fresh.each w s at).none));
    };
    in_hand = record {
      many = length-replicate names.seats H.Nothing ∙ sym fresh.all;
      each = λ w s h hand at_seat at_held at_hand.
          subst (λ (x : Option Hand). IsInHand s h x) (at_replicate names.seats w None hand at_hand)
          (subst (λ (x : InHand). IsInHand s x None) (at_replicate names.seats w H.Nothing h at_held) tt);
    };
  }
    where
      no_slot : (w k : ℕ) (p : SeatPass) → IsSlot seats w k p → ⊥
      no_slot w k p is =
          none-some p (ap (λ (ps : List SeatPass). slice_get ps k)
          (sym (fresh.each w is.seat is.there).none) ∙ is.here)
