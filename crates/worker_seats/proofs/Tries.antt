-- A try of a step: the seat of the turn is as it was after a take and a give, and has one miss more where the turn
-- was found taken.
use Rattle.std.proofs.Common.{◌≡◌, ◌≢◌, ℕ, zero, suc, ⊎_elim, List, set, false, true, refl, sym}
use Rattle.std.proofs.Common.{Bool, ap, ◌∙◌, subst, Some}
use Rattle.std.specs.Prelude.{Result, Ok, Err, IfOk, MatchResult, slice_get, slice_set}
use Rattle.std.proofs.lemmas.List.{length-set}
use Rattle.seuss_program.specs.declared.program.Program.{Program}
use Rattle.seuss_program.specs.declared.state.Value.{Value}
use Rattle.method_code.specs.declared.method.Method.{Method}
use Rattle.atomic_table.specs.Seated.{TableId}
use Rattle.box_lock.specs.Cells as B
use Rattle.box_turn.specs.Seats as T
use Rattle.pass_seats.specs.declared.pass.Progress as P
use Rattle.pass_seats.specs.declared.pass.Progress.TheVariants as V
use Rattle.pass_seats.specs.declared.refusal.EngineRefusal as E
use Rattle.pass_seats.specs.declared.refusal.EngineRefusal.TheVariants as X
use Rattle.pass_seats.specs.Names.{Names}
use Rattle.pass_seats.specs.Seats.{SeatState}
use Rattle.pass_seats.specs.Steps.{AdvancedAt, DeskRefused, SawBox}
use Rattle.pass_seats.proofs.Lists.{set-again, set-cases, set-map}
use Rattle.worker_seats.specs.Marks.{mark_of}
use Rattle.worker_seats.specs.Workers.{WorkerState, IsWorker, IsSameSeat, IsTurn, turn_of, with_core}
use Rattle.worker_seats.specs.Tries.{Missed, StepMade, StepRefused, Tries, Waits, as_tried, with_miss}
use Rattle.worker_seats.proofs.Workers.{torn_kept, quit_kept, placed_kept, passed_kept}
use Rattle.worker_seats.proofs.Readies.{same_more, same_still}

-- taken and given back, the seat of a turn is as it was
pub back_again : (t u w : T.SeatState ℕ) → t.holds ≡ false → u ≡ record t { holds = true } →
    w ≡ record u { holds = false } → w ≡ t
back_again t u w free took gave =
    gave ∙ ap (λ (x : T.SeatState ℕ). record x { holds = false }) took
    ∙ ap (λ (h : Bool). record t { holds = h }) (sym free)

-- and so are the seats of all turns
pub turns_back : (turns : List (T.SeatState ℕ)) (b : ℕ) (t w : T.SeatState ℕ) → slice_get turns b ≡ Some t →
    w ≡ t → set turns b w ≡ turns
turns_back turns b t w at back = ap (set turns b) back ∙ set-again turns b t at

module _ (names : Names) (s : WorkerState) (w : IsWorker names s) (b : ℕ) (t : T.SeatState ℕ)
    (at : slice_get s.turns b ≡ Some t) where
  -- with one miss more the seat keeps what it has to
  pub missed_kept : IsWorker names (record s { turns = set s.turns b (with_miss t) })
  missed_kept = record {
    many = length-set s.turns b (with_miss t) ∙ w.many;
    turns = λ j u there.
        ⊎_elim (λ (h : (j ≡ b) × (with_miss t ≡ u)).
        let is = w.turns b t at in
        let turn : IsTurn b (with_miss t) = record { box = is.box; free = is.free } in
        subst (λ (n : ℕ). IsTurn n u) (sym h.0) (subst (IsTurn b) h.1 turn))
        (λ (h : (j ≢ b) × (slice_get s.turns j ≡ Some u)). w.turns j u h.1)
        (set-cases s.turns b j (with_miss t) u there);
    number = w.number;
    home = w.home;
    pushed = w.pushed;
    taken = w.taken;
  }

-- what a try that found the turn taken leaves
pub missed_is : (s old : WorkerState) (b : ℕ) (was now : T.SeatState ℕ) → s ≡ old →
    slice_get s.turns b ≡ Some was → now ≡ with_miss was → Missed b old (record s { turns = set s.turns b now })
missed_is s old b was now same at missed = record {
  turn = was;
  there = subst (λ (o : WorkerState). slice_get o.turns b ≡ Some was) same at;
  new_is =
      ap (λ (x : T.SeatState ℕ). record s { turns = set s.turns b x }) missed
      ∙ ap (λ (o : WorkerState). record o { turns = set o.turns b (with_miss was) }) same;
}

-- and it is the same seat
pub missed_same : (b : ℕ) (old new : WorkerState) → Missed b old new → IsSameSeat old new
missed_same b old new m =
    let still : IsSameSeat old (record old { turns = slice_set old.turns b (with_miss m.turn) }) = record {
      number = refl;
      ring = ap (λ (l : List TableId). record { turns = l; queue = old.ready.queue })
          (set-map turn_of old.turns b m.turn (with_miss m.turn) m.there refl);
      first = refl;
    } in
    subst (IsSameSeat old) (sym m.new_is) still

module _ (program : Program) (code : List Method) (first : ℕ → List Value) (cell after : B.CellState)
    (s : WorkerState) (new : SeatState) (slot : ℕ) where
  -- after a step the seat keeps what it has to
  pub stepped_kept : (names : Names) (progress : P.Progress) → IsWorker names s →
      AdvancedAt program code first cell after s.core new slot progress → IsWorker names (with_core s new)
  stepped_kept names progress w step =
      let a = step.advanced in
      passed_kept names s w (slice_set s.core.places cell.number a.seen) s.core.amount slot a.pass a.after new
      a.at_pass (ap mark_of a.steps.after_is) a.new_is

  -- its number is as before
  pub stepped_number : (progress : P.Progress) →
      AdvancedAt program code first cell after s.core new slot progress → new.number ≡ s.core.number
  stepped_number progress step = ap (λ (t : SeatState). t.number) step.advanced.new_is

-- after a step that was refused the seat keeps what it has to
pub unstepped_kept : (names : Names) (cell : B.CellState) (s : WorkerState) (new : SeatState) (slot : ℕ)
    (r : E.EngineRefusal) → IsWorker names s → DeskRefused cell s.core new slot r → IsWorker names (with_core s new)
unstepped_kept names cell s new slot (X.GivenUp by) w f = quit_kept names s w by new f.0
unstepped_kept names cell s new slot X.Memory w f = torn_kept names s w new f
unstepped_kept names cell s new slot (X.Worn stamp) w f =
    placed_kept names s w (slice_set s.core.places cell.number f.1.seen) new f.1.new_is

-- its number is as before
pub unstepped_number : (cell : B.CellState) (s : WorkerState) (new : SeatState) (slot : ℕ) (r : E.EngineRefusal) →
    DeskRefused cell s.core new slot r → new.number ≡ s.core.number
unstepped_number cell s new slot (X.GivenUp by) f = ap (λ (t : SeatState). t.number) f.0
unstepped_number cell s new slot X.Memory f = f.number
unstepped_number cell s new slot (X.Worn stamp) f = ap (λ (t : SeatState). t.number) f.1.new_is

module _ (program : Program) (code : List Method) (first : ℕ → List Value) (cell after : B.CellState)
    (old new : WorkerState) (slot b : ℕ) (at : cell.number ≡ b) (rest : new ≡ with_core old new.core) where
  -- what was made of a step, as a step of the seat
  made_of : (progress : P.Progress) → AdvancedAt program code first cell after old.core new.core slot progress →
      StepMade program code first old new slot b progress
  made_of progress step = record { cell = cell; after = after; at = at; step = step; new_is = rest }

  -- what is answered of a step that was made
  pub tried_done : (made : Result P.Progress E.EngineRefusal) →
      IfOk made (AdvancedAt program code first cell after old.core new.core slot) →
      IfOk (as_tried made) (Tries program code first old new slot b)
  tried_done (Ok V.Over) step = made_of V.Over step
  tried_done (Ok V.Stepped) step = made_of V.Stepped step
  tried_done (Err r) step = tt

  -- what is answered of a step that was refused
  pub tried_refused : (made : Result P.Progress E.EngineRefusal) →
      MatchResult made (λ _. ℕ) (DeskRefused cell old.core new.core slot) →
      MatchResult (as_tried made) (λ _. ℕ) (StepRefused old new slot b)
  tried_refused (Ok V.Over) refused = 0
  tried_refused (Ok V.Stepped) refused = 0
  tried_refused (Err (X.GivenUp by)) refused = rest ∙ ap (with_core old) refused.0
  tried_refused (Err X.Memory) refused = (refused, rest)
  tried_refused (Err (X.Worn stamp)) refused = record {
    log = cell.journal.log;
    worn = refused.0;
    saw = subst (λ (n : ℕ). SawBox cell.journal.log n old.core new.core) at refused.1;
    new_is = rest;
  }

-- after a step, made or refused, the seat keeps what it has to
pub made_kept : (program : Program) (code : List Method) (first : ℕ → List Value) (names : Names)
    (cell after : B.CellState) (s : WorkerState) (new : SeatState) (slot : ℕ)
    (made : Result P.Progress E.EngineRefusal) → IsWorker names s →
    IfOk made (AdvancedAt program code first cell after s.core new slot) →
    MatchResult made (λ _. ℕ) (DeskRefused cell s.core new slot) → IsWorker names (with_core s new)
made_kept program code first names cell after s new slot (Ok progress) w step refused =
    stepped_kept program code first cell after s new slot names progress w step
made_kept program code first names cell after s new slot (Err r) w step refused =
    unstepped_kept names cell s new slot r w refused

-- and its number is as before
pub made_number : (program : Program) (code : List Method) (first : ℕ → List Value)
    (cell after : B.CellState) (s : WorkerState) (new : SeatState) (slot : ℕ)
    (made : Result P.Progress E.EngineRefusal) →
    IfOk made (AdvancedAt program code first cell after s.core new slot) →
    MatchResult made (λ _. ℕ) (DeskRefused cell s.core new slot) → new.number ≡ s.core.number
made_number program code first cell after s new slot (Ok progress) step refused =
    stepped_number program code first cell after s new slot progress step
made_number program code first cell after s new slot (Err r) step refused =
    unstepped_number cell s new slot r refused

-- so many misses leave the seat the same one, with the same core
pub waits_same : (n b : ℕ) (old new : WorkerState) → Waits n b old new → IsSameSeat old new
waits_same zero b old new w = same_still old new w
waits_same (suc n) b old new w = same_more old w.0 new (waits_same n b old w.0 w.1) (missed_same b w.0 new w.2)

pub waits_core : (n b : ℕ) (old new : WorkerState) → Waits n b old new → new.core ≡ old.core
waits_core zero b old new w = ap (λ (s : WorkerState). s.core) w
waits_core (suc n) b old new w = ap (λ (s : WorkerState). s.core) w.2.new_is ∙ waits_core n b old w.0 w.1
