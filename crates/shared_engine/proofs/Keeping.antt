-- What the calls of the engine answer, from what the seat's calls answered.
use Rattle.std.proofs.Common.{◌≡◌, ℕ, suc, List, map, sym, ap, ◌∙◌, subst, Some}
use Rattle.std.specs.Prelude.{Result, Ok, Err, IfOk, MatchResult, slice_get}
use Rattle.seuss_program.specs.declared.program.Program.{Program}
use Rattle.seuss_program.specs.declared.state.Value.{Value}
use Rattle.method_code.specs.declared.method.Method.{Method}
use Rattle.atomic_table.specs.Seated.{TableId}
use Rattle.box_turn.specs.Seats as T
use Rattle.compat_scheduler.specs.declared.ticket.FinishVerdict.{FinishVerdict}
use Rattle.round_ledger.specs.declared.standing.Standing.{Standing}
use Rattle.round_ledger.specs.Cells.{CellState}
use Rattle.pass_seats.specs.declared.pass.Progress as P
use Rattle.pass_seats.specs.declared.pass.SeatPass.{SeatPass}
use Rattle.pass_seats.specs.declared.refusal.EngineRefusal as E
use Rattle.pass_seats.specs.declared.refusal.EngineRefusal.TheVariants as X
use Rattle.pass_seats.specs.Names.{Names}
use Rattle.pass_seats.specs.Desks.{SchedDeskState, IsSchedDesk}
use Rattle.pass_seats.specs.Seats.{SeatState}
use Rattle.pass_seats.specs.Steps.{IsOpen}
use Rattle.pass_seats.proofs.Lists.{some_same, at-map, map-at}
use Rattle.worker_seats.specs.Workers.{WorkerState, turn_of}
use Rattle.worker_seats.specs.Endings.{FinishAllRefused, FinishedAll, StandingTold}
use Rattle.worker_seats.specs.Endings as W
use Rattle.worker_seats.specs.declared.progress.TryProgress.{TryProgress}
use Rattle.worker_seats.specs.Tries.{Missed, StepMade, StepRefused, Tries, Waits}
use Rattle.worker_seats.proofs.Tries.{waits_core}
use Rattle.shared_engine.specs.Rings.{IsSchedOf, name_of}
use Rattle.shared_engine.specs.Calls.{Advanced, AdvanceRefused, FinishRefused, HasFinished, Stands, StandingRefused}
use Rattle.shared_engine.specs.Calls.{Tried, TryRefused}

-- the cell of the scheduler's desk is one of the engine's scheduler
pub sched_of : (names : Names) (d : SchedDeskState) → IsSchedDesk names d → IsSchedOf names d.cell
sched_of names d kept = record { journal = kept.journal; setting = kept.setting; seats = kept.seats }

module _ (names : Names) (cell next : CellState) (old new : WorkerState) (of : IsSchedOf names cell) where
  -- a finish at this cell
  pub has_finished : (slot : ℕ) (verdict : FinishVerdict) → FinishedAll cell next old new slot verdict →
      HasFinished names old new slot verdict
  has_finished slot verdict made = record { cell = cell; next = next; of = of; made = made }

  -- a finish that was refused there
  pub finish_refused : (slot : ℕ) (r : E.EngineRefusal) → FinishAllRefused cell next old new slot r →
      FinishRefused names old new slot r
  finish_refused slot (X.GivenUp by) f = f.1
  finish_refused slot X.Memory f = f
  finish_refused slot (X.Worn stamp) f = record { cell = cell; next = next; of = of; worn = f }

  -- whether the run goes on, at this cell
  pub stands : (answer : Standing) → StandingTold cell old new answer → Stands names old new answer
  stands answer told = record { cell = cell; of = of; told = told }

  -- what is told of a finish there, made or refused
  pub finish_told : (slot : ℕ) (made : Result FinishVerdict E.EngineRefusal) →
      IfOk made (FinishedAll cell next old new slot) → IfOk made (HasFinished names old new slot)
  finish_told slot (Ok verdict) f = has_finished slot verdict f
  finish_told slot (Err r) f = f

  pub refusal_told : (slot : ℕ) (made : Result FinishVerdict E.EngineRefusal) →
      MatchResult made (λ _. ℕ) (FinishAllRefused cell next old new slot) →
      MatchResult made (λ _. ℕ) (FinishRefused names old new slot)
  refusal_told slot (Ok verdict) f = f
  refusal_told slot (Err r) f = finish_refused slot r f

  pub standing_told : (told : Result Standing E.EngineRefusal) → IfOk told (StandingTold cell old new) →
      IfOk told (Stands names old new)
  standing_told (Ok answer) f = stands answer f
  standing_told (Err r) f = f

-- a look at the scheduler that was refused
pub standing_refused : (cell : CellState) (old new : WorkerState) (r : E.EngineRefusal) →
    W.StandingRefused cell old new r → StandingRefused old new r
standing_refused cell old new (X.GivenUp by) f = f.0
standing_refused cell old new X.Memory f = f
standing_refused cell old new (X.Worn stamp) f = f

pub unstanding_told : (cell : CellState) (old new : WorkerState) (told : Result Standing E.EngineRefusal) →
    MatchResult told (λ _. ℕ) (W.StandingRefused cell old new) → MatchResult told (λ _. ℕ) (StandingRefused old new)
unstanding_told cell old new (Ok answer) f = f
unstanding_told cell old new (Err r) f = standing_refused cell old new r f

-- what is told of a try, made or refused, after a look that found nobody
pub tried_told : (program : Program) (code : List Method) (first : ℕ → List Value) (old mid new : WorkerState)
    (slot b : ℕ) (r : Result TryProgress E.EngineRefusal) → mid ≡ old → IsOpen mid.core slot b →
    IfOk r (Tries program code first mid new slot b) → IfOk r (Tried program code first old new slot)
tried_told program code first old mid new slot b (Ok progress) same here tries = record {
  b = b;
  at = subst (λ (o : WorkerState). IsOpen o.core slot b) same here;
  tries = subst (λ (o : WorkerState). Tries program code first o new slot b progress) same tries;
}
tried_told program code first old mid new slot b (Err r) same here tries = tries

pub untried_told : (old mid new : WorkerState) (slot b : ℕ) (r : Result TryProgress E.EngineRefusal) →
    mid ≡ old → IsOpen mid.core slot b → MatchResult r (λ _. ℕ) (StepRefused mid new slot b) →
    MatchResult r (λ _. ℕ) (TryRefused old new slot)
untried_told old mid new slot b (Ok progress) same here refused = refused
untried_told old mid new slot b (Err r) same here refused = record {
  b = b;
  at = subst (λ (o : WorkerState). IsOpen o.core slot b) same here;
  refused = subst (λ (o : WorkerState). StepRefused o new slot b r) same refused;
}

-- the seat of the turn of a box, at the ring of these turns
pub ring_turn : (seats : List (T.SeatState ℕ)) (turns : List (T.TurnState ℕ)) (b : ℕ) (x : T.TurnState ℕ) →
    map turn_of seats ≡ map name_of turns → slice_get turns b ≡ Some x →
    (t : T.SeatState ℕ) × (slice_get seats b ≡ Some t) × (t.turn ≡ x.name)
ring_turn seats turns b x same at =
    map-at turn_of seats b x.name
    (ap (λ (l : List TableId). slice_get l b) same ∙ at-map name_of turns b x at)

-- a pass has one next box
pub one_box : (s : SeatState) (slot b c : ℕ) → IsOpen s slot b → IsOpen s slot c → b ≡ c
one_box s slot b c x y =
    sym x.box
    ∙ ap (λ (p : SeatPass). p.control.box_number) (some_same x.pass y.pass (sym x.there ∙ y.there))
    ∙ y.box

-- a pass is where it was, after tries that found its box taken
pub open_back : (n b c slot : ℕ) (old mid : WorkerState) → Waits n b old mid → IsOpen mid.core slot c →
    IsOpen old.core slot c
open_back n b c slot old mid waits here =
    subst (λ (s : SeatState). IsOpen s slot c) (waits_core n b old mid waits) here

module _ (old mid new : WorkerState) (n b c slot : ℕ) (at : IsOpen old.core slot b) (waits : Waits n b old mid)
    (here : IsOpen mid.core slot c) where
  -- the box of each try is the same
  abbrev same : c ≡ b
  same = one_box old.core slot c b (open_back n b c slot old mid waits here) at

  -- one try more that found it taken
  pub waits_more : Missed c mid new → Waits (suc n) b old new
  waits_more m = (mid, waits, subst (λ (k : ℕ). Missed k mid new) same m)

  -- the step after these tries
  pub advanced : (program : Program) (code : List Method) (first : ℕ → List Value) (progress : P.Progress) →
      StepMade program code first mid new slot c progress → Advanced program code first old new slot progress
  advanced program code first progress step = record {
    b = b;
    at = at;
    advances = record {
      misses = n;
      waited = mid;
      waits = waits;
      step = subst (λ (k : ℕ). StepMade program code first mid new slot k progress) same step;
    };
  }

  -- or its refusal
  pub advance_refused : (r : E.EngineRefusal) → StepRefused mid new slot c r → AdvanceRefused old new slot r
  advance_refused r refused = record {
    b = b;
    at = at;
    refused = record {
      misses = n;
      waited = mid;
      waits = waits;
      refused = subst (λ (k : ℕ). StepRefused mid new slot k r) same refused;
    };
  }
