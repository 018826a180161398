-- A step at an engine that nobody has given up.
use Rattle.std.proofs.Common.{◌≡◌, ℕ, List, sym, ap, ◌∙◌, refl, subst, set, false, Option}
use Rattle.std.proofs.Common.{None}
use Rattle.std.specs.Prelude.{Result, Ok, Err, IfOk, MatchResult}
use Rattle.seuss_program.specs.declared.program.Program.{Program}
use Rattle.seuss_program.specs.declared.state.Value.{Value}
use Rattle.method_code.specs.declared.method.Method.{Method}
use Rattle.box_lock.specs.Cells as B
use Rattle.pass_seats.specs.declared.pass.Progress.{Progress}
use Rattle.pass_seats.specs.declared.refusal.EngineRefusal as E
use Rattle.pass_seats.specs.declared.refusal.EngineRefusal.TheVariants as X
use Rattle.pass_seats.specs.Names.{Names}
use Rattle.pass_seats.specs.Seats.{IsSeat, SeatState, start_of}
use Rattle.pass_seats.specs.Slots.{MayGoOn}
use Rattle.pass_seats.specs.Steps.{AdvancedAt, DeskRefused, IsOpen, IsSameBox, IsStillBy, SawBox}
use Rattle.pass_seats.proofs.Lists.{none_some, set-again}
use Rattle.pass_engine.specs.Engines.{EngineState, IsSeatOf, IsWorker}
use Rattle.pass_engine.specs.Calls.{IsAt, StepMade, StepRefused, given_up_after}
use Rattle.pass_engine.proofs.Workers.{torn_worker, quit_worker, placed_worker, passed_worker}
use Rattle.pass_engine.proofs.Keeping.{with_box, with_cells, not_both, whole_seat}

-- what the step at the desk of a box promises
module _ (program : Program) (code : List Method) (first : ℕ → List Value) (cell next : B.CellState)
    (seat after : SeatState) (slot : ℕ) where
  abbrev pub HasStepped : Result Progress E.EngineRefusal → Type 0
  HasStepped made = IfOk made (AdvancedAt program code first cell next seat after slot)

  abbrev pub IsRefused : Result Progress E.EngineRefusal → Type 0
  IsRefused made = MatchResult made (λ _. ℕ) (DeskRefused cell seat after slot)

  abbrev pub IsStill : Result Progress E.EngineRefusal → Type 0
  IsStill made = MatchResult made (λ _. ℕ) (IsStillBy cell next)

  -- the seat was given just the passes that it has started
  pub step_worker : (made : Result Progress E.EngineRefusal) → HasStepped made → IsRefused made →
      IsWorker seat → IsWorker after
  step_worker (Ok progress) stepped refused worker =
      let made = stepped.advanced in
      passed_worker (set seat.places cell.number made.seen) seat.amount slot made.pass made.after seat after
      made.at_pass (ap start_of made.steps.after_is) made.new_is worker
  step_worker (Err X.Memory) stepped refused worker = torn_worker seat after refused
  step_worker (Err (X.GivenUp by)) stepped refused worker = quit_worker by seat after refused.0 worker
  step_worker (Err (X.Worn stamp)) stepped refused worker =
      placed_worker (set seat.places cell.number refused.1.seen) seat after refused.1.new_is worker

  -- the box is whole, unless the seat has given the engine up
  pub step_unbroken : (number : ℕ) (made : Result Progress E.EngineRefusal) → HasStepped made →
      IsStill made → cell.broken ≡ false → given_up_after number made ≡ None → next.broken ≡ false
  step_unbroken number (Ok progress) stepped still whole going = stepped.whole.1
  step_unbroken number (Err X.Memory) stepped still whole going = absurd (none_some number (sym going))
  step_unbroken number (Err (X.GivenUp by)) stepped still whole going =
      ap (λ (c : B.CellState). c.broken) still ∙ whole
  step_unbroken number (Err (X.Worn stamp)) stepped still whole going =
      ap (λ (c : B.CellState). c.broken) still ∙ whole

  -- and so is the seat
  pub step_whole : (number : ℕ) (made : Result Progress E.EngineRefusal) → HasStepped made → IsRefused made →
      seat.torn ≡ false → given_up_after number made ≡ None → after.torn ≡ false
  step_whole number (Ok progress) stepped refused whole going =
      ap (λ (s : SeatState). s.torn) stepped.advanced.new_is ∙ whole
  step_whole number (Err X.Memory) stepped refused whole going = absurd (none_some number (sym going))
  step_whole number (Err (X.GivenUp by)) stepped refused whole going =
      ap (λ (s : SeatState). s.torn) refused.0 ∙ whole
  step_whole number (Err (X.Worn stamp)) stepped refused whole going =
      ap (λ (s : SeatState). s.torn) refused.1.new_is ∙ whole

-- what it means for the engine
module _ (program : Program) (code : List Method) (first : ℕ → List Value) (old : EngineState) (b : ℕ)
    (cell next : B.CellState) (seat after : SeatState) (slot : ℕ) (going : old.given_up ≡ None)
    (at : IsAt old seat slot b cell) where
  abbrev pub new_at : Result Progress E.EngineRefusal → EngineState
  new_at made = with_box old b next (given_up_after seat.number made)

  -- nothing has changed
  same_box : next ≡ cell → with_box old b next None ≡ old
  same_box is =
      ap (λ (c : B.CellState). with_box old b c None) is
      ∙ ap (λ (cells : List B.CellState). with_cells old cells None) (set-again old.boxes b cell at.there)
      ∙ ap (λ (g : Option ℕ). with_cells old old.boxes g) (sym going)

  pub step_made : (made : Result Progress E.EngineRefusal) →
      HasStepped program code first cell next seat after slot made →
      IfOk made (StepMade program code first old (new_at made) seat after slot)
  step_made (Ok progress) stepped = record {
    b = b;
    cell = cell;
    stepped = next;
    at = at;
    step = stepped;
    engine = record { going = going; new_is = ap (λ (g : Option ℕ). with_box old b next g) (sym going) };
  }
  step_made (Err refusal) stepped = stepped

  pub step_refused : (made : Result Progress E.EngineRefusal) →
      IsRefused program code first cell next seat after slot made →
      IsStill program code first cell next seat after slot made → IsSameBox cell next → cell.broken ≡ false →
      MatchResult made (λ _. ℕ) (StepRefused old (new_at made) seat after slot)
  step_refused (Ok progress) refused still same whole = refused
  step_refused (Err X.Memory) refused still same whole = record {
    gives_up = record { going = going; given_up = refl; tears = refused };
    b = b;
    cell = cell;
    left = next;
    at = at;
    box = same;
    new_is = refl;
  }
  step_refused (Err (X.GivenUp by)) refused still same whole = not_both cell.broken whole refused.1
  step_refused (Err (X.Worn stamp)) refused still same whole = record {
    going = going;
    b = b;
    cell = cell;
    at = at;
    worn = refused.0;
    saw = subst (λ (n : ℕ). SawBox cell.journal.log n seat after) at.number refused.1;
    same = same_box still;
  }

-- after a step a pass of a seat has another one, or it is over
abbrev pub StepsGoOn : Type 0
StepsGoOn = (names : Names) (program : Program) (code : List Method) (first : ℕ → List Value)
    (cell next : B.CellState) (old new : SeatState) (slot b : ℕ) (progress : Progress) → IsSeat names old →
    old.torn ≡ false → IsOpen old slot b → AdvancedAt program code first cell next old new slot progress →
    MayGoOn progress new slot

-- so it is after a step of the engine
pub step_next : StepsGoOn → (names : Names) (program : Program) (code : List Method)
    (first : ℕ → List Value) (old new : EngineState) (seat after : SeatState) (slot : ℕ)
    (made : Result Progress E.EngineRefusal) → IsSeat names seat → IsSeatOf old seat →
    IfOk made (StepMade program code first old new seat after slot) →
    IfOk made (λ progress. MayGoOn progress after slot)
step_next law names program code first old new seat after slot (Ok progress) kept of stepped =
    law names program code first stepped.cell stepped.stepped seat after slot stepped.b progress kept
    (whole_seat old seat stepped.engine.going of) stepped.at.going stepped.step
step_next law names program code first old new seat after slot (Err refusal) kept of stepped = stepped
