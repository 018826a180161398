-- A turn of a worker at the engine for one thread, and what it needs.
use Rattle.std.specs.Prelude.{◌≡◌, ℕ, ◌<◌, ◌^◌, List, None, Some, slice_get}
use Rattle.seuss_base.specs.declared.outcome.PassEnd.{PassEnd}
use Rattle.seuss_program.specs.declared.state.Value.{Value}
use Rattle.method_code.specs.declared.method.Method.{Method}
use Rattle.compat_scheduler.specs.declared.ticket.FinishVerdict.{FinishVerdict}
use Rattle.box_lock.specs.Cells as B
use Rattle.round_ledger.specs.Cells as S
use Rattle.pass_seats.specs.declared.pass.Progress.TheVariants as V
use Rattle.pass_seats.specs.declared.pass.SeatPass.{SeatPass}
use Rattle.pass_seats.specs.declared.refusal.EngineRefusal.{EngineRefusal}
use Rattle.pass_seats.specs.declared.refusal.EngineRefusal.TheVariants as X
use Rattle.pass_seats.specs.Names.{Names}
use Rattle.pass_seats.specs.Seats.{SeatState}
use Rattle.pass_engine.specs.Engines.{EngineState}
use Rattle.pass_engine.specs.Calls.{Started, NoneStarted, StepMade, FinishMade}
use Rattle.still_turns.specs.declared.hand.InHand.{InHand}
use Rattle.still_turns.specs.declared.hand.InHand.TheVariants as H

-- the pass in this slot goes on, and a stamp is left for its next step
pub record MayAdvance (e : EngineState) (s : SeatState) (slot : ℕ) : Type 0 where
  pub pass : SeatPass
  pub there : slice_get s.passes slot ≡ Some pass
  pub going : pass.over ≡ None
  pub left : (cell : B.CellState) → slice_get e.boxes pass.control.box_number ≡ Some cell →
      B.next_stamp pass.clock cell.journal.log < 2 ^ 63

-- the steps of the pass in this slot are over, it hasn't finished, and a stamp is left for its finish
pub record MayEnd (e : EngineState) (s : SeatState) (slot : ℕ) : Type 0 where
  pub pass : SeatPass
  pub there : slice_get s.passes slot ≡ Some pass
  pub end : PassEnd
  pub over : pass.over ≡ Some end
  pub undone : pass.done ≡ None
  pub left : S.next_stamp pass.clock e.sched.journal.log < 2 ^ 63

-- a worker may go on with what it has in hand: it is where it says, and a stamp is left
abbrev pub MayWork : EngineState → SeatState → InHand → Type 0
MayWork e s H.Nothing = S.next_stamp 0 e.sched.journal.log < 2 ^ 63
MayWork e s (H.Going pass) = MayAdvance e s pass.slot
MayWork e s (H.Through pass) = MayEnd e s pass.slot

-- a finish of the pass in this slot, with some verdict
pub record Finishes (old new : EngineState) (seat after : SeatState) (slot : ℕ) : Type 0 where
  pub verdict : FinishVerdict
  pub made : FinishMade old new seat after slot verdict

-- A turn of a worker, by what it has in hand and what it has then: a start or none, a step of its pass, which goes
-- on or is over then, or the finish of its pass.
abbrev pub Works : Names → List Method → (ℕ → List Value) → EngineState → EngineState → SeatState → SeatState →
    InHand → InHand → Type 0
Works names code first old new seat after H.Nothing H.Nothing = NoneStarted old new seat after
Works names code first old new seat after H.Nothing (H.Going pass) = Started names old new seat after pass
Works names code first old new seat after H.Nothing (H.Through pass) = ⊥
Works names code first old new seat after (H.Going pass) H.Nothing = ⊥
Works names code first old new seat after (H.Going pass) (H.Going next) =
    (next ≡ pass) × StepMade names.setting.program code first old new seat after pass.slot V.Stepped
Works names code first old new seat after (H.Going pass) (H.Through next) =
    (next ≡ pass) × StepMade names.setting.program code first old new seat after pass.slot V.Over
Works names code first old new seat after (H.Through pass) H.Nothing = Finishes old new seat after pass.slot
Works names code first old new seat after (H.Through pass) (H.Going next) = ⊥
Works names code first old new seat after (H.Through pass) (H.Through next) = ⊥

-- a seat with the same passes, as far as its number and its mark go
pub record IsSameWorker (old new : SeatState) : Type 0 where
  pub number : new.number ≡ old.number
  pub torn : new.torn ≡ old.torn
  pub passes : new.passes ≡ old.passes

-- a refusal for want of memory
abbrev pub IsWant : EngineRefusal → Type 0
IsWant X.Memory = Unit {0}
IsWant (X.Worn stamp) = ⊥
IsWant (X.GivenUp by) = ⊥
