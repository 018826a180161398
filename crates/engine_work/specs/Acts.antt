-- What a worker does, one act after the other.
use Rattle.std.specs.Prelude.{◌≡◌, ℕ, zero, suc, ◌⊎◌, List, [], ◌∷◌, ◌++◌}
use Rattle.seuss_program.specs.declared.state.Value.{Value}
use Rattle.method_code.specs.declared.method.Method.{Method}
use Rattle.compat_scheduler.specs.declared.ticket.FinishVerdict.{FinishVerdict}
use Rattle.round_ledger.specs.declared.standing.Standing.TheVariants.{Going, Ended}
use Rattle.pass_seats.specs.declared.pass.Pass.{Pass}
use Rattle.pass_seats.specs.declared.refusal.EngineRefusal.{EngineRefusal}
use Rattle.pass_seats.specs.Names.{Names}
use Rattle.pass_seats.specs.Seats.{SeatState}
use Rattle.worker_seats.specs.declared.progress.TryProgress as R
use Rattle.worker_seats.specs.declared.progress.TryProgress.TheVariants as Y
use Rattle.worker_seats.specs.Workers.{WorkerState}
use Rattle.worker_seats.specs.Takes.{Started, StartRefused}
use Rattle.shared_engine.specs.Calls.{Tried, TryRefused, HasFinished, FinishRefused, Stands, StandingRefused}
use Rattle.engine_work.specs.declared.bench.HeldPass.{HeldPass}
use Rattle.engine_work.specs.declared.turn.Turn as T
use Rattle.engine_work.specs.declared.turn.Turn.TheVariants as V
use Rattle.engine_work.specs.Benches.{fresh, waiting, held_in, MayBegin, IsBench}

-- the worker begins a further pass, which it has got from the ready queue
pub record Begins (names : Names) (old new : WorkerState) (held after : List HeldPass) : Type 0 where
  pub may : MayBegin held
  pub pass : Pass
  pub started : Started names old new pass
  pub after_is : after ≡ held ++ fresh pass ∷ []

-- after a try of a pass: it waits for its box, or goes on, behind the others, or it is over and is finished
-- at once
abbrev pub GoesOn : R.TryProgress → Names → WorkerState → WorkerState → Pass → List HeldPass → List HeldPass →
    Type 0
GoesOn Y.Busy names old new pass rest after = (new ≡ old) × (after ≡ rest ++ waiting pass ∷ [])
GoesOn Y.Stepped names old new pass rest after = (new ≡ old) × (after ≡ rest ++ fresh pass ∷ [])
GoesOn Y.Over names old new pass rest after =
    (verdict : FinishVerdict) × HasFinished names old new pass.slot verdict × (after ≡ rest)

-- the worker tries one step of the first pass that it holds
pub record Steps (names : Names) (code : List Method) (first : ℕ → List Value) (old new : WorkerState)
    (one : HeldPass) (rest after : List HeldPass) : Type 0 where
  pub progress : R.TryProgress
  pub mid : WorkerState
  pub tried : Tried names.setting.program code first old mid one.pass.slot progress
  pub goes : GoesOn progress names mid new one.pass rest after

-- what the worker does with the first of the passes that it holds; without one it sees that the run goes on
abbrev pub DoesNext : Names → List Method → (ℕ → List Value) → WorkerState → WorkerState → List HeldPass →
    List HeldPass → Type 0
DoesNext names code first old new [] after = Stands names old new Going × (after ≡ [])
DoesNext names code first old new (one ∷ rest) after = Steps names code first old new one rest after

-- one act of a worker
abbrev pub Acts : Names → List Method → (ℕ → List Value) → WorkerState → WorkerState → List HeldPass →
    List HeldPass → Type 0
Acts names code first old new held after =
    Begins names old new held after ⊎ DoesNext names code first old new held after

-- the worker, which holds no pass, is told that the run has ended
abbrev pub IsToldEnded : Names → WorkerState → WorkerState → List HeldPass → Type 0
IsToldEnded names old new held = (held ≡ []) × Stands names old new Ended

-- what the worker does with the passes that it holds: one act, or it is told that the run has ended
abbrev pub NextMade : Names → List Method → (ℕ → List Value) → WorkerState → WorkerState → List HeldPass →
    T.Turn → Type 0
NextMade names code first old new held (V.Going bench) =
    DoesNext names code first old new held (held_in bench)
NextMade names code first old new held V.Ended = IsToldEnded names old new held

-- after a turn the worker holds different passes of its seat, each of which goes on
abbrev pub IsBenchAfter : SeatState → T.Turn → Type 0
IsBenchAfter s (V.Going bench) = IsBench s (held_in bench)
IsBenchAfter s V.Ended = Unit {0}

-- what a turn of a worker does: one act, or it is told that the run has ended
abbrev pub TurnMade : Names → List Method → (ℕ → List Value) → WorkerState → WorkerState → List HeldPass →
    T.Turn → Type 0
TurnMade names code first old new held (V.Going bench) = Acts names code first old new held (held_in bench)
TurnMade names code first old new held V.Ended = IsToldEnded names old new held

-- the finish of a pass was refused, after the try that ended its steps
pub record FinishIsRefused (names : Names) (code : List Method) (first : ℕ → List Value)
    (old new : WorkerState) (slot : ℕ) (refusal : EngineRefusal) : Type 0 where
  pub mid : WorkerState
  pub tried : Tried names.setting.program code first old mid slot Y.Over
  pub refused : FinishRefused names mid new slot refusal

-- a try of the pass in a slot was refused, or its finish
abbrev pub StepIsRefused : Names → List Method → (ℕ → List Value) → WorkerState → WorkerState → ℕ →
    EngineRefusal → Type 0
StepIsRefused names code first old new slot refusal =
    TryRefused old new slot refusal ⊎ FinishIsRefused names code first old new slot refusal

-- the call that the worker made with the first of the passes that it holds, or with none, was refused
abbrev pub NextIsRefused : Names → List Method → (ℕ → List Value) → WorkerState → WorkerState →
    List HeldPass → EngineRefusal → Type 0
NextIsRefused names code first old new [] refusal = StandingRefused old new refusal
NextIsRefused names code first old new (one ∷ rest) refusal =
    StepIsRefused names code first old new one.pass.slot refusal

-- a call of the worker was refused
abbrev pub IsRefused : Names → List Method → (ℕ → List Value) → WorkerState → WorkerState → List HeldPass →
    EngineRefusal → Type 0
IsRefused names code first old new held refusal =
    StartRefused old new refusal ⊎ NextIsRefused names code first old new held refusal

-- so many acts, one after the other
abbrev pub HasDone : ℕ → Names → List Method → (ℕ → List Value) → WorkerState → WorkerState → List HeldPass →
    List HeldPass → Type 0
HasDone zero names code first old new held after = (new ≡ old) × (after ≡ held)
HasDone (suc n) names code first old new held after = (mid : WorkerState) × (between : List HeldPass)
    × HasDone n names code first old mid held between × Acts names code first mid new between after
