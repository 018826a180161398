-- What a worker has done in the end.
use Rattle.std.specs.Prelude.{◌≡◌, ℕ, List, [], ◌∷◌, Option, Some, None}
use Rattle.seuss_program.specs.declared.state.Value.{Value}
use Rattle.method_code.specs.declared.method.Method.{Method}
use Rattle.round_ledger.specs.declared.standing.Standing.TheVariants.{Ended}
use Rattle.pass_seats.specs.declared.refusal.EngineRefusal as E
use Rattle.pass_seats.specs.declared.refusal.EngineRefusal.TheVariants as X
use Rattle.pass_seats.specs.Names.{Names}
use Rattle.pass_seats.specs.Steps.{Tears}
use Rattle.worker_seats.specs.Workers.{WorkerState, Ring, with_core, IsSameSeat}
use Rattle.shared_engine.specs.Rings.{IsSeatOf}
use Rattle.shared_engine.specs.Calls.{Stands}
use Rattle.engine_work.specs.declared.bench.HeldPass.{HeldPass}
use Rattle.engine_work.specs.Acts.{HasDone, IsRefused, IsToldEnded}

-- after a stamp that is worn the worker gives the engine up; after another refusal it does nothing
abbrev pub GivesUp : E.EngineRefusal → WorkerState → WorkerState → Type 0
GivesUp (X.GivenUp by) old new = new ≡ old
GivesUp X.Memory old new = new ≡ old
GivesUp (X.Worn stamp) old new = Tears old.core new.core × (new ≡ with_core old new.core)

-- how the work of a worker ends that holds these passes: it is told that the run has ended, or a call is
-- refused
abbrev pub EndsSo : Names → List Method → (ℕ → List Value) → WorkerState → WorkerState → List HeldPass →
    Option E.EngineRefusal → Type 0
EndsSo names code first last new held None = IsToldEnded names last new held
EndsSo names code first last new held (Some refusal) = (refused : WorkerState)
    × IsRefused names code first last refused held refusal × GivesUp refusal refused new

-- A worker with this seat, which held no pass, has done acts, one after the other, until it was told that
-- the run has ended, or a call of it was refused.
pub record HasWorked (names : Names) (code : List Method) (first : ℕ → List Value) (old new : WorkerState)
    (refusal : Option E.EngineRefusal) : Type 0 where
  pub many : ℕ
  pub last : WorkerState
  pub held : List HeldPass
  pub done : HasDone many names code first old last [] held
  pub ends : EndsSo names code first last new held refusal

-- the mark of the seat in the quit word, and whether it is torn, are as they were
pub record IsUnmarked (old new : WorkerState) : Type 0 where
  pub torn : new.core.torn ≡ old.core.torn
  pub mark : new.core.quit.mark ≡ old.core.quit.mark

-- a worker that was told the end, or saw that another has given up, has given nothing up itself
abbrev pub IsUnmarkedBut : Option E.EngineRefusal → WorkerState → WorkerState → Type 0
IsUnmarkedBut None old new = IsUnmarked old new
IsUnmarkedBut (Some (X.GivenUp by)) old new = IsUnmarked old new
IsUnmarkedBut (Some X.Memory) old new = Unit {0}
IsUnmarkedBut (Some (X.Worn stamp)) old new = Unit {0}

-- a seat that was told that the run has ended: it has then seen the scheduler's whole list, at whose end the
-- machine has ended
pub record SawTheEnd (names : Names) (s : WorkerState) : Type 0 where
  pub before : WorkerState
  pub stands : Stands names before s Ended

-- where no call was refused, the seat was told that the run has ended
abbrev pub SawTheEndUnless : Option E.EngineRefusal → Names → WorkerState → Type 0
SawTheEndUnless None names s = SawTheEnd names s
SawTheEndUnless (Some refusal) names s = Unit {0}

-- the work of a worker with this seat
pub record IsWork (names : Names) (code : List Method) (first : ℕ → List Value) (old new : WorkerState)
    (refusal : Option E.EngineRefusal) : Type 0 where
  pub worked : HasWorked names code first old new refusal
  pub seat : IsSameSeat old new
  pub told : SawTheEndUnless refusal names new
  pub unmarked : IsUnmarkedBut refusal old new

-- the seat of a worker as it left it, and why its last call was refused
pub record Left : Type 0 where
  pub seat : WorkerState
  pub refusal : Option E.EngineRefusal

-- this seat, with this refusal
abbrev pub ended_so : WorkerState → Option E.EngineRefusal → Left
ended_so seat refusal = record { seat = seat; refusal = refusal }

-- seats of the engine with this ring
abbrev pub AreSeatsOf : Ring → List WorkerState → Type 0
AreSeatsOf ring [] = Unit {0}
AreSeatsOf ring (s ∷ seats) = IsSeatOf ring s × AreSeatsOf ring seats

-- the work of workers with these seats: each has left its seat, in the same order
abbrev pub AreWork : Names → List Method → (ℕ → List Value) → List WorkerState → List Left → Type 0
AreWork names code first [] [] = Unit {0}
AreWork names code first [] (r ∷ left) = ⊥
AreWork names code first (s ∷ seats) [] = ⊥
AreWork names code first (s ∷ seats) (r ∷ left) =
    IsWork names code first s r.seat r.refusal × AreWork names code first seats left
