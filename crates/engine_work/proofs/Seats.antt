-- Which seat a worker has after its calls, and whether it has given up.
use Rattle.std.proofs.Common.{◌≡◌, ℕ, zero, suc, ◌∙◌, inl, inr, ap, refl, List, [], ◌∷◌}
use Rattle.seuss_program.specs.declared.program.Program.{Program}
use Rattle.seuss_program.specs.declared.state.Value.{Value}
use Rattle.method_code.specs.declared.method.Method.{Method}
use Rattle.compat_scheduler.specs.declared.ticket.FinishVerdict.{FinishVerdict}
use Rattle.round_ledger.specs.declared.standing.Standing.{Standing}
use Rattle.round_ledger.specs.declared.standing.Standing.TheVariants.{Going}
use Rattle.round_ledger.specs.Cells as S
use Rattle.pass_seats.specs.declared.pass.Pass.{Pass}
use Rattle.pass_seats.specs.declared.pass.Progress as P
use Rattle.pass_seats.specs.declared.pass.Progress.TheVariants as V
use Rattle.pass_seats.specs.Names.{Names}
use Rattle.pass_seats.specs.Seats.{SeatState}
use Rattle.worker_seats.specs.declared.progress.TryProgress as R
use Rattle.worker_seats.specs.declared.progress.TryProgress.TheVariants as Y
use Rattle.worker_seats.specs.Workers.{WorkerState, IsSameSeat}
use Rattle.worker_seats.specs.Takes.{Started}
use Rattle.worker_seats.specs.Tries.{Tries, StepMade}
use Rattle.worker_seats.specs.Readies.{Readies, StartedAll}
use Rattle.shared_engine.specs.Calls.{Tried, HasFinished, Stands}
use Rattle.engine_work.specs.declared.bench.HeldPass.{HeldPass}
use Rattle.engine_work.specs.Acts.{Acts, DoesNext, GoesOn}
use Rattle.engine_work.specs.Records.{IsUnmarked}

-- a seat that is the same after each of two calls
pub same_then : (a b c : WorkerState) → IsSameSeat a b → IsSameSeat b c → IsSameSeat a c
same_then a b c one two = record {
  number = two.number ∙ one.number;
  ring = two.ring ∙ one.ring;
  first = two.first ∙ one.first;
}

-- marks that stay in each of two calls
pub unmarked_then : (a b c : WorkerState) → IsUnmarked a b → IsUnmarked b c → IsUnmarked a c
unmarked_then a b c one two = record { torn = two.torn ∙ one.torn; mark = two.mark ∙ one.mark }

-- a seat whose core has the same marks
core_unmarked : (a b : WorkerState) (core : SeatState) → b.core ≡ core → core.torn ≡ a.core.torn →
    core.quit.mark ≡ a.core.quit.mark → IsUnmarked a b
core_unmarked a b core same torn mark = record {
  torn = ap (λ (s : SeatState). s.torn) same ∙ torn;
  mark = ap (λ (s : SeatState). s.quit.mark) same ∙ mark;
}

-- a start changes no mark
started_unmarked : (names : Names) (old new : WorkerState) (pass : Pass) → Started names old new pass →
    IsUnmarked old new
started_unmarked names old new pass made = core_unmarked old new _ made.taken.new_is refl refl

-- nor does a step
made_unmarked : (program : Program) (code : List Method) (first : ℕ → List Value) (old new : WorkerState)
    (slot b : ℕ) (progress : P.Progress) → StepMade program code first old new slot b progress →
    IsUnmarked old new
made_unmarked program code first old new slot b progress made =
    core_unmarked old new _ made.step.advanced.new_is refl refl

-- nor does a try of a step
tries_unmarked : (progress : R.TryProgress) (program : Program) (code : List Method) (first : ℕ → List Value)
    (old new : WorkerState) (slot b : ℕ) → Tries program code first old new slot b progress →
    IsUnmarked old new
tries_unmarked Y.Busy program code first old new slot b made =
    core_unmarked old new _ (ap (λ (s : WorkerState). s.core) made.new_is) refl refl
tries_unmarked Y.Stepped program code first old new slot b made =
    made_unmarked program code first old new slot b V.Stepped made
tries_unmarked Y.Over program code first old new slot b made =
    made_unmarked program code first old new slot b V.Over made

-- the same of a try on the box at which the pass is
tried_unmarked : (progress : R.TryProgress) (program : Program) (code : List Method) (first : ℕ → List Value)
    (old new : WorkerState) (slot : ℕ) → Tried program code first old new slot progress → IsUnmarked old new
tried_unmarked progress program code first old new slot made =
    tries_unmarked progress program code first old new slot made.b made.tries

-- nor do starts that are pushed
readies_unmarked : (n : ℕ) (cell next : S.CellState) (old new : WorkerState) → Readies n cell old next new →
    IsUnmarked old new
readies_unmarked zero cell next old new made =
    core_unmarked old new _ (ap (λ (s : WorkerState). s.core) made.1) refl refl
readies_unmarked (suc n) cell next old new made =
    unmarked_then old made.1 new (readies_unmarked n cell made.0 old made.1 made.2)
    (core_unmarked made.1 new _ made.3.pushed.issued.new_is refl refl)

-- nor do all starts that can be made
all_unmarked : (cell next : S.CellState) (old new : WorkerState) → StartedAll cell next old new →
    IsUnmarked old new
all_unmarked cell next old new made =
    unmarked_then old made.seat new (readies_unmarked made.many cell made.between old made.seat made.starts)
    (core_unmarked made.seat new _ made.none.none.new_is refl refl)

-- nor does a finish, with the starts after it
finished_unmarked : (names : Names) (old new : WorkerState) (slot : ℕ) (verdict : FinishVerdict) →
    HasFinished names old new slot verdict → IsUnmarked old new
finished_unmarked names old new slot verdict finished =
    let made = finished.made in
    unmarked_then old made.seat new (core_unmarked old made.seat _ made.finish.finished.after_is refl refl)
    (all_unmarked made.between finished.next made.seat new made.starts)

-- nor does a look whether the run goes on
told_unmarked : (names : Names) (old new : WorkerState) (answer : Standing) → Stands names old new answer →
    IsUnmarked old new
told_unmarked names old new answer told = core_unmarked old new _ told.told.stands.new_is refl refl

-- nor does what follows a try
goes_unmarked : (progress : R.TryProgress) (names : Names) (old new : WorkerState) (pass : Pass)
    (rest after : List HeldPass) → GoesOn progress names old new pass rest after → IsUnmarked old new
goes_unmarked Y.Busy names old new pass rest after goes =
    core_unmarked old new _ (ap (λ (s : WorkerState). s.core) goes.0) refl refl
goes_unmarked Y.Stepped names old new pass rest after goes =
    core_unmarked old new _ (ap (λ (s : WorkerState). s.core) goes.0) refl refl
goes_unmarked Y.Over names old new pass rest after goes =
    finished_unmarked names old new pass.slot goes.0 goes.1

-- nor does what the worker does with the passes that it holds
next_unmarked : (names : Names) (code : List Method) (first : ℕ → List Value) (old new : WorkerState)
    (held after : List HeldPass) → DoesNext names code first old new held after → IsUnmarked old new
next_unmarked names code first old new [] after done = told_unmarked names old new Going done.0
next_unmarked names code first old new (one ∷ rest) after done =
    unmarked_then old done.mid new
    (tried_unmarked done.progress names.setting.program code first old done.mid one.pass.slot done.tried)
    (goes_unmarked done.progress names done.mid new one.pass rest after done.goes)

-- no act of a worker changes a mark
pub act_unmarked : (names : Names) (code : List Method) (first : ℕ → List Value) (old new : WorkerState)
    (held after : List HeldPass) → Acts names code first old new held after → IsUnmarked old new
act_unmarked names code first old new held after (inl begins) =
    started_unmarked names old new begins.pass begins.started
act_unmarked names code first old new held after (inr done) =
    next_unmarked names code first old new held after done
