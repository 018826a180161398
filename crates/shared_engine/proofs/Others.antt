-- What becomes of the pass of a call, and that the other passes of the seat are as they were.
use Rattle.std.proofs.Common.{◌≡◌, ◌≢◌, ℕ, zero, suc, List, [], ◌∷◌, set, sym, ap, ◌∙◌, subst, Option, Some, None}
use Rattle.std.proofs.Common.{false}
use Rattle.std.specs.Prelude.{Result, Ok, Err, IfOk, IfSome, MatchOption, OnOk, slice_get}
use Rattle.seuss_program.specs.declared.program.Program.{Program}
use Rattle.seuss_program.specs.declared.state.Value.{Value}
use Rattle.method_code.specs.declared.method.Method.{Method}
use Rattle.compat_scheduler.specs.declared.ticket.FinishVerdict.{FinishVerdict}
use Rattle.round_ledger.specs.declared.standing.Standing.{Standing}
use Rattle.round_ledger.specs.Cells as S
use Rattle.box_lock.specs.Cells as B
use Rattle.pass_seats.specs.declared.pass.Pass.{Pass}
use Rattle.pass_seats.specs.declared.pass.Progress as P
use Rattle.pass_seats.specs.declared.pass.Progress.TheVariants as V
use Rattle.pass_seats.specs.declared.pass.SeatPass.{SeatPass}
use Rattle.pass_seats.specs.declared.refusal.EngineRefusal as E
use Rattle.pass_seats.specs.Names.{Names}
use Rattle.pass_seats.specs.Items.{ItemState}
use Rattle.pass_seats.specs.Seats.{SeatState, IsSeat}
use Rattle.pass_seats.specs.Slots.{HasStep, MayGoOn}
use Rattle.pass_seats.specs.Starts.{Taken}
use Rattle.pass_seats.specs.Steps.{AdvancedAt, IsOpen}
use Rattle.pass_seats.proofs.Lists.{at-append, set-other}
use Rattle.worker_seats.specs.Workers.{WorkerState}
use Rattle.worker_seats.specs.Takes.{NoneStarted, Started}
use Rattle.worker_seats.specs.Readies.{Readies}
use Rattle.worker_seats.specs.declared.progress.TryProgress as R
use Rattle.worker_seats.specs.declared.progress.TryProgress.TheVariants as Y
use Rattle.worker_seats.specs.Tries.{StepMade}
use Rattle.shared_engine.specs.Calls.{HasFinished, KeepsOthers, KeepsPasses, MayTryOn, Stands, Tried}

-- where the passes are the same, each is as it was
pub passes_keep : (old new : WorkerState) → new.core.passes ≡ old.core.passes → KeepsPasses old new
passes_keep old new same = record {
  each = λ slot pass at. subst (λ (l : List SeatPass). slice_get l slot ≡ Some pass) (sym same) at;
}

-- and so are all but one
pub others_keep : (old new : WorkerState) (slot : ℕ) → new.core.passes ≡ old.core.passes →
    KeepsOthers old new slot
others_keep old new slot same = record { each = λ other pass apart. (passes_keep old new same).each other pass }

-- after tries that changed no pass
pub others_after : (old mid new : WorkerState) (slot : ℕ) → mid.core ≡ old.core → KeepsOthers mid new slot →
    KeepsOthers old new slot
others_after old mid new slot same keeps = record {
  each = λ other pass apart at. keeps.each other pass apart
      (subst (λ (s : SeatState). slice_get s.passes other ≡ Some pass) (sym same) at);
}

-- a pass that a seat has taken has a next step
abbrev pub TakenGoesOn : Type 0
TakenGoesOn = (names : Names) (old new : SeatState) (item : ItemState) (pass : Pass) →
    Taken names old new item pass → HasStep new pass.slot

-- a pass that was started has a next step
pub started_open : TakenGoesOn → (names : Names) (old new : WorkerState) (r : Option Pass) →
    IfSome r (Started names old new) → IfSome r (λ (pass : Pass). HasStep new.core pass.slot)
started_open law names old new (Some pass) some = law names old.core new.core some.item pass some.taken
started_open law names old new None some = some

-- a start keeps the passes that the seat had
pub started_keeps : (names : Names) (old new : WorkerState) (r : Option Pass) → IfSome r (Started names old new) →
    MatchOption r (NoneStarted old new) (λ _. ℕ) → KeepsPasses old new
started_keeps names old new (Some pass) some none =
    let t = some.taken in
    record {
      each = λ slot p at. subst (λ (s : SeatState). slice_get s.passes slot ≡ Some p) (sym t.new_is)
          (at-append old.core.passes (t.given ∷ []) slot p at);
    }
started_keeps names old new None some none = passes_keep old new (ap (λ (s : WorkerState). s.core.passes) none.same)

-- after a step of a pass it has another one, or it is over
abbrev pub StepsGoOn : Type 0
StepsGoOn = (names : Names) (program : Program) (code : List Method) (first : ℕ → List Value)
    (cell after : B.CellState) (old new : SeatState) (slot b : ℕ) (progress : P.Progress) → IsSeat names old →
    old.torn ≡ false → IsOpen old slot b → AdvancedAt program code first cell after old new slot progress →
    MayGoOn progress new slot

-- a step of one pass leaves the others as they were
abbrev pub StepsKeepOthers : Type 0
StepsKeepOthers = (program : Program) (code : List Method) (first : ℕ → List Value)
    (cell after : B.CellState) (old new : SeatState) (slot other : ℕ) (progress : P.Progress) →
    AdvancedAt program code first cell after old new slot progress → other ≢ slot →
    slice_get new.passes other ≡ slice_get old.passes other

-- tries of a step of the pass in a slot
module _ (program : Program) (code : List Method) (first : ℕ → List Value) (old new : WorkerState) (slot : ℕ) where
  -- after a try the pass has a next step, or it is over
  pub tried_next : StepsGoOn → (names : Names) (r : Result R.TryProgress E.EngineRefusal) → IsSeat names old.core →
      old.core.torn ≡ false → IfOk r (Tried program code first old new slot) →
      IfOk r (λ progress. MayTryOn progress new.core slot)
  tried_next law names (Ok Y.Busy) kept whole t = (
    t.b,
    subst (λ (s : SeatState). IsOpen s slot t.b) (sym (ap (λ (s : WorkerState). s.core) t.tries.new_is)) t.at,
  )
  tried_next law names (Ok Y.Stepped) kept whole t =
      law names program code first t.tries.cell t.tries.after old.core new.core slot t.b V.Stepped kept whole t.at
      t.tries.step
  tried_next law names (Ok Y.Over) kept whole t =
      law names program code first t.tries.cell t.tries.after old.core new.core slot t.b V.Over kept whole t.at
      t.tries.step
  tried_next law names (Err r) kept whole t = t

  -- a step that was made leaves the others as they were
  step_others : StepsKeepOthers → (b : ℕ) (progress : P.Progress) →
      StepMade program code first old new slot b progress → KeepsOthers old new slot
  step_others law b progress m = record {
    each = λ other pass apart at.
        law program code first m.cell m.after old.core new.core slot other progress m.step apart ∙ at;
  }

  -- and so does a try
  pub tried_others : StepsKeepOthers → (r : Result R.TryProgress E.EngineRefusal) →
      IfOk r (Tried program code first old new slot) → OnOk r (KeepsOthers old new slot)
  tried_others law (Ok Y.Busy) t = others_keep old new slot (ap (λ (s : WorkerState). s.core.passes) t.tries.new_is)
  tried_others law (Ok Y.Stepped) t = step_others law t.b V.Stepped t.tries
  tried_others law (Ok Y.Over) t = step_others law t.b V.Over t.tries
  tried_others law (Err r) t = tt

-- starts change no pass of the seat
readies_passes : (n : ℕ) (cell : S.CellState) (old : WorkerState) (next : S.CellState) (new : WorkerState) →
    Readies n cell old next new → new.core.passes ≡ old.core.passes
readies_passes zero cell old next new r = ap (λ (s : WorkerState). s.core.passes) r.1
readies_passes (suc n) cell old next new r =
    ap (λ (s : SeatState). s.passes) r.3.pushed.issued.new_is ∙ readies_passes n cell old r.0 r.1 r.2

-- a finish leaves the other passes as they were
pub finished_others : (names : Names) (old new : WorkerState) (slot : ℕ)
    (r : Result FinishVerdict E.EngineRefusal) → IfOk r (HasFinished names old new slot) →
    OnOk r (KeepsOthers old new slot)
finished_others names old new slot (Ok verdict) h =
    let f = h.made.finish.finished in
    let s = h.made.starts in
    let mid = h.made.seat in
    let later : new.core.passes ≡ mid.core.passes =
    ap (λ (t : SeatState). t.passes) s.none.none.new_is
    ∙ readies_passes s.many h.made.between mid s.between s.seat s.starts in
    let all : new.core.passes ≡ set old.core.passes slot f.done =
    later ∙ ap (λ (t : SeatState). t.passes) f.after_is in
    record {
      each = λ other pass apart at.
          subst (λ (l : List SeatPass). slice_get l other ≡ Some pass) (sym all)
          (set-other old.core.passes slot other f.done apart ∙ at);
    }
finished_others names old new slot (Err r) h = h

-- a look at the scheduler changes no pass
pub standing_keeps : (names : Names) (old new : WorkerState) (r : Result Standing E.EngineRefusal) →
    IfOk r (Stands names old new) → OnOk r (KeepsPasses old new)
standing_keeps names old new (Ok answer) s =
    passes_keep old new (ap (λ (t : SeatState). t.passes) s.told.stands.new_is)
standing_keeps names old new (Err r) s = s
