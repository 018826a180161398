-- What may be done next with the passes of a seat.
use Rattle.std.proofs.Common.{◌≡◌, ◌≢◌, ℕ, ◌∙◌, sym, ap, refl, List, [], ◌∷◌, ◌++◌, length}
use Rattle.std.proofs.Common.{Option, Some, None, false}
use Rattle.std.specs.Prelude.{slice_get, slice_set}
use Rattle.seuss_program.specs.declared.program.Program.{Program}
use Rattle.seuss_program.specs.declared.state.Value.{Value}
use Rattle.method_code.specs.declared.method.Method.{Method}
use Rattle.method_code.specs.Chains.{Turned, Next, Over}
use Rattle.box_lock.specs.Cells.{CellState}
use Rattle.pass_seats.specs.declared.pass.Done.{Done}
use Rattle.pass_seats.specs.declared.pass.Pass.{Pass}
use Rattle.pass_seats.specs.declared.pass.Progress as P
use Rattle.pass_seats.specs.declared.pass.Progress.TheVariants as V
use Rattle.pass_seats.specs.declared.pass.SeatPass.{SeatPass}
use Rattle.pass_seats.specs.Names.{Names}
use Rattle.pass_seats.specs.Passes.{HasDone}
use Rattle.pass_seats.specs.Seats.{SeatState, IsSeat}
use Rattle.pass_seats.specs.Items.{ItemState}
use Rattle.pass_seats.specs.Steps.{AdvancedAt, GoesOn, IsOpen}
use Rattle.pass_seats.specs.Starts.{Taken}
use Rattle.pass_seats.specs.Slots.{HasStep, MayGoOn}
use Rattle.pass_seats.proofs.Lists.{at-push, none_some, set-here, set-other, some_same}

-- a pass that was taken has a next step
pub taken_open : (names : Names) (old new : SeatState) (item : ItemState) (pass : Pass) →
    Taken names old new item pass → HasStep new pass.slot
taken_open names old new item pass taken =
    let passes : new.passes ≡ old.passes ++ taken.given ∷ [] = ap (λ (s : SeatState). s.passes) taken.new_is in
    let slot : pass.slot ≡ length old.passes = ap (λ (p : Pass). p.slot) taken.pass_is in
    let there : slice_get new.passes pass.slot ≡ Some taken.given =
    rw passes (rw slot (at-push old.passes taken.given)) in (
      taken.given.control.box_number,
      record {
        pass = taken.given;
        there = there;
        going = ap (λ (p : SeatPass). p.over) taken.given_is;
        box = refl;
      },
    )

-- a pass that isn't over hasn't finished
pub open_undone : (done : Option Done) (p : SeatPass) → HasDone done p → p.over ≡ None → done ≡ None
open_undone None p has going = refl
open_undone (Some d) p has going = absurd (none_some has.0 (sym going ∙ has.1))

-- what may be done next, by where the pass is after the step
goes_so : (t : Turned) (progress : P.Progress) (s : SeatState) (slot : ℕ) (pass : SeatPass) →
    slice_get s.passes slot ≡ Some pass → pass.done ≡ None → GoesOn t progress pass.over pass.control →
    MayGoOn progress s slot
goes_so (Next a) V.Stepped s slot pass there undone goes =
    (pass.control.box_number, record { pass = pass; there = there; going = goes.0; box = refl })
goes_so (Next a) V.Over s slot pass there undone goes = absurd goes
goes_so (Over end) V.Stepped s slot pass there undone goes = absurd goes
goes_so (Over end) V.Over s slot pass there undone goes =
    record { pass = pass; there = there; end = end; over = goes; undone = undone }

-- after a step a pass has another one, or it is over
pub step_goes_on : (names : Names) (program : Program) (code : List Method) (first : ℕ → List Value)
    (cell after : CellState) (old new : SeatState) (slot b : ℕ) (progress : P.Progress) →
    IsSeat names old → old.torn ≡ false → IsOpen old slot b →
    AdvancedAt program code first cell after old new slot progress → MayGoOn progress new slot
step_goes_on names program code first cell after old new slot b progress seat whole at made =
    let step = made.advanced in
    let same : step.pass ≡ at.pass =
    some_same step.pass at.pass (sym step.at_pass ∙ at.there) in
    let going : step.pass.over ≡ None = ap (λ (p : SeatPass). p.over) same ∙ at.going in
    let kept = (seat.whole whole).passes slot step.pass step.at_pass in
    let undone : step.after.done ≡ None =
    ap (λ (p : SeatPass). p.done) step.steps.after_is ∙ open_undone step.pass.done step.pass kept.done going in
    let passes : new.passes ≡ slice_set old.passes slot step.after =
    ap (λ (s : SeatState). s.passes) step.new_is in
    let there : slice_get new.passes slot ≡ Some step.after =
    rw passes (set-here old.passes slot step.pass step.after step.at_pass) in
    goes_so _ progress new slot step.after there undone step.steps.goes

-- a step of a pass leaves the others as they were
pub step_leaves : (program : Program) (code : List Method) (first : ℕ → List Value) (cell after : CellState)
    (old new : SeatState) (slot other : ℕ) (progress : P.Progress) →
    AdvancedAt program code first cell after old new slot progress → other ≢ slot →
    slice_get new.passes other ≡ slice_get old.passes other
step_leaves program code first cell after old new slot other progress made apart =
    let step = made.advanced in
    let passes : new.passes ≡ slice_set old.passes slot step.after =
    ap (λ (s : SeatState). s.passes) step.new_is in
    rw passes (set-other old.passes slot other step.after apart)
