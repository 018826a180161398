use Rattle.std.proofs.Common.{suc, sym, ◌∙◌, subst, refl}
use Rattle.pass_seats.specs.declared.pass.Pass.{Pass}
use Rattle.pass_seats.specs.declared.pass.Progress.TheVariants as V
use Rattle.pass_seats.specs.Seats.{SeatState}
use Rattle.pass_seats.specs.Slots.{HasStep}
use Rattle.pass_seats.specs.Steps.{IsOpen}
use Rattle.pass_seats.specs.Finishes.{IsOver}
use Rattle.worker_seats.specs.declared.progress.TryProgress.{TryProgress}
use Rattle.worker_seats.specs.Tries.{StepMade, StepRefused}
use Rattle.worker_seats.proofs.Readies.{same_more}
use Rattle.worker_seats.proofs.Tries.{waits_core, waits_same}
use Rattle.shared_engine.specs.Calls.{KeepsOthers, MayTryOn, Tried}
use Rattle.shared_engine.proofs.Keeping.{waits_more, advanced, advance_refused}
use Rattle.shared_engine.proofs.Others.{others_after}
use Rattle.shared_engine.proofs.engine.Engine.advance.Goals as goal

pub loop-init : goal.loop-init
loop-init g c = record { n = 0; b = c.requires.open.0; at = c.requires.open.1; waits = refl; pass = refl }

pub try_advance-requires-clause-of : goal.try_advance-requires-clause-of
try_advance-requires-clause-of g c =
    let i = c.loop.invariant in (waits_same i.n i.b c.args.seat.now c.loop.seat i.waits).ring ∙ c.requires.of

pub try_advance-requires-clause-open : goal.try_advance-requires-clause-open
try_advance-requires-clause-open g c =
    let i = c.loop.invariant in (
      i.b,
      subst (λ (s : SeatState). IsOpen s c.loop.pass.slot i.b)
          (sym (waits_core i.n i.b c.args.seat.now c.loop.seat i.waits))
          (subst (λ (p : Pass). IsOpen c.args.seat.now.core p.slot i.b) (sym i.pass) i.at),
    )

pub loop-preserved : goal.loop-preserved
loop-preserved g c =
    let i = c.loop.invariant in
    let t = subst (λ (p : TryProgress). Tried g.N.EngineNames.names.setting.program g.N.CellNames.code
    g.N.CellNames.first c.loop.seat c.try_advance.new.seat c.loop.pass.slot p) c.in-Ok-Busy.field-0-is
    c.in-Ok-Busy.ensures.done in
    let here = subst (λ (p : Pass). IsOpen c.loop.seat.core p.slot t.b) i.pass t.at in
    record {
      n = suc i.n;
      b = i.b;
      at = i.at;
      waits = waits_more c.args.seat.now c.loop.seat c.try_advance.new.seat i.n i.b t.b c.args.pass.now.slot i.at
          i.waits here t.tries;
      pass = c.try_advance.ensures.pass ∙ i.pass;
    }

pub returns-in-Ok-Over-clause-done : goal.returns-in-Ok-Over-clause-done
returns-in-Ok-Over-clause-done g c =
    let i = c.loop.invariant in
    let program = g.N.EngineNames.names.setting.program in
    let t = subst (λ (p : TryProgress). Tried program g.N.CellNames.code g.N.CellNames.first c.loop.seat
    c.try_advance.new.seat c.loop.pass.slot p) c.in-Ok-Over.field-0-is c.in-Ok-Over.ensures.done in
    let here = subst (λ (p : Pass). IsOpen c.loop.seat.core p.slot t.b) i.pass t.at in
    let step = subst (λ (p : Pass). StepMade program g.N.CellNames.code
    g.N.CellNames.first c.loop.seat c.try_advance.new.seat p.slot t.b V.Over) i.pass t.tries in
    advanced c.args.seat.now c.loop.seat c.try_advance.new.seat i.n i.b t.b c.args.pass.now.slot i.at i.waits here
    program g.N.CellNames.code g.N.CellNames.first V.Over step

pub returns-in-Ok-Over-clause-next : goal.returns-in-Ok-Over-clause-next
returns-in-Ok-Over-clause-next g c =
    let new = c.try_advance.new.seat.core in
    let next = subst (λ (p : TryProgress). MayTryOn p new c.loop.pass.slot) c.in-Ok-Over.field-0-is
    c.in-Ok-Over.ensures.next in
    subst (λ (p : Pass). IsOver new p.slot) c.loop.invariant.pass next

pub returns-in-Ok-Over-clause-others : goal.returns-in-Ok-Over-clause-others
returns-in-Ok-Over-clause-others g c =
    let i = c.loop.invariant in
    others_after c.args.seat.now c.loop.seat c.try_advance.new.seat c.args.pass.now.slot
    (waits_core i.n i.b c.args.seat.now c.loop.seat i.waits)
    (subst (λ (p : Pass). KeepsOthers c.loop.seat c.try_advance.new.seat p.slot) i.pass c.in-Ok-Over.ensures.others)

pub returns-in-Ok-Over-clause-seat : goal.returns-in-Ok-Over-clause-seat
returns-in-Ok-Over-clause-seat g c =
    let i = c.loop.invariant in
    same_more c.args.seat.now c.loop.seat c.try_advance.new.seat
    (waits_same i.n i.b c.args.seat.now c.loop.seat i.waits) c.try_advance.ensures.seat

pub returns-in-Ok-Stepped-clause-done : goal.returns-in-Ok-Stepped-clause-done
returns-in-Ok-Stepped-clause-done g c =
    let i = c.loop.invariant in
    let program = g.N.EngineNames.names.setting.program in
    let t = subst (λ (p : TryProgress). Tried program g.N.CellNames.code g.N.CellNames.first c.loop.seat
    c.try_advance.new.seat c.loop.pass.slot p) c.in-Ok-Stepped.field-0-is c.in-Ok-Stepped.ensures.done in
    let here = subst (λ (p : Pass). IsOpen c.loop.seat.core p.slot t.b) i.pass t.at in
    let step = subst (λ (p : Pass). StepMade program g.N.CellNames.code
    g.N.CellNames.first c.loop.seat c.try_advance.new.seat p.slot t.b V.Stepped) i.pass t.tries in
    advanced c.args.seat.now c.loop.seat c.try_advance.new.seat i.n i.b t.b c.args.pass.now.slot i.at i.waits here
    program g.N.CellNames.code g.N.CellNames.first V.Stepped step

pub returns-in-Ok-Stepped-clause-next : goal.returns-in-Ok-Stepped-clause-next
returns-in-Ok-Stepped-clause-next g c =
    let new = c.try_advance.new.seat.core in
    let next = subst (λ (p : TryProgress). MayTryOn p new c.loop.pass.slot) c.in-Ok-Stepped.field-0-is
    c.in-Ok-Stepped.ensures.next in
    subst (λ (p : Pass). HasStep new p.slot) c.loop.invariant.pass next

pub returns-in-Ok-Stepped-clause-others : goal.returns-in-Ok-Stepped-clause-others
returns-in-Ok-Stepped-clause-others g c =
    let i = c.loop.invariant in
    others_after c.args.seat.now c.loop.seat c.try_advance.new.seat c.args.pass.now.slot
    (waits_core i.n i.b c.args.seat.now c.loop.seat i.waits)
    (subst (λ (p : Pass). KeepsOthers c.loop.seat c.try_advance.new.seat p.slot) i.pass c.in-Ok-Stepped.ensures.others)

pub returns-in-Ok-Stepped-clause-seat : goal.returns-in-Ok-Stepped-clause-seat
returns-in-Ok-Stepped-clause-seat g c =
    let i = c.loop.invariant in
    same_more c.args.seat.now c.loop.seat c.try_advance.new.seat
    (waits_same i.n i.b c.args.seat.now c.loop.seat i.waits) c.try_advance.ensures.seat

pub returns-in-Err-clause-refused : goal.returns-in-Err-clause-refused
returns-in-Err-clause-refused g c =
    let i = c.loop.invariant in
    let t = c.in-Err.ensures.refused in
    let here = subst (λ (p : Pass). IsOpen c.loop.seat.core p.slot t.b) i.pass t.at in
    let refused = subst (λ (p : Pass). StepRefused c.loop.seat
    c.try_advance.new.seat p.slot t.b c.in-Err.refusal) i.pass t.refused in
    advance_refused c.args.seat.now c.loop.seat c.try_advance.new.seat i.n i.b t.b c.args.pass.now.slot i.at i.waits
    here c.in-Err.refusal refused

pub returns-in-Err-clause-seat : goal.returns-in-Err-clause-seat
returns-in-Err-clause-seat g c =
    let i = c.loop.invariant in
    same_more c.args.seat.now c.loop.seat c.try_advance.new.seat
    (waits_same i.n i.b c.args.seat.now c.loop.seat i.waits) c.try_advance.ensures.seat
