use Rattle.std.proofs.Common.{ap, subst, ◌∙◌}
use Rattle.pass_seats.specs.declared.pass.Pass.{Pass}
use Rattle.pass_seats.specs.Slots.{HasStep}
use Rattle.worker_seats.specs.declared.progress.TryProgress.{TryProgress}
use Rattle.shared_engine.specs.Calls.{KeepsOthers, MayTryOn}
use Rattle.engine_work.specs.declared.bench.HeldPass.{HeldPass}
use Rattle.engine_work.specs.Benches.{held_in}
use Rattle.engine_work.proofs.Benches.{back_bench, over_bench}
use Rattle.engine_work.proofs.turn.step.Goals as goal

pub returns-in-Busy-clause-bench : goal.returns-in-Busy-clause-bench
returns-in-Busy-clause-bench g c =
    let old = c.args.seat.now in
    let new = c.try_advance.new.seat in
    let step : HasStep new.core c.args.one.pass.slot =
    subst (λ (p : TryProgress). MayTryOn p new.core c.args.one.pass.slot) c.in-Busy.is
    c.in_ok-try_advance.ensures.next in
    back_bench old new c.args.one c.waiting.result (held_in c.args.rest) (held_in c.push.result)
    c.requires.bench c.in_ok-try_advance.ensures.others
    (ap (λ (h : HeldPass). h.pass) c.waiting.ensures ∙ c.try_advance.ensures.pass) step c.push.ensures

pub returns-in-Stepped-clause-bench : goal.returns-in-Stepped-clause-bench
returns-in-Stepped-clause-bench g c =
    let old = c.args.seat.now in
    let new = c.try_advance.new.seat in
    let step : HasStep new.core c.args.one.pass.slot =
    subst (λ (p : TryProgress). MayTryOn p new.core c.args.one.pass.slot) c.in-Stepped.is
    c.in_ok-try_advance.ensures.next in
    back_bench old new c.args.one c.new.result (held_in c.args.rest) (held_in c.push-in-Stepped.result)
    c.requires.bench c.in_ok-try_advance.ensures.others
    (ap (λ (h : HeldPass). h.pass) c.new.ensures ∙ c.try_advance.ensures.pass) step c.push-in-Stepped.ensures

pub returns-in_ok-finish-in-Over-clause-bench : goal.returns-in_ok-finish-in-Over-clause-bench
returns-in_ok-finish-in-Over-clause-bench g c =
    let mid = c.try_advance.new.seat in
    let new = c.finish.new.seat in
    over_bench c.args.seat.now mid new c.args.one (held_in c.args.rest) c.requires.bench
    c.in_ok-try_advance.ensures.others
    (subst (λ (p : Pass). KeepsOthers mid new p.slot) c.try_advance.ensures.pass
    c.in_ok-finish-in-Over.ensures.others)
