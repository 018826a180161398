use Rattle.std.proofs.Common.{ap, subst, ◌∙◌, sym, List, ◌∷◌, [], ◌++◌}
use Rattle.pass_seats.specs.declared.pass.Pass.{Pass}
use Rattle.pass_seats.specs.Slots.{HasStep}
use Rattle.pass_seats.proofs.Lists.{at_some}
use Rattle.worker_seats.specs.Takes.{Started}
use Rattle.engine_work.specs.declared.bench.HeldPass.{HeldPass}
use Rattle.engine_work.specs.Benches.{IsBench, held_in}
use Rattle.engine_work.proofs.Benches.{begun_bench}
use Rattle.engine_work.proofs.turn.take_turn.Goals as goal

pub returns-in-Some-clause-bench : goal.returns-in-Some-clause-bench
returns-in-Some-clause-bench g c =
    let old = c.args.seat.now in
    let new = c.begin.new.seat in
    let pass = c.in-Some.pass in
    let held = held_in c.args.bench in
    let started : Started g.N.EngineNames.names old new pass =
    at_some (Started g.N.EngineNames.names old new) c.in_ok-pass.field-0 pass c.in-Some.is
    c.in_ok-pass.ensures.some in
    let step : HasStep new.core pass.slot =
    at_some (λ (p : Pass). HasStep new.core p.slot) c.in_ok-pass.field-0 pass c.in-Some.is
    c.in_ok-pass.ensures.open in
    let bench = begun_bench g.N.EngineNames.names old new held pass started step c.in_ok-pass.ensures.kept
    c.requires.bench in
    subst (λ (l : List HeldPass). IsBench new.core l)
    (sym (c.push.ensures ∙ ap (λ (h : HeldPass). held ++ h ∷ []) c.new.ensures)) bench
