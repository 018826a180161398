use Rattle.std.proofs.Common.{ℕ, subst}
use Rattle.std.specs.Prelude.{OnOk}
use Rattle.worker_seats.specs.Workers.{WorkerState}
use Rattle.shared_engine.specs.Calls.{KeepsOthers}
use Rattle.shared_engine.proofs.Others.{finished_others}
use Rattle.shared_engine.proofs.engine.Engine.finish.Goals as goal

pub returns-clause-others : goal.returns-clause-others
returns-clause-others g c =
    subst (λ (slot : ℕ). OnOk c.finish_at.result (KeepsOthers c.args.seat.now c.finish_at.new.seat slot))
    c.slot.ensures
    (subst (λ (o : WorkerState). OnOk c.finish_at.result (KeepsOthers o c.finish_at.new.seat c.slot.result))
    c.in_default.ensures.0
    (finished_others g.N.EngineNames.names c.look.new.self c.finish_at.new.seat c.slot.result c.finish_at.result
    c.finish_at.ensures.done))
