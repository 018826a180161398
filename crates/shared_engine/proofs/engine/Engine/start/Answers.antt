use Rattle.std.proofs.Common.{subst}
use Rattle.worker_seats.specs.Workers.{WorkerState}
use Rattle.shared_engine.specs.Calls.{KeepsPasses}
use Rattle.shared_engine.proofs.Others.{started_keeps, started_open}
use Rattle.shared_engine.proofs.engine.Engine.start.Goals as goal

pub returns-in-Ok-clause-open : goal.returns-in-Ok-clause-open
returns-in-Ok-clause-open g c =
    started_open c.passes_go_on.ensures.taken g.N.EngineNames.names c.look.new.self c.start.new.self
    c.in-Ok.started c.in-Ok.ensures.some

pub returns-in-Ok-clause-kept : goal.returns-in-Ok-clause-kept
returns-in-Ok-clause-kept g c =
    subst (λ (o : WorkerState). KeepsPasses o c.start.new.self) c.in_default.ensures.0
    (started_keeps g.N.EngineNames.names c.look.new.self c.start.new.self c.in-Ok.started c.in-Ok.ensures.some
    c.in-Ok.ensures.none)
