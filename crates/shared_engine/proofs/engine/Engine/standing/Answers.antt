use Rattle.std.proofs.Common.{subst}
use Rattle.std.specs.Prelude.{OnOk}
use Rattle.worker_seats.specs.Workers.{WorkerState}
use Rattle.shared_engine.specs.Calls.{KeepsPasses}
use Rattle.shared_engine.proofs.Others.{standing_keeps}
use Rattle.shared_engine.proofs.engine.Engine.standing.Goals as goal

pub returns-clause-kept : goal.returns-clause-kept
returns-clause-kept g c =
    subst (λ (o : WorkerState). OnOk c.standing_at.result (KeepsPasses o c.standing_at.new.seat))
    c.in_default.ensures.0
    (standing_keeps g.N.EngineNames.names c.look.new.self c.standing_at.new.seat c.standing_at.result
    c.standing_at.ensures.told)
