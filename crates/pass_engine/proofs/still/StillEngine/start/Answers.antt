use Rattle.pass_engine.proofs.Starting.{started_open}
use Rattle.pass_engine.proofs.still.StillEngine.start.Goals as goal

pub returns-in-None-clause-open : goal.returns-in-None-clause-open
returns-in-None-clause-open g c =
    started_open c.passes_go_on.ensures.taken g.N.EngineNames.names c.args.self.now c.start_going.new.self
    c.args.seat.now c.start_going.new.seat c.start_going.result c.start_going.ensures.some
