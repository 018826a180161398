use Rattle.shared_engine.proofs.Keeping.{sched_of, finish_told, refusal_told}
use Rattle.shared_engine.proofs.going.finish_at.Goals as goal

pub returns-clause-done : goal.returns-clause-done
returns-clause-done g c =
    finish_told g.N.EngineNames.names c.args.desk.now.cell c.finish.new.desk.cell c.args.seat.now c.finish.new.self
    (sched_of g.N.EngineNames.names c.args.desk.now c.facts.ensures.kept) c.args.slot c.finish.result
    c.finish.ensures.done

pub returns-clause-refused : goal.returns-clause-refused
returns-clause-refused g c =
    refusal_told g.N.EngineNames.names c.args.desk.now.cell c.finish.new.desk.cell c.args.seat.now c.finish.new.self
    (sched_of g.N.EngineNames.names c.args.desk.now c.facts.ensures.kept) c.args.slot c.finish.result
    c.finish.ensures.refused
