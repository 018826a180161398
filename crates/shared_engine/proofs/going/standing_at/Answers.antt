use Rattle.shared_engine.proofs.Keeping.{sched_of, standing_told, unstanding_told}
use Rattle.shared_engine.proofs.going.standing_at.Goals as goal

pub returns-clause-told : goal.returns-clause-told
returns-clause-told g c =
    standing_told g.N.EngineNames.names c.args.desk.now.cell c.args.desk.now.cell c.args.seat.now c.standing.new.self
    (sched_of g.N.EngineNames.names c.args.desk.now c.facts.ensures.kept) c.standing.result c.standing.ensures.told

pub returns-clause-refused : goal.returns-clause-refused
returns-clause-refused g c =
    unstanding_told c.args.desk.now.cell c.args.seat.now c.standing.new.self c.standing.result
    c.standing.ensures.refused
