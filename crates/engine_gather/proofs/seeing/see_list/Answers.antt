use Rattle.engine_gather.proofs.Looks.{has_looked}
use Rattle.engine_gather.proofs.seeing.see_list.Goals as goal

pub returns-clause-looked : goal.returns-clause-looked
returns-clause-looked g c =
    let told = c.standing-told in
    has_looked g.N.EngineNames.names c.args.desk.now.cell c.args.core told.new.seat told.result told.ensures.standing
    told.ensures.refused c.facts.ensures
