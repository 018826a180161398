use Rattle.engine_gather.proofs.Ending.{told_ended}
use Rattle.engine_gather.proofs.laws.an_answer_shows_the_end.Goals as goal

pub returns : goal.returns
returns c = told_ended
