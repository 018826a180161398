use Rattle.pass_engine.proofs.Beginning.{fresh_worker}
use Rattle.pass_engine.proofs.still.seat_over.Goals as goal

pub invariant_of-result : goal.invariant_of-result
invariant_of-result g c = fresh_worker c.requires.0 c.args.core c.requires.1
