use Rattle.still_turns.proofs.Refusals.{start_wants}
use Rattle.still_turns.proofs.working.begin.Goals as goal

pub want-requires : goal.want-requires
want-requires g c =
    start_wants c.args.engine.now c.start.new.self c.args.seat.now c.start.new.seat c.requires.going
    c.requires.left c.in-Err.refusal c.in-Err.ensures.refused
