use Rattle.still_turns.proofs.Refusals.{finish_wants}
use Rattle.still_turns.proofs.working.finish.Goals as goal

pub want-requires : goal.want-requires
want-requires g c =
    finish_wants c.args.engine.now c.finish.new.self c.args.seat.now c.finish.new.seat c.requires.going
    c.args.pass.slot c.requires.may c.in-Err.refusal c.in-Err.ensures.refused
