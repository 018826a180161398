use Rattle.still_turns.proofs.Refusals.{standing_told}
use Rattle.still_turns.proofs.working.is_told_ended.Goals as goal

pub unreachable-requires : goal.unreachable-requires
unreachable-requires g c =
    standing_told c.args.engine.now c.args.seat.now c.standing.new.seat c.requires.going
    c.in-Err.field-0 c.in-Err.ensures.refused
