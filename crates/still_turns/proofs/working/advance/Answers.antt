use Rattle.std.proofs.Common.{refl}
use Rattle.still_turns.proofs.Refusals.{step_wants}
use Rattle.still_turns.proofs.working.advance.Goals as goal

pub advance-requires-clause-open : goal.advance-requires-clause-open
advance-requires-clause-open g c =
    let m = c.requires.may in
    (m.pass.control.box_number, record { pass = m.pass; there = m.there; going = m.going; box = refl })

pub want-requires : goal.want-requires
want-requires g c =
    step_wants c.args.engine.now c.advance.new.self c.args.seat.now c.advance.new.seat c.requires.going
    c.args.pass.slot c.requires.may c.in-Err.refusal c.in-Err.ensures.refused
