use Rattle.pass_engine.proofs.Finishing.{finish_worker}
use Rattle.pass_engine.proofs.still.StillEngine.finish_going.Goals as goal

pub invariant_of-seat : goal.invariant_of-seat
invariant_of-seat g c =
    let call = c.finish-made in
    finish_worker c.self.inside.sched.cell call.new.self.cell c.seat.inside.core call.new.seat c.args.slot
    call.result
    call.ensures.done call.ensures.refused c.seat.invariant
