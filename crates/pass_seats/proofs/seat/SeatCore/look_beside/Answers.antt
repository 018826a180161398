use Rattle.std.specs.Prelude.{Some}
use Rattle.pass_seats.proofs.Placing.{looked_seat}
use Rattle.pass_seats.proofs.seat.SeatCore.look_beside.Goals as goal

pub invariant_of-self : goal.invariant_of-self
invariant_of-self g c =
    looked_seat g.N.EngineNames.names _ c.look_beside.new.worker (Some c.look_beside.result)
    c.look_beside.ensures.worker c.self.invariant
