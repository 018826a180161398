use Rattle.pass_seats.proofs.Placing.{looked_seat}
use Rattle.pass_seats.proofs.seat.SeatCore.look.Goals as goal

pub invariant_of-self : goal.invariant_of-self
invariant_of-self g c =
    looked_seat g.N.EngineNames.names _ c.look.new.worker c.look.result c.look.ensures c.self.invariant
