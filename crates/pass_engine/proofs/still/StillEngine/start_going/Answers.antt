use Rattle.std.proofs.Common.{◌≡◌, ap, ◌∙◌, false}
use Rattle.pass_seats.specs.Seats.{SeatState}
use Rattle.pass_engine.proofs.Keeping.{whole_seat}
use Rattle.pass_engine.proofs.Starting.{start_worker}
use Rattle.pass_engine.proofs.still.StillEngine.start_going.Goals as goal

pub invariant_of-seat : goal.invariant_of-seat
invariant_of-seat g c =
    let core = c.seat.inside.core in
    let whole : core.torn ≡ false = ap (λ (s : SeatState). s.torn) c.seat.view_is
    ∙ whole_seat c.args.self.now c.args.seat.now c.requires.going c.requires.of in
    let call = c.start_at-made in
    start_worker g.N.EngineNames.names c.self.inside.sched.cell call.new.desk.cell core call.new.seat
    call.result
    call.ensures.some call.ensures.none call.ensures.refused whole c.seat.invariant
