use Rattle.worker_seats.specs.Workers.{WorkerState}
use Rattle.worker_seats.proofs.Finishing.{told_kept}
use Rattle.worker_seats.proofs.worker_seat.WorkerSeat.standing.Goals as goal

pub invariant_of-self : goal.invariant_of-self
invariant_of-self g c =
    let k = c.self.inside in
    let s : WorkerState = record { core = k.core; turns = k.turns.items; ready = k.ready; first = k.first } in
    told_kept g.N.EngineNames.names c.args.desk.now.cell s c.standing.new.seat c.standing.result c.self.invariant
    c.standing.ensures.standing c.standing.ensures.refused
