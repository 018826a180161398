use Rattle.worker_seats.specs.Workers.{WorkerState}
use Rattle.worker_seats.proofs.Finishing.{ending_kept}
use Rattle.worker_seats.proofs.worker_seat.WorkerSeat.finish_seen.Goals as goal

pub invariant_of-self : goal.invariant_of-self
invariant_of-self g c =
    let k = c.self.inside in
    let s : WorkerState = record { core = k.core; turns = k.turns.items; ready = k.ready; first = k.first } in
    ending_kept g.N.EngineNames.names c.args.desk.now.cell c.finish.new.self.cell s c.finish.new.seat c.args.slot
    c.finish.result c.self.invariant c.finish.ensures.done c.finish.ensures.refused
