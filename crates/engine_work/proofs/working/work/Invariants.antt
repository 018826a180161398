use Rattle.std.proofs.Common.{ℕ, []}
use Rattle.worker_seats.specs.Workers.{IsSameSeat}
use Rattle.engine_work.specs.Benches.{IsBench, held_in}
use Rattle.engine_work.specs.Acts.{HasDone}
use Rattle.engine_work.specs.Records.{IsUnmarked}
use Rattle.engine_work.proofs.working.work.Given as goal

-- the acts so far, and what they leave
abbrev pub invariant-loop : goal.invariant-loop
invariant-loop g l = record {
  done : (n : ℕ) × HasDone n g.N.EngineNames.names g.N.CellNames.code
      g.N.CellNames.first l.fn.seat l.seat [] (held_in l.bench);
  seat : IsSameSeat l.fn.seat l.seat;
  unmarked : IsUnmarked l.fn.seat l.seat;
  bench : IsBench l.seat.core (held_in l.bench);
}
