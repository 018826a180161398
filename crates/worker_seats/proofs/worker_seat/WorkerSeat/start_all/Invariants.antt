use Rattle.std.proofs.Common.{ℕ}
use Rattle.worker_seats.specs.Readies.{Readies}
use Rattle.worker_seats.proofs.worker_seat.WorkerSeat.start_all.Given as goal

-- so far some number of passes was started and pushed, one after the other
abbrev pub invariant-loop : goal.invariant-loop
invariant-loop g l = record {
  many : ℕ;
  starts : Readies many l.fn.desk.cell l.fn.self l.desk.cell l.self;
}
