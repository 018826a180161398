use Rattle.std.proofs.Common.{◌≡◌, ℕ}
use Rattle.pass_seats.specs.Steps.{IsOpen}
use Rattle.worker_seats.specs.Tries.{Waits}
use Rattle.shared_engine.proofs.engine.Engine.advance.Given as goal

-- so far the box was found taken some number of times, and nothing else has changed
abbrev pub invariant-loop : goal.invariant-loop
invariant-loop g l = record {
  n : ℕ;
  b : ℕ;
  at : IsOpen l.fn.seat.core l.fn.pass.slot b;
  waits : Waits n b l.fn.seat l.seat;
  pass : l.pass ≡ l.fn.pass;
}
