use Rattle.std.proofs.Common.{◌≡◌}
use Rattle.pass_seats.specs.Slots.{HasStep}
use Rattle.shared_engine.specs.Rings.{IsSeatOf}
use Rattle.test_workers.proofs.engines.go_through.Given as goal

-- the pass has a next step, at the same engine
abbrev pub invariant-loop : goal.invariant-loop
invariant-loop g l = IsSeatOf l.engine l.seat × HasStep l.seat.core l.pass.slot
