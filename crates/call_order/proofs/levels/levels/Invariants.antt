-- What lasts over the loop of `levels`.
use Rattle.std.proofs.Common.{◌≡◌}
use Rattle.call_order.proofs.LevelRounds.{levels_after}
use Rattle.call_order.proofs.levels.levels.Given as goal

abbrev pub invariant-loop : goal.invariant-loop
invariant-loop l = l.levels ≡ levels_after l.boxes l.counter
