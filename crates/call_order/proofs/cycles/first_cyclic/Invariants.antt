-- What lasts over the loop of `first_cyclic`.
use Rattle.std.proofs.Common.{ℕ, ◌<◌}
use Rattle.call_order.specs.Cycles.{IsCyclic}
use Rattle.call_order.proofs.cycles.first_cyclic.Given as goal

abbrev pub invariant-loop-number : goal.invariant-loop-number
invariant-loop-number l = (box : ℕ) → box < l.number → IsCyclic l.boxes box → ⊥
