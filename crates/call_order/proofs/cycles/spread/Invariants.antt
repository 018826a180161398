-- What lasts over the loop of `spread`.
use Rattle.std.proofs.Common.{◌≡◌, length}
use Rattle.call_order.specs.Marks.{spread_below}
use Rattle.call_order.proofs.cycles.spread.Given as goal

abbrev pub invariant-loop-number : goal.invariant-loop-number
invariant-loop-number l = record {
  value : l.marks ≡ spread_below l.boxes l.number l.initial.marks;
  count : length l.marks ≡ length l.initial.marks;
}
