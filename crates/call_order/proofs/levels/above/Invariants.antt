-- What lasts over the loop of `above`.
use Rattle.std.proofs.Common.{◌≡◌, ◌≤◌, max, drop}
use Rattle.call_order.specs.LevelLists.{level_above}
use Rattle.call_order.proofs.levels.above.Given as goal

abbrev pub invariant-loop-number : goal.invariant-loop-number
invariant-loop-number l = record {
  value : max l.level (level_above l.levels (drop l.number-index l.given)) ≡ level_above l.levels l.given;
  small : l.level ≤ 1000;
}
