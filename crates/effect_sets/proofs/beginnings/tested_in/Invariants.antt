use Rattle.std.proofs.Common.{◌≡◌, drop}
use Rattle.effect_sets.specs.Masks.{add_tested}
use Rattle.effect_sets.proofs.beginnings.tested_in.Given as goal

abbrev pub invariant-loop-head : goal.invariant-loop-head
invariant-loop-head l = add_tested l.set (drop l.head-index l.heads) ≡ add_tested 0 l.heads
