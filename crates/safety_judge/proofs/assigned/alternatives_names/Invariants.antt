use Rattle.std.proofs.Common.{◌≡◌, ◌++◌, drop}
use Rattle.safety_check.specs.Texts.{alternatives_names}
use Rattle.safety_judge.proofs.assigned.alternatives_names.Given as goal

abbrev pub invariant-loop-a : goal.invariant-loop-a
invariant-loop-a l = l.names ++ alternatives_names (drop l.a-index l.alts) ≡ alternatives_names l.alts
