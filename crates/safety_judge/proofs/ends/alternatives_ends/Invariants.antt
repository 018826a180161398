use Rattle.std.proofs.Common.{◌≡◌, ◌++◌, drop}
use Rattle.safety_check.specs.Ends.{alternatives_ends}
use Rattle.safety_judge.proofs.ends.alternatives_ends.Given as goal

abbrev pub invariant-loop-a : goal.invariant-loop-a
invariant-loop-a l =
    l.ends ++ alternatives_ends (drop l.a-index l.alts) l.frame ≡ alternatives_ends l.alts l.frame
