use Rattle.std.proofs.Common.{◌≡◌, drop}
use Rattle.safety_check.specs.Ends.{arguments_end}
use Rattle.safety_judge.proofs.ends.can_have.Given as goal

abbrev pub invariant-loop-arg : goal.invariant-loop-arg
invariant-loop-arg l = arguments_end (drop l.arg-index l.args) l.frame ≡ arguments_end l.args l.frame
