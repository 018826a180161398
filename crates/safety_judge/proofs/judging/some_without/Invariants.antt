use Rattle.std.proofs.Common.{◌≡◌, drop}
use Rattle.safety_judge.specs.Findings.{some_without}
use Rattle.safety_judge.proofs.judging.some_without.Given as goal

abbrev pub invariant-loop-end : goal.invariant-loop-end
invariant-loop-end l = some_without l.property (drop l.end-index l.ends) ≡ some_without l.property l.ends
