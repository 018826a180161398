use Rattle.std.proofs.Common.{◌≡◌}
use Rattle.safety_check.specs.Safety.{StartsBelow}
use Rattle.safety_judge.proofs.starts.first_without.Given as goal

abbrev pub invariant-loop-info : goal.invariant-loop-info
invariant-loop-info l = record {
  below : StartsBelow l.program l.property l.number;
  number : l.number ≡ l.info-index;
}
