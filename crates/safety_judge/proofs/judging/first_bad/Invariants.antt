use Rattle.std.proofs.Common.{◌≡◌}
use Rattle.safety_check.specs.Safety.{NoneBadBelow}
use Rattle.safety_judge.proofs.judging.first_bad.Given as goal

abbrev pub invariant-loop-q : goal.invariant-loop-q
invariant-loop-q l = record {
  below : NoneBadBelow l.cat l.property l.number;
  number : l.number ≡ l.q-index;
}
