use Rattle.std.proofs.Common.{◌≡◌}
use Rattle.method_code.specs.Steps.{runs}
use Rattle.method_code.proofs.stepping.run.Given as goal

abbrev pub invariant-loop-halt : goal.invariant-loop-halt
invariant-loop-halt l = record {
  method : l.frame.method ≡ l.initial.frame.method;
  same : runs l.method l.frame.method l.budget l.at l.vars l.frame.slots
      ≡ runs l.method l.initial.frame.method l.initial.budget l.start l.initial.vars l.initial.frame.slots;
}

abbrev pub decreases-loop-halt : goal.decreases-loop-halt
decreases-loop-halt l = l.budget
