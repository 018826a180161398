use Rattle.std.proofs.Common.{◌≡◌, drop}
use Rattle.method_code.specs.Steps.{chosen, chosen_head}
use Rattle.method_code.proofs.stepping.choose.Given as goal

abbrev pub invariant-loop-head : goal.invariant-loop-head
invariant-loop-head l =
    chosen l.method l.frame.method l.budget (chosen_head (drop l.head-index l.heads) l.vars l.frame.slots)
    l.vars l.frame.slots
    ≡ chosen l.method l.initial.frame.method l.initial.budget
    (chosen_head l.heads l.initial.vars l.initial.frame.slots) l.initial.vars l.initial.frame.slots
