use Rattle.std.proofs.Common.{◌≡◌, ◌-◌, length, drop}
use Rattle.method_code.specs.Steps.{walk}
use Rattle.method_code.proofs.acting.walk_on.Given as goal

abbrev pub invariant-loop-instruction : goal.invariant-loop-instruction
invariant-loop-instruction l =
    walk (drop l.at l.instructions) l.at 0 l.vars l.slots
    ≡ walk (drop l.start l.instructions) l.start 0 l.initial.vars l.initial.slots

abbrev pub decreases-loop-instruction : goal.decreases-loop-instruction
decreases-loop-instruction l = length l.instructions - l.at
