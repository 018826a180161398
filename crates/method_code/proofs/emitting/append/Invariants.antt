use Rattle.std.proofs.Common.{◌≡◌, ◌++◌}
use Rattle.method_code.proofs.emitting.append.Given as goal

abbrev pub invariant-loop-instruction : goal.invariant-loop-instruction
invariant-loop-instruction l = l.code ≡ l.initial.code ++ l.yielded
