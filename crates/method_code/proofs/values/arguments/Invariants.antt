use Rattle.std.proofs.Common.{◌≡◌, drop}
use Rattle.seuss_program.specs.Bodies.{arguments, arguments_after}
use Rattle.method_code.proofs.values.arguments.Given as goal

abbrev pub invariant-loop-arg : goal.invariant-loop-arg
invariant-loop-arg l = arguments_after l.values (drop l.arg-index l.arg-items) l.vars l.slots
    ≡ arguments l.args l.vars l.slots
