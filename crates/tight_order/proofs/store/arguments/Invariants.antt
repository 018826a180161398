use Rattle.std.proofs.Common.{◌≡◌, drop}
use Rattle.seuss_program.specs.Programs.{vars_of}
use Rattle.seuss_program.specs.Bodies.{arguments, arguments_after}
use Rattle.tight_order.proofs.store.arguments.Given as goal

abbrev pub invariant-loop-arg : goal.invariant-loop-arg
invariant-loop-arg l =
    arguments_after l.values (drop l.arg-index l.arg-items) (vars_of l.state l.box_number) l.slots
    ≡ arguments l.args (vars_of l.state l.box_number) l.slots
