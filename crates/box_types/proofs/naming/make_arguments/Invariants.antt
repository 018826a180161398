use Rattle.std.proofs.Common.{◌≡◌, take, map}
use Rattle.box_types.specs.Namings.{expression}
use Rattle.box_types.proofs.naming.make_arguments.Given as goal

abbrev pub invariant-loop-arg : goal.invariant-loop-arg
invariant-loop-arg l = l.made ≡ map (expression l.own l.visible) (take l.arg-index l.args)
