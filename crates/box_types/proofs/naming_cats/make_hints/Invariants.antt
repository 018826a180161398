use Rattle.std.proofs.Common.{◌≡◌, take, map}
use Rattle.box_types.specs.Namings.{hint}
use Rattle.box_types.proofs.naming_cats.make_hints.Given as goal

abbrev pub invariant-loop-part : goal.invariant-loop-part
invariant-loop-part l = l.made ≡ map (hint l.own) (take l.part-index l.hints)
