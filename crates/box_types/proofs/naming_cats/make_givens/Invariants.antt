use Rattle.std.proofs.Common.{◌≡◌, take, map}
use Rattle.box_types.specs.Namings.{given}
use Rattle.box_types.proofs.naming_cats.make_givens.Given as goal

abbrev pub invariant-loop-part : goal.invariant-loop-part
invariant-loop-part l = l.made ≡ map (given l.cats.items.now) (take l.part-index l.parts)
