use Rattle.std.proofs.Common.{◌≡◌, take, map}
use Rattle.box_types.specs.Namings.{cat}
use Rattle.box_types.proofs.naming_cats.make_cats.Given as goal

abbrev pub invariant-loop-own : goal.invariant-loop-own
invariant-loop-own l = l.made ≡ map (cat l.cats.items.now) (take l.own-index l.cats.items.now)
