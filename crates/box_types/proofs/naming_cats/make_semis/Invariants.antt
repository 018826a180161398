use Rattle.std.proofs.Common.{◌≡◌, take, map}
use Rattle.box_types.specs.Namings.{semi}
use Rattle.box_types.proofs.naming_cats.make_semis.Given as goal

abbrev pub invariant-loop-part : goal.invariant-loop-part
invariant-loop-part l = l.made ≡ map (semi l.own) (take l.part-index l.semis)
