use Rattle.std.proofs.Common.{◌≡◌, take, map}
use Rattle.box_types.specs.Namings.{box_number}
use Rattle.box_types.proofs.naming_cats.numbers_of_boxes.Given as goal

abbrev pub invariant-loop-name : goal.invariant-loop-name
invariant-loop-name l = l.made ≡ map (box_number l.boxes.items.now) (take l.name-index l.names)
