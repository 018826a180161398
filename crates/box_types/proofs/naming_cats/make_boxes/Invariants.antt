use Rattle.std.proofs.Common.{◌≡◌, take, map}
use Rattle.box_types.specs.Namings.{box_info}
use Rattle.box_types.proofs.naming_cats.make_boxes.Given as goal

abbrev pub invariant-loop-declared : goal.invariant-loop-declared
invariant-loop-declared l = l.made ≡ map (box_info l.cats.items.now l.boxes.items.now)
    (take l.declared-index l.boxes.items.now)
