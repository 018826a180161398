use Rattle.std.proofs.Common.{◌≡◌, drop}
use Rattle.box_types.specs.Faults.{test_of}
use Rattle.box_types.specs.Walks.{numbered, box}
use Rattle.box_types.proofs.walk_cats.walk_boxes.Given as goal

abbrev pub invariant-loop-number : goal.invariant-loop-number
invariant-loop-number l =
    numbered (box (test_of l.check) l.tree.cats l.tree.boxes) l.number (drop l.number l.tree.boxes)
    ≡ numbered (box (test_of l.check) l.tree.cats l.tree.boxes) 0 l.tree.boxes
