use Rattle.std.proofs.Common.{◌≡◌, drop}
use Rattle.box_types.specs.Faults.{test_of}
use Rattle.box_types.specs.Walks.{numbered, box_given}
use Rattle.box_types.proofs.walk_cats.walk_box_given.Given as goal

abbrev pub invariant-loop-number : goal.invariant-loop-number
invariant-loop-number l =
    numbered (box_given (test_of l.check) l.tree.cats l.tree.boxes l.declared) l.number
    (drop l.number l.declared.given)
    ≡ numbered (box_given (test_of l.check) l.tree.cats l.tree.boxes l.declared) 0 l.declared.given
