use Rattle.std.proofs.Common.{◌≡◌, drop}
use Rattle.box_types.specs.Faults.{test_of}
use Rattle.box_types.specs.Walks.{numbered, cat}
use Rattle.box_types.proofs.walk_cats.walk_cats.Given as goal

abbrev pub invariant-loop-number : goal.invariant-loop-number
invariant-loop-number l =
    numbered (cat (test_of l.check) l.cats) l.number (drop l.number l.cats)
    ≡ numbered (cat (test_of l.check) l.cats) 0 l.cats
