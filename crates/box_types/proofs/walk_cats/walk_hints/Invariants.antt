use Rattle.std.proofs.Common.{◌≡◌, drop}
use Rattle.box_types.specs.Faults.{test_of}
use Rattle.box_types.specs.Walks.{numbered, hint}
use Rattle.box_types.proofs.walk_cats.walk_hints.Given as goal

abbrev pub invariant-loop-number : goal.invariant-loop-number
invariant-loop-number l =
    numbered (hint (test_of l.check) l.cats l.own l.part) l.number (drop l.number l.part.hints)
    ≡ numbered (hint (test_of l.check) l.cats l.own l.part) 0 l.part.hints
