use Rattle.std.proofs.Common.{◌≡◌, drop}
use Rattle.box_types.specs.Faults.{test_of}
use Rattle.box_types.specs.Walks.{walked, alternative}
use Rattle.box_types.proofs.walk_cats.walk_alternatives.Given as goal

abbrev pub invariant-loop-number : goal.invariant-loop-number
invariant-loop-number l =
    walked (alternative (test_of l.check) l.home.cats.now l.home.own.now l.home.number) l.number
    (drop l.number l.parts) l.scope
    ≡ walked (alternative (test_of l.check) l.home.cats.now l.home.own.now l.home.number) 0 l.parts
    l.initial.scope
