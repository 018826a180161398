use Rattle.std.proofs.Common.{◌≡◌, drop}
use Rattle.box_types.specs.Faults.{test_of}
use Rattle.box_types.specs.Walks.{numbered, argument}
use Rattle.box_types.proofs.walk.walk_arguments.Given as goal

abbrev pub invariant-loop-number : goal.invariant-loop-number
invariant-loop-number l =
    numbered (argument (test_of l.check) l.home.cats.now l.home.own.now l.visible l.params) l.number
    (drop l.number l.args)
    ≡ numbered (argument (test_of l.check) l.home.cats.now l.home.own.now l.visible l.params) 0 l.args
