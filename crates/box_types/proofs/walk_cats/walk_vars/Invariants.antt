use Rattle.std.proofs.Common.{◌≡◌, drop}
use Rattle.box_types.specs.Faults.{test_of}
use Rattle.box_types.specs.Walks.{numbered, variable}
use Rattle.box_types.proofs.walk_cats.walk_vars.Given as goal

abbrev pub invariant-loop-number : goal.invariant-loop-number
invariant-loop-number l =
    numbered (variable (test_of l.check) l.cats l.own) l.number (drop l.number l.own.vars)
    ≡ numbered (variable (test_of l.check) l.cats l.own) 0 l.own.vars
