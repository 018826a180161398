use Rattle.std.proofs.Common.{◌≡◌, drop}
use Rattle.box_types.specs.Faults.{test_of}
use Rattle.box_types.specs.Walks.{walked, procedure}
use Rattle.box_types.proofs.walk_cats.walk_procedures.Given as goal

abbrev pub invariant-loop-number : goal.invariant-loop-number
invariant-loop-number l =
    walked (procedure (test_of l.check) l.cats l.own) l.number (drop l.number l.procs) l.scope
    ≡ walked (procedure (test_of l.check) l.cats l.own) 0 l.procs l.initial.scope
