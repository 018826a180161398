use Rattle.std.proofs.Common.{◌≡◌, take, map}
use Rattle.box_types.specs.Namings.{procedure}
use Rattle.box_types.proofs.naming_cats.make_procedures.Given as goal

abbrev pub invariant-loop-proc : goal.invariant-loop-proc
invariant-loop-proc l = l.made ≡ map (procedure l.home.cats.now l.home.own.now) (take l.proc-index l.procs)
