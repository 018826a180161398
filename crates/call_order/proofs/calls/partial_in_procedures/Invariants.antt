-- What lasts over the loop of `partial_in_procedures`.
use Rattle.std.proofs.Common.{◌≡◌, drop}
use Rattle.seuss_program.specs.declared.tree.Ref.{Ref}
use Rattle.call_order.specs.Calls.{is_partial, lines_of, in_bodies, in_procedures}
use Rattle.call_order.specs.Firsts.{first_of}
use Rattle.call_order.proofs.calls.partial_in_procedures.Given as goal

abbrev pub invariant-loop-procedure : goal.invariant-loop-procedure
invariant-loop-procedure l =
    first_of (in_procedures in_bodies (lines_of l.seen.cats.now l.seen.given.now (is_partial {N = Ref}))
    (drop l.procedure-index l.procs))
    ≡ first_of (in_procedures in_bodies (lines_of l.seen.cats.now l.seen.given.now (is_partial {N = Ref}))
    l.procs)
