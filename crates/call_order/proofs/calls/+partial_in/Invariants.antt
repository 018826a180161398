-- What lasts over the loop of `partial_in`.
use Rattle.std.proofs.Common.{◌≡◌, drop}
use Rattle.seuss_program.specs.declared.tree.Ref.{Ref}
use Rattle.call_order.specs.Calls.{is_partial, lines_of, in_body}
use Rattle.call_order.specs.Firsts.{first_of}
use Rattle.call_order.proofs.calls.+partial_in.Given as goal

abbrev pub invariant-partial_in_body-loop-statement : goal.invariant-partial_in_body-loop-statement
invariant-partial_in_body-loop-statement l =
    first_of (in_body (lines_of l.seen.cats.now l.seen.given.now (is_partial {N = Ref}))
    (drop l.statement-index l.statements))
    ≡ first_of (in_body (lines_of l.seen.cats.now l.seen.given.now (is_partial {N = Ref})) l.statements)
