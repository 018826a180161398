-- Proofs of the goals of `partial_in`.
use Rattle.std.proofs.Common.{sym, ap, ◌∙◌}
use Rattle.seuss_program.specs.declared.tree.Ref.{Ref}
use Rattle.call_order.specs.Calls.{is_partial, lines_of, in_body}
use Rattle.call_order.specs.Firsts.{first_of}
use Rattle.call_order.proofs.CallLemmas.{lines-Let, lines-Assign, lines-Call, lines-While, first_in_holds}
use Rattle.call_order.proofs.CallLemmas.{first_in_fails}
use Rattle.call_order.proofs.calls.+partial_in.Goals as goal

pub partial_in_statement-returns-in-Let : goal.partial_in_statement-returns-in-Let
partial_in_statement-returns-in-Let t c = ap first_of
    (sym (lines-Let (lines_of c.args.seen.now.cats.now c.args.seen.now.given.now (is_partial {N = Ref}))
    c.args.statement.now _ _ _ c.in-Let.is))

pub partial_in_statement-returns-in-Assign : goal.partial_in_statement-returns-in-Assign
partial_in_statement-returns-in-Assign t c = ap first_of
    (sym (lines-Assign (lines_of c.args.seen.now.cats.now c.args.seen.now.given.now (is_partial {N = Ref}))
    c.args.statement.now _ _ c.in-Assign.is))

pub partial_in_statement-returns-in-Call : goal.partial_in_statement-returns-in-Call
partial_in_statement-returns-in-Call t c =
    c.partial_call.ensures ∙ ap first_of
    (sym (lines-Call (lines_of c.args.seen.now.cats.now c.args.seen.now.given.now
    (is_partial {N = Ref})) c.args.statement.now _ _ c.in-Call.is))

pub partial_in_statement-returns-in-Some : goal.partial_in_statement-returns-in-Some
partial_in_statement-returns-in-Some t c =
    first_in_holds (lines_of c.args.seen.now.cats.now c.args.seen.now.given.now (is_partial {N = Ref}))
    c.args.statement.now c.in-If.cond c.in-If.yes c.in-If.no _ _ _ c.in-If.is
    c.as_slice.ensures c.partial_in_body.ensures c.in-Some.is

pub partial_in_statement-returns-in-None : goal.partial_in_statement-returns-in-None
partial_in_statement-returns-in-None t c =
    first_in_fails (lines_of c.args.seen.now.cats.now c.args.seen.now.given.now (is_partial {N = Ref}))
    c.args.statement.now c.in-If.cond c.in-If.yes c.in-If.no _ _ _ _ c.in-If.is
    c.as_slice.ensures c.as_slice-in-None.ensures c.partial_in_body.ensures c.in-None.is
    c.partial_in_body-in-None.ensures

pub partial_in_statement-returns-in-While : goal.partial_in_statement-returns-in-While
partial_in_statement-returns-in-While t c =
    c.partial_in_body-in-While.ensures
    ∙ (ap (λ ss. first_of
    (in_body (lines_of c.args.seen.now.cats.now c.args.seen.now.given.now (is_partial {N = Ref})) ss))
    c.as_slice-in-While.ensures
    ∙ ap first_of (sym (lines-While
    (lines_of c.args.seen.now.cats.now c.args.seen.now.given.now (is_partial {N = Ref}))
    c.args.statement.now _ _ c.in-While.is)))
