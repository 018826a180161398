-- Each step of the reader keeps what is read; a fault of a step is one of the text.
use Rattle.std.proofs.Common.{Ok, ap, ◌∙◌, arith}
use Rattle.std.proofs.lemmas.Result.{err_from_is_err_and}
use Rattle.seuss_text.proofs.ReadLemmas.{step_at, at_next, at_fault}
use Rattle.seuss_text.proofs.reader.read.Goals as goal

pub returns-in_err-token : goal.returns-in_err-token
returns-in_err-token c =
    let p = err_from_is_err_and c.from_residual.result c.from_residual.ensures.1 in
    rw (p.1, p.2)
    (at_fault c.args.text.now c.loop-list.list c.loop-list.place c.loop-list.line _ c.loop-list.invariant
    (step_at c.args.text.now c.loop-list.list c.loop-list.place c.loop-list.line c.next_token.result _
    c.loop-list.invariant c.next_token.ensures c.in_err-token.was))

pub loop-list-smaller : goal.loop-list-smaller
loop-list-smaller c =
    let next =
    at_next c.args.text.now c.loop-list.list c.loop-list.place c.loop-list.line c.in-Some.token
    c.loop-list.invariant
    (step_at c.args.text.now c.loop-list.list c.loop-list.place c.loop-list.line c.next_token.result _
    c.loop-list.invariant c.next_token.ensures (c.in_ok-token.was ∙ ap Ok c.in-Some.is)) in
    omega (arith, next.1, next.0.within, c.loop-list.invariant.within)

pub loop-list-preserved : goal.loop-list-preserved
loop-list-preserved c =
    let next =
    at_next c.args.text.now c.loop-list.list c.loop-list.place c.loop-list.line c.in-Some.token
    c.loop-list.invariant
    (step_at c.args.text.now c.loop-list.list c.loop-list.place c.loop-list.line c.next_token.result _
    c.loop-list.invariant c.next_token.ensures (c.in_ok-token.was ∙ ap Ok c.in-Some.is)) in
    rw c.in_ok-push.ensures.ok next.0
