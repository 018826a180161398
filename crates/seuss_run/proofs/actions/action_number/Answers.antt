use Rattle.std.proofs.Common.{sym, ◌∙◌, arith}
use Rattle.seuss_run.proofs.ActionLemmas.{found_here, found_behind}
use Rattle.seuss_run.proofs.actions.action_number.Goals as goal

-- this action is printed so
pub returns-then-eq : goal.returns-then-eq
returns-then-eq c =
    let same = rw (c.as_bytes-in-loop-at.ensures, c.in_ok-action_text.ensures) at c.eq.ensures in
    sym (found_here c.args.program.now c.args.word.now c.args.program.now.actions c.loop-at.at c.loop-at.at
    (omega arith) (sym same ∙ c.if-eq.true))
    ∙ c.loop-at.invariant

-- this action is not
pub loop-at-preserved : goal.loop-at-preserved
loop-at-preserved c =
    let same = rw (c.as_bytes-in-loop-at.ensures, c.in_ok-action_text.ensures) at c.eq.ensures in
    sym (found_behind c.args.program.now c.args.word.now c.args.program.now.actions c.loop-at.at
    c.loop-at.at (omega arith) (sym same ∙ c.if-eq.false))
    ∙ c.loop-at.invariant
