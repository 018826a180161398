-- Each attempt has its line, and at the end none is left.
use Rattle.std.proofs.lemmas.Slice.Zip.{either_empty_from_Zip}
use Rattle.report_text.proofs.TightLemmas.{attempt_written, attempts_all}
use Rattle.report_text.proofs.tight.push_attempts.Goals as goal

pub loop-action-preserved : goal.loop-action-preserved
loop-action-preserved c =
    attempt_written c.args.program.now c.in-Some.action.now c.in-Some.outcome.now _ _ _ _
    c.loop-action.text c.push_attempt.new.text _ c.in-Some.ensures.steps.0 c.in-Some.ensures.steps.1
    c.in_ok-push_attempt.ensures
    c.loop-action.invariant

pub returns : goal.returns
returns c =
    attempts_all c.args.program.now _ _ c.loop-action.text _
    (either_empty_from_Zip c.loop-action.action-iterator c.next.new.self c.next.result c.in-None.is
    c.next.ensures.steps)
    c.loop-action.invariant
