-- Each box has its lines, and at the end none is left.
use Rattle.std.proofs.lemmas.Slice.Zip.{either_empty_from_Zip}
use Rattle.report_text.proofs.WritingLemmas.{box_written, boxes_all}
use Rattle.report_text.proofs.ends.push_state.Goals as goal

pub loop-info-preserved : goal.loop-info-preserved
loop-info-preserved c =
    box_written c.args.program.now.cats c.in-Some.info.now c.in-Some.vars.now _ _ _ _
    c.loop-info.text c.push_box.new.text _ c.in-Some.ensures.steps.0 c.in-Some.ensures.steps.1
    c.in_ok-push_box.ensures
    c.loop-info.invariant

pub returns : goal.returns
returns c =
    boxes_all c.args.program.now.cats _ _ c.loop-info.text _
    (either_empty_from_Zip c.loop-info.info-iterator c.next.new.self c.next.result c.in-None.is
    c.next.ensures.steps)
    c.loop-info.invariant
