-- Each variable has its line, and at the end none is left.
use Rattle.std.proofs.lemmas.Slice.Zip.{either_empty_from_Zip}
use Rattle.report_text.proofs.WritingLemmas.{var_written, vars_all}
use Rattle.report_text.proofs.ends.push_vars.Goals as goal

pub loop-var-preserved : goal.loop-var-preserved
loop-var-preserved c =
    var_written c.args.box_name.now c.in-Some.var.now c.in-Some.value.now _ _ _ _
    c.loop-var.text c.push_var.new.text _ c.in-Some.ensures.steps.0 c.in-Some.ensures.steps.1
    c.in_ok-push_var.ensures
    c.loop-var.invariant

pub returns : goal.returns
returns c =
    vars_all c.args.box_name.now _ _ c.loop-var.text _
    (either_empty_from_Zip c.loop-var.var-iterator c.next.new.self c.next.result c.in-None.is
    c.next.ensures.steps)
    c.loop-var.invariant
