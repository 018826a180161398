-- Where no attempt stopped, the end is that of none.
use Rattle.std.proofs.Common.{sym, ◌∙◌}
use Rattle.std.proofs.lemmas.Slice.Zip.{either_empty_from_Zip}
use Rattle.report_text.proofs.TightLemmas.{end_done}
use Rattle.report_text.proofs.tight.tight_end.Goals as goal

pub returns : goal.returns
returns c =
    sym (c.loop-action.invariant ∙ end_done _ _
    (either_empty_from_Zip c.loop-action.action-iterator c.next.new.self c.next.result c.in-None.is
    c.next.ensures.steps))
