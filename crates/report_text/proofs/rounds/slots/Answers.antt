-- Each action has one slot.
use Rattle.std.proofs.Common.{sym, ◌∙◌}
use Rattle.report_text.proofs.SlotLemmas.{length-slots_of}
use Rattle.report_text.proofs.rounds.slots.Goals as goal

pub returns : goal.returns
returns c = c.len.ensures ∙ sym (length-slots_of c.args.program.now)
