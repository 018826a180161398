use Rattle.round_ledger.specs.Cells.{log_events}
use Rattle.pass_gather.proofs.Counting.{none_open}
use Rattle.pass_gather.proofs.laws.no_pass_is_open.Goals as goal

pub returns : goal.returns
returns c = λ setting machine sched seats count run owners tickets quiet given ledger.
    none_open setting machine sched seats count owners tickets
    (c.passes_are_numbered.ensures setting (log_events sched) machine run) quiet given ledger
