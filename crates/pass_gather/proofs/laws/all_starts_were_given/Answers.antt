use Rattle.round_ledger.specs.Cells.{log_events}
use Rattle.pass_gather.proofs.Counting.{all_given}
use Rattle.pass_gather.proofs.laws.all_starts_were_given.Goals as goal

pub returns : goal.returns
returns c = λ setting machine sched seats run owners took.
    all_given machine sched seats owners (c.passes_are_numbered.ensures setting (log_events sched) machine run) took
