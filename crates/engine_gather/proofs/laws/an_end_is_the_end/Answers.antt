use Rattle.engine_gather.proofs.Ending.{ended_still}
use Rattle.engine_gather.proofs.laws.an_end_is_the_end.Goals as goal

pub returns : goal.returns
returns c = λ setting machine sched run end.
    ended_still setting machine sched (c.runs_go_on.ensures.beginning setting)
    (c.machine_is_determined.ensures.run setting) (c.an_ended_run_stays.ensures.last setting) run end
