use Rattle.std.proofs.Common.{◌≡◌, inl, inr, true, ⊎_elim}
use Rattle.compat_scheduler.specs.Machines.{IsAllDone, running_count}
use Rattle.loose_records.specs.LooseRecords.{IsOver}
use Rattle.round_ledger.specs.Cells.{log_events}
use Rattle.pass_gather.proofs.laws.an_ended_run_is_over.Goals as goal

pub returns : goal.returns
returns c = λ names machine sched run ended.
    ⊎_elim {C = IsOver names.setting machine}
    (λ (done : IsAllDone names.setting.scheduler machine). record {
      quiet = c.an_ended_run_stays.ensures.quiet names.setting.scheduler (log_events sched) machine run done;
      over = inr done;
    })
    (λ (stopped : (machine.stopped ≡ true) × (running_count machine ≡ 0)). record {
      quiet = stopped.1;
      over = inl stopped.0;
    }) ended
