use Rattle.round_ledger.specs.Cells.{log_events}
use Rattle.pass_gather.proofs.Ending.{sched_gathers, each_has, each_below}
use Rattle.pass_gather.proofs.laws.the_scheduler_gathers.Goals as goal

pub returns : goal.returns
returns c = record {
  gathers = λ names cell seats closed are ended.
      sched_gathers names cell seats closed are
      (c.passes_are_numbered.ensures names.setting.scheduler (log_events cell.journal.log) cell.machine
      closed.run)
      (c.an_ended_run_is_over.ensures names cell.machine cell.journal.log closed.run ended);
  numbers = λ names cell seats closed are.
      each_has names cell seats closed are
      (c.passes_are_numbered.ensures names.setting.scheduler (log_events cell.journal.log) cell.machine
      closed.run);
  below = λ names cell seats closed are.
      each_below names cell seats closed are
      (c.passes_are_numbered.ensures names.setting.scheduler (log_events cell.journal.log) cell.machine
      closed.run);
}
