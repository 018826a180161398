-- What the scheduler's list and the rows of the ready queue say together, once all seats have come back.
use Rattle.std.specs.Prelude.{◌≡◌, List, length, map, All}
use Rattle.compat_scheduler.specs.Settings.{Setting}
use Rattle.compat_scheduler.specs.Machines.{Machine}
use Rattle.compat_scheduler.specs.Runs.{IsRun}
use Rattle.step_journal.specs.Histories.{Log}
use Rattle.loose_records.specs.declared.record.SchedEntry.{SchedEntry}
use Rattle.round_ledger.specs.Cells.{IsOwned, log_events}
use Rattle.ready_queue.specs.declared.view.Mark.{Mark}
use Rattle.ready_queue.specs.declared.view.Row.{Row}
use Rattle.ready_queue.specs.Rules.{IsSettled, taken_in}
use Rattle.pass_seats.specs.Seats.{SeatState}
use Rattle.pass_gather.specs.Given.{given_of}
use Rattle.worker_seats.specs.Marks.{mark_of, own_marks}

-- The rows of all seats were joined, and the queue holds these items. The scheduler's list is a run, each
-- seat has pushed just the passes that it has started, and all seats have taken just those that they were
-- given.
pub record HasSettled (setting : Setting) (machine : Machine) (sched : Log SchedEntry) (items : List Mark)
    (rows : List Row) (seats : List SeatState) : Type 0 where
  pub run : IsRun setting (log_events sched) machine
  pub owners : All (IsOwned (length seats)) sched
  pub settled : IsSettled items rows (length seats)
  pub pushed : All (λ r. r.pushed ≡ own_marks r.number sched) rows
  pub taken : taken_in rows ≡ map mark_of (given_of seats)
