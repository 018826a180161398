-- What the seats of a threaded engine are when its record is made.
use Rattle.std.specs.Prelude.{◌≡◌, ℕ, false, List, length, Some, slice_get}
use Rattle.compat_scheduler.specs.Settings.{Setting}
use Rattle.compat_scheduler.specs.Machines.{Machine}
use Rattle.compat_scheduler.specs.Runs.{IsRun}
use Rattle.step_journal.specs.Histories.{Log, IsPrefix}
use Rattle.loose_records.specs.declared.record.SchedEntry.{SchedEntry}
use Rattle.loose_records.specs.declared.record.PassRecord.{PassRecord}
use Rattle.round_ledger.specs.Cells.{HasEnded, log_events}
use Rattle.ready_queue.specs.Seats.{FirstState}
use Rattle.pass_seats.specs.Names.{Names}
use Rattle.pass_seats.specs.Seats.{SeatState}
use Rattle.pass_gather.specs.Given.{given_of, Lists}
use Rattle.worker_seats.specs.Workers.{Ring, WorkerState}
use Rattle.shared_engine.specs.Rings.{IsSeatOf}

-- what a worker's seat has of any engine
abbrev pub core_of : WorkerState → SeatState
core_of s = s.core

-- the seat with this number of the engine with this ring, no call with which was refused for want of memory
-- or gave the engine up
pub record IsSeatAt (ring : Ring) (number : ℕ) (s : WorkerState) : Type 0 where
  pub number_is : s.core.number ≡ number
  pub of : IsSeatOf ring s
  pub untorn : s.core.torn ≡ false

-- one of these seats keeps the first view of the ready queue
pub record HaveFirst (seats : List WorkerState) : Type 0 where
  pub number : ℕ
  pub seat : WorkerState
  pub there : slice_get seats number ≡ Some seat
  pub first : FirstState
  pub keeps : seat.first ≡ Some first

-- all seats of the engine with this ring, by their numbers
pub record AreAllSeats (names : Names) (ring : Ring) (seats : List WorkerState) : Type 0 where
  pub many : length seats ≡ names.seats
  pub each : (w : ℕ) (s : WorkerState) → slice_get seats w ≡ Some s → IsSeatAt ring w s
  pub home : HaveFirst seats

-- the list of the scheduler begins with a run that has ended
pub record BeginsWithEnd (setting : Setting) (log : Log SchedEntry) : Type 0 where
  pub front : Log SchedEntry
  pub begins : IsPrefix front log
  pub machine : Machine
  pub run : IsRun setting (log_events front) machine
  pub ended : HasEnded setting machine

-- one of these seats has seen that the run has ended, as a seat has that was told so
pub record HaveSeenEnd (setting : Setting) (seats : List WorkerState) : Type 0 where
  pub number : ℕ
  pub seat : WorkerState
  pub there : slice_get seats number ≡ Some seat
  pub end : BeginsWithEnd setting seat.core.note.seen

-- these are the records of the passes that the seats were given, by the numbers of the passes
pub record AreTheirPasses (seats : List SeatState) (passes : List PassRecord) : Type 0 where
  pub lists : Lists (given_of seats) (length passes) passes
