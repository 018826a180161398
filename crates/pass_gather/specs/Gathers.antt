-- What an engine's closed journals and its seats say together.
use Rattle.std.specs.Prelude.{◌≡◌, ℕ, ◌<◌, List, length, map, All, Some, slice_get}
use Rattle.seuss_program.specs.declared.state.State.{State}
use Rattle.seuss_program.specs.Programs.{vars_of}
use Rattle.method_code.specs.Codes.{compiled}
use Rattle.compat_scheduler.specs.Machines.{Machine}
use Rattle.compat_scheduler.specs.Runs.{IsRun}
use Rattle.step_journal.specs.Histories.{Log, entries_of, IsNoteOf}
use Rattle.loose_records.specs.declared.record.BoxEntry.{BoxEntry}
use Rattle.loose_records.specs.declared.record.SchedEntry.{SchedEntry}
use Rattle.loose_records.specs.declared.record.PassRecord.{PassRecord}
use Rattle.loose_records.specs.declared.record.Record.{Record}
use Rattle.loose_records.specs.Entries.{AreStamps}
use Rattle.loose_records.specs.LooseRecords.{IsOver}
use Rattle.box_lock.specs.Cells as B
use Rattle.round_ledger.specs.Cells as S
use Rattle.pass_seats.specs.declared.pass.Place.{Place}
use Rattle.pass_seats.specs.declared.pass.SeatPass.{SeatPass}
use Rattle.pass_seats.specs.Names.{Names}
use Rattle.pass_seats.specs.Seats.{SeatState}
use Rattle.pass_gather.specs.Given.{given_of}

-- The boxes: each journal is a legal history of the program from the first state to the last one, whose
-- stamps rise, and of which each seat has seen a beginning with all its own entries.
pub record GathersBoxes (names : Names) (last : State) (logs : List (Log BoxEntry)) (seats : List SeatState)
    : Type 0 where
  pub many : length logs ≡ length names.boxes
  pub lasts : length last.boxes ≡ length names.boxes
  pub legal : (b : ℕ) (log : Log BoxEntry) → slice_get logs b ≡ Some log →
      B.IsHistory (compiled names.setting.program) b (vars_of names.first b) log (vars_of last b)
  pub stamps : (b : ℕ) (log : Log BoxEntry) → slice_get logs b ≡ Some log → AreStamps (B.log_stamps log)
  pub makers : (b : ℕ) (log : Log BoxEntry) → slice_get logs b ≡ Some log → All (λ p. p.0 < names.seats) log
  pub notes : (w b : ℕ) (s : SeatState) (log : Log BoxEntry) (p : Place) → slice_get seats w ≡ Some s →
      slice_get logs b ≡ Some log → slice_get s.places b ≡ Some p → IsNoteOf log p.note.maker p.note.seen

-- The scheduler: its journal is a run to its end, whose stamps rise. Each seat has seen a beginning of it,
-- and so has each given pass, with all its own entries; and no two given passes have one number.
pub record GathersSched (names : Names) (sched : Log SchedEntry) (machine : Machine) (seats : List SeatState)
    : Type 0 where
  pub run : IsRun names.setting.scheduler (S.log_events sched) machine
  pub stamps : AreStamps (S.log_stamps sched)
  pub over : IsOver names.setting machine
  pub fronts : (w : ℕ) (s : SeatState) → slice_get seats w ≡ Some s → IsNoteOf sched s.note.maker s.note.seen
  pub notes : (j : ℕ) (p : SeatPass) → slice_get (given_of seats) j ≡ Some p →
      IsNoteOf sched p.note.maker p.note.seen
  pub apart : (i j : ℕ) (p q : SeatPass) → slice_get (given_of seats) i ≡ Some p →
      slice_get (given_of seats) j ≡ Some q → p.ticket.pass ≡ q.ticket.pass → i ≡ j

-- the record of these journals and passes
abbrev pub record_of : State → State → List (Log BoxEntry) → Log SchedEntry → List PassRecord → Record
record_of first last logs sched passes = record {
  first = first;
  last = last;
  boxes = map entries_of logs;
  sched = entries_of sched;
  passes = passes;
}
