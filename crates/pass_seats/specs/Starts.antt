-- What a start does: to the scheduler, to the seat that makes its entry, and to the seat that takes the pass.
use Rattle.std.specs.Prelude.{◌≡◌, ◌+◌, ◌^◌, true, false, [], ◌∷◌, ◌++◌, length, None}
use Rattle.method_code.specs.Chains.{beginning}
use Rattle.compat_scheduler.specs.Starts.{Starts, NoneStarts}
use Rattle.compat_scheduler.specs.Runs.{IsRun}
use Rattle.step_journal.specs.declared.refusal.CellRefusal as R
use Rattle.step_journal.specs.declared.refusal.CellRefusal.TheVariants as C
use Rattle.step_journal.specs.Histories.{Log, IsNoteOf}
use Rattle.loose_records.specs.declared.record.SchedEntry.{SchedEntry}
use Rattle.loose_records.specs.declared.record.SchedEntry.TheVariants.{Start}
use Rattle.round_ledger.specs.Cells.{CellState, log_events, next_stamp, WouldStart}
use Rattle.pass_seats.specs.declared.pass.Pass.{Pass}
use Rattle.pass_seats.specs.declared.pass.SeatPass.{SeatPass}
use Rattle.pass_seats.specs.declared.refusal.EngineRefusal as E
use Rattle.pass_seats.specs.declared.refusal.EngineRefusal.TheVariants as X
use Rattle.pass_seats.specs.Names.{Names}
use Rattle.pass_seats.specs.Seats.{SeatState}
use Rattle.pass_seats.specs.Items.{ItemState}
use Rattle.pass_seats.specs.Steps.{Tears, sees_quit}

-- the seat with this list seen of the scheduler's journal
abbrev pub sees_sched : SeatState → Log SchedEntry → SeatState
sees_sched s log = record s { note = record s.note { seen = log } }

-- the cell is still that of the same scheduler, and its list is this one
pub record IsStillSched (old new : CellState) (log : Log SchedEntry) : Type 0 where
  pub log_is : new.journal.log ≡ log
  pub name : new.journal.name ≡ old.journal.name
  pub setting : new.setting ≡ old.setting
  pub seats : new.seats ≡ old.seats

-- The seat has made the start of this pass, on the whole list: the machine starts it, and its entry, by the seat, is
-- the new end, which the seat has then seen.
pub record Issued (cell after : CellState) (old new : SeatState) (item : ItemState) : Type 0 where
  pub whole : (cell.broken ≡ false) × (after.broken ≡ false)
  pub run : IsRun cell.setting (log_events cell.journal.log) cell.machine
  pub before : IsNoteOf cell.journal.log old.number old.note.seen
  pub starts : Starts cell.setting cell.machine item.ticket after.machine
  pub seat : item.seat ≡ old.number
  pub stamp : item.stamp ≡ next_stamp 0 cell.journal.log
  pub after_is : IsStillSched cell after
      (cell.journal.log ++ (old.number, Start item.ticket item.stamp) ∷ [])
  pub new_is : new ≡ record old {
    note = record old.note { seen = after.journal.log };
    share = record old.share { count = old.share.count + 1 };
  }

-- no pass can start, as the seat has then seen
pub record NoneIssued (cell after : CellState) (old new : SeatState) : Type 0 where
  pub whole : cell.broken ≡ false
  pub run : IsRun cell.setting (log_events cell.journal.log) cell.machine
  pub before : IsNoteOf cell.journal.log old.number old.note.seen
  pub none : NoneStarts cell.setting cell.machine
  pub same : after ≡ cell
  pub new_is : new ≡ sees_sched old cell.journal.log

-- the cell is broken, with its machine and its list as they were
pub record SchedBreaks (old new : CellState) : Type 0 where
  pub working : old.broken ≡ false
  pub broken : new.broken ≡ true
  pub machine : new.machine ≡ old.machine
  pub still : IsStillSched old new old.journal.log

-- the seat has seen the whole list, and nothing else has changed
pub record SawSched (cell after : CellState) (old new : SeatState) : Type 0 where
  pub before : IsNoteOf cell.journal.log old.number old.note.seen
  pub same : after ≡ cell
  pub new_is : new ≡ sees_sched old cell.journal.log

-- why a start was refused by the scheduler's cell, and what then holds
abbrev pub IssueRefused : CellState → CellState → SeatState → SeatState → R.CellRefusal → Type 0
IssueRefused cell after old new C.Memory = SchedBreaks cell after × Tears old new × WouldStart cell C.Memory
IssueRefused cell after old new (C.Worn stamp) = (stamp ≡ 2 ^ 63) × (stamp ≡ next_stamp 0 cell.journal.log)
    × (cell.broken ≡ false) × SawSched cell after old new × WouldStart cell (C.Worn stamp)
IssueRefused cell after old new C.Broken = (after ≡ cell) × (new ≡ old) × (cell.broken ≡ true)

-- why a start was refused at the scheduler's desk, and what then holds
abbrev pub IssueRefusedBy : CellState → CellState → SeatState → SeatState → E.EngineRefusal → Type 0
IssueRefusedBy cell after old new (X.GivenUp by) =
    (after ≡ cell) × (new ≡ sees_quit old by) × (cell.broken ≡ true)
IssueRefusedBy cell after old new X.Memory = SchedBreaks cell after × Tears old new
IssueRefusedBy cell after old new (X.Worn stamp) =
    (stamp ≡ 2 ^ 63) × (stamp ≡ next_stamp 0 cell.journal.log) × (cell.broken ≡ false)
    × SawSched cell after old new × WouldStart cell (C.Worn stamp)

-- a pass at its beginning, as a seat takes it: before the first step of its action, with the whole budget
abbrev pub taken_from : Names → ItemState → SeatPass → SeatPass
taken_from names item given = record given {
  ticket = item.ticket;
  by = item.seat;
  started = item.stamp;
  clock = item.stamp;
  budget = names.setting.budget;
  control = beginning names.setting.program item.ticket.action;
  over = None;
  commit = None;
  claims = [];
  note = item.note;
  done = None;
}

-- the seat was given the pass, in a slot at its end
pub record Taken (names : Names) (old new : SeatState) (item : ItemState) (pass : Pass) : Type 0 where
  pub given : SeatPass
  pub given_is : given ≡ taken_from names item given
  pub unused : given.share.count ≡ 0
  pub pass_is : pass ≡ record { slot = length old.passes; ticket = item.ticket }
  pub new_is : new ≡ record old { passes = old.passes ++ given ∷ [] }
