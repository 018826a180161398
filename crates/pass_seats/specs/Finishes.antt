-- What a finish of a pass does: to the scheduler, to the pass and to its seat; and whether a run goes on.
use Rattle.std.specs.Prelude.{◌≡◌, ℕ, ◌+◌, ◌^◌, true, false, [], ◌∷◌, ◌++◌, Some, None, slice_get, slice_set}
use Rattle.seuss_base.specs.declared.outcome.PassEnd.{PassEnd}
use Rattle.compat_scheduler.specs.declared.ticket.FinishVerdict.{FinishVerdict}
use Rattle.compat_scheduler.specs.Finishes.{Finishes}
use Rattle.compat_scheduler.specs.Runs.{IsRun}
use Rattle.step_journal.specs.declared.refusal.CellRefusal as R
use Rattle.step_journal.specs.declared.refusal.CellRefusal.TheVariants as C
use Rattle.step_journal.specs.Histories.{Log, IsNoteOf}
use Rattle.loose_records.specs.declared.record.SchedEntry.{SchedEntry}
use Rattle.loose_records.specs.declared.record.SchedEntry.TheVariants.{Finish}
use Rattle.round_ledger.specs.declared.standing.Standing as S
use Rattle.round_ledger.specs.Cells.{CellState, log_events, next_stamp, StandsAs}
use Rattle.pass_seats.specs.declared.pass.SeatPass.{SeatPass}
use Rattle.pass_seats.specs.declared.refusal.EngineRefusal as E
use Rattle.pass_seats.specs.declared.refusal.EngineRefusal.TheVariants as X
use Rattle.pass_seats.specs.Seats.{SeatState}
use Rattle.pass_seats.specs.Steps.{Tears, sees_quit}
use Rattle.pass_seats.specs.Starts.{IsStillSched, SchedBreaks, sees_sched}

-- the pass in this slot of the seat is over, and hasn't finished
pub record IsOver (s : SeatState) (slot : ℕ) : Type 0 where
  pub pass : SeatPass
  pub there : slice_get s.passes slot ≡ Some pass
  pub end : PassEnd
  pub over : pass.over ≡ Some end
  pub undone : pass.done ≡ None

-- The finish of a pass that is over: the machine finishes it with this verdict, on the whole list, and its entry, by
-- the pass's own note, is the new end, which this note has then seen.
pub record PassFinished (cell new : CellState) (pass after : SeatPass) (verdict : FinishVerdict) : Type 0 where
  pub end : PassEnd
  pub over : pass.over ≡ Some end
  pub stamp : ℕ
  pub whole : (cell.broken ≡ false) × (new.broken ≡ false)
  pub run : IsRun cell.setting (log_events cell.journal.log) cell.machine
  pub before : IsNoteOf cell.journal.log pass.note.maker pass.note.seen
  pub finishes : Finishes cell.setting cell.machine pass.ticket end verdict new.machine
  pub stamp_is : stamp ≡ next_stamp pass.clock cell.journal.log
  pub new_is : IsStillSched cell new
      (cell.journal.log ++ (pass.note.maker, Finish pass.ticket end verdict stamp) ∷ [])
  pub after_is : after ≡ record pass {
    note = record pass.note { seen = new.journal.log };
    share = record pass.share { count = 1 };
    done = Some (record { verdict = verdict; stamp = stamp });
  }

-- the pass with this list seen of the scheduler's journal
abbrev pub pass_sees : SeatPass → Log SchedEntry → SeatPass
pass_sees p log = record p { note = record p.note { seen = log } }

-- the pass has seen the whole list, and nothing else has changed
pub record PassSaw (cell new : CellState) (pass after : SeatPass) : Type 0 where
  pub before : IsNoteOf cell.journal.log pass.note.maker pass.note.seen
  pub same : new ≡ cell
  pub after_is : after ≡ pass_sees pass cell.journal.log

-- why a finish was refused by the scheduler's cell, and what then holds of the pass
abbrev pub FinishRefused : CellState → CellState → SeatPass → SeatPass → R.CellRefusal → Type 0
FinishRefused cell new pass after C.Memory = SchedBreaks cell new
FinishRefused cell new pass after (C.Worn stamp) = (stamp ≡ 2 ^ 63) × (stamp ≡ next_stamp pass.clock cell.journal.log)
    × (cell.broken ≡ false) × PassSaw cell new pass after
FinishRefused cell new pass after C.Broken = (new ≡ cell) × (after ≡ pass) × (cell.broken ≡ true)

-- A finish of the pass in a slot, as its seat sees it: the seat's part of the ledger counts one more, and no other
-- pass or part of the seat has changed.
pub record Finished (cell new : CellState) (old after : SeatState) (slot : ℕ) (verdict : FinishVerdict) : Type 0 where
  pub pass : SeatPass
  pub done : SeatPass
  pub there : slice_get old.passes slot ≡ Some pass
  pub finished : PassFinished cell new pass done verdict
  pub after_is : after ≡ record old {
    amount = old.amount + 1;
    passes = slice_set old.passes slot done;
  }

-- the stamp of the finish of the pass in a slot would be 2^63; its note has seen the whole list, and nothing else
-- has changed
pub record FinishWorn (cell new : CellState) (old after : SeatState) (slot stamp : ℕ) : Type 0 where
  pub pass : SeatPass
  pub there : slice_get old.passes slot ≡ Some pass
  pub stamp_is : stamp ≡ next_stamp pass.clock cell.journal.log
  pub worn : stamp ≡ 2 ^ 63
  pub before : IsNoteOf cell.journal.log pass.note.maker pass.note.seen
  pub same : new ≡ cell
  pub after_is : after ≡ record old { passes = slice_set old.passes slot (pass_sees pass cell.journal.log) }

-- why a finish was refused by the scheduler's cell, and what then holds of the seat
abbrev pub SeatFinishRefused : CellState → CellState → SeatState → SeatState → ℕ → R.CellRefusal → Type 0
SeatFinishRefused cell new old after slot C.Memory = SchedBreaks cell new × Tears old after
SeatFinishRefused cell new old after slot (C.Worn stamp) =
    (cell.broken ≡ false) × FinishWorn cell new old after slot stamp
SeatFinishRefused cell new old after slot C.Broken = (new ≡ cell) × (after ≡ old) × (cell.broken ≡ true)

-- why a finish was refused at the scheduler's desk, and what then holds of the seat
abbrev pub FinishRefusedBy : CellState → CellState → SeatState → SeatState → ℕ → E.EngineRefusal → Type 0
FinishRefusedBy cell new old after slot (X.GivenUp by) =
    (new ≡ cell) × (after ≡ sees_quit old by) × (cell.broken ≡ true)
FinishRefusedBy cell new old after slot X.Memory = SchedBreaks cell new × Tears old after
FinishRefusedBy cell new old after slot (X.Worn stamp) =
    (cell.broken ≡ false) × FinishWorn cell new old after slot stamp

-- Whether the run goes on: the seat has then seen the whole list, and the answer is that of the machine at its end.
pub record Stands (cell : CellState) (old new : SeatState) (answer : S.Standing) : Type 0 where
  pub whole : cell.broken ≡ false
  pub run : IsRun cell.setting (log_events cell.journal.log) cell.machine
  pub before : IsNoteOf cell.journal.log old.number old.note.seen
  pub stands : StandsAs cell.setting cell.machine answer
  pub new_is : new ≡ sees_sched old cell.journal.log

-- it was refused because the cell is broken, and the seat has seen who gave up
abbrev pub StandingRefusedBy : CellState → SeatState → SeatState → E.EngineRefusal → Type 0
StandingRefusedBy cell old new (X.GivenUp by) = (new ≡ sees_quit old by) × (cell.broken ≡ true)
StandingRefusedBy cell old new X.Memory = ⊥
StandingRefusedBy cell old new (X.Worn stamp) = ⊥
