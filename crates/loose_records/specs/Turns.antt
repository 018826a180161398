-- Turns of virtual workers: each turn is one start, one step or one finish by its worker, or nothing.
use Rattle.std.specs.Prelude.{◌≡◌, ℕ, ◌+◌, ◌-◌, ◌%◌, max, nat_lt, if◌then◌else◌, List, [], ◌∷◌, map}
use Rattle.std.specs.Prelude.{length, slice_get, slice_set, slice_index_or}
use Rattle.std.specs.Prelude.{replicate, Option, None, Some, Contains}
use Rattle.std.specs.List.{range_with_len}
use Rattle.seuss_base.specs.declared.outcome.PassEnd.{PassEnd}
use Rattle.seuss_program.specs.declared.state.State.{State}
use Rattle.compat_scheduler.specs.declared.ticket.Ticket.{Ticket}
use Rattle.compat_scheduler.specs.declared.ticket.FinishVerdict.{FinishVerdict}
use Rattle.compat_scheduler.specs.Machines.{Machine, beginning}
use Rattle.compat_scheduler.specs.Starts.{Starts, NoneStarts}
use Rattle.compat_scheduler.specs.Finishes.{Finishes}
use Rattle.loose_records.specs.declared.record.BoxEntry.{BoxEntry}
use Rattle.loose_records.specs.declared.record.SchedEntry.TheVariants as S
use Rattle.loose_records.specs.declared.record.PassRecord.{PassRecord}
use Rattle.loose_records.specs.declared.record.Record.{Record}
use Rattle.loose_records.specs.Entries.{claim_stamps, box_stamps, sched_stamps}
use Rattle.loose_records.specs.Settings.{RunSetting}
use Rattle.loose_records.specs.LooseRecords.{IsOver}
use Rattle.loose_records.specs.Growing.{Status, empty_record, AddsStart, AddsStep, AddsFinish}

-- the highest of these stamps, or 0 where there is none: the clock of a pass, a box or the scheduler
abbrev pub clock_of : List ℕ → ℕ
clock_of [] = 0
clock_of (stamp ∷ stamps) = max stamp (clock_of stamps)

-- a run by turns: its record, its machine, and the pass that each worker has
pub record Turning : Type 0 where
  pub made : Record
  pub statuses : List Status
  pub machine : Machine
  pub holds : List (Option ℕ)

-- the clock of a pass, which has started
abbrev pub IsClock : Record → PassRecord → ℕ → Type 0
IsClock r pass clock = (start : ℕ) × Contains r.sched (S.Start pass.ticket start)
    × (clock ≡ clock_of (start ∷ claim_stamps pass))

-- A turn of a worker. Without a pass it waits where nothing may start, and else begins one; it makes one
-- step of a pass that isn't over, and finishes one that is. Each of these events takes the stamp after the
-- clock of its pass and that of its box, or of the scheduler.
pub data IsTurn (s : RunSetting) (worker : ℕ) (old new : Turning) : Type 0 where
  Waits : slice_get old.holds worker ≡ Some None → NoneStarts s.scheduler old.machine → new ≡ old →
      IsTurn s worker old new
  Begins : slice_get old.holds worker ≡ Some None → (t : Ticket) (stamp : ℕ) →
      Starts s.scheduler old.machine t new.machine →
      AddsStart s old.made old.statuses t stamp new.made new.statuses →
      stamp ≡ 1 + clock_of (sched_stamps old.made) →
      new.holds ≡ slice_set old.holds worker (Some (length old.made.passes)) → IsTurn s worker old new
  Moves : (i : ℕ) → slice_get old.holds worker ≡ Some (Some i) → (e : BoxEntry) →
      (adds : AddsStep s old.made old.statuses i e new.made new.statuses) → (clock : ℕ) →
      IsClock old.made adds.pass clock →
      e.stamp ≡ 1 + max clock (clock_of (box_stamps old.made adds.at.box_number)) →
      new.machine ≡ old.machine → new.holds ≡ old.holds → IsTurn s worker old new
  Ends : (i : ℕ) → slice_get old.holds worker ≡ Some (Some i) → (t : Ticket) (end : PassEnd)
      (verdict : FinishVerdict) (stamp : ℕ) → Finishes s.scheduler old.machine t end verdict new.machine →
      (adds : AddsFinish s old.made old.statuses i t end verdict stamp new.made new.statuses) →
      (clock : ℕ) → IsClock old.made adds.pass clock →
      stamp ≡ 1 + max clock (clock_of (sched_stamps old.made)) →
      new.holds ≡ slice_set old.holds worker None → IsTurn s worker old new

-- turns of these workers, one after another; none is made once the machine is over
abbrev pub AreTurns : RunSetting → List ℕ → Turning → Turning → Type 0
AreTurns s [] old new = new ≡ old
AreTurns s (worker ∷ workers) old new =
    (¬ IsOver s old.machine) × ((mid : Turning) × IsTurn s worker old mid × AreTurns s workers mid new)

-- the run at its beginning
abbrev pub turning_begun : RunSetting → State → ℕ → Turning
turning_begun s state width = record {
  made = empty_record state;
  statuses = [];
  machine = beginning s.scheduler;
  holds = replicate width None;
}

-- the worker of a turn: by the digits, and then in turn
abbrev pub worker_of : ℕ → List ℕ → ℕ → ℕ
worker_of width digits turn =
    if nat_lt turn (length digits) then slice_index_or digits turn 0 else (turn - length digits) % width

-- the record of the turns of so many workers, the first ones by these digits
pub record IsRecordOfTurns (s : RunSetting) (state : State) (width : ℕ) (digits : List ℕ)
    (r : Record) : Type 0 where
  pub turns : ℕ
  pub end : Turning
  pub made : AreTurns s (map (worker_of width digits) (range_with_len 0 turns))
      (turning_begun s state width) end
  pub over : IsOver s end.machine
  pub is : r ≡ end.made
