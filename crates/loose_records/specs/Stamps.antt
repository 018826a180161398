-- How high the stamps of a record are.
use Rattle.std.specs.Prelude.{◌≡◌, ◌≤◌, ◌<◌, ◌^◌, ◌+◌, ℕ, max, Some, length, slice_get, sum_by, Contains}
use Rattle.loose_records.specs.declared.record.BoxEntry.{BoxEntry}
use Rattle.loose_records.specs.declared.record.SchedEntry.{SchedEntry}
use Rattle.loose_records.specs.declared.record.PassRecord.{PassRecord}
use Rattle.loose_records.specs.declared.record.Record.{Record}
use Rattle.loose_records.specs.Entries.{stamp_of, journal, sched_stamps, box_stamps}
use Rattle.loose_records.specs.Turns.{clock_of, IsClock}

-- how many events a record has
abbrev pub events_in : Record → ℕ
events_in r = length r.sched + sum_by (λ (p : PassRecord). length p.claims) r.passes

-- no stamp of the record is above this number
pub record IsLow (r : Record) (high : ℕ) : Type 0 where
  pub times : (k : ℕ) (x : SchedEntry) → slice_get r.sched k ≡ Some x → stamp_of x ≤ high
  pub stamps : (box k : ℕ) (e : BoxEntry) → slice_get (journal r box) k ≡ Some e → e.stamp ≤ high

-- Stamps are left: the stamp of the next start, and of the next step or finish of any pass, is below 2^63.
pub record HasStampsLeft (r : Record) : Type 0 where
  pub start : 1 + clock_of (sched_stamps r) < 2 ^ 63
  pub step : (pass : PassRecord) (clock box : ℕ) → Contains r.passes pass → IsClock r pass clock →
      1 + max clock (clock_of (box_stamps r box)) < 2 ^ 63
  pub finish : (pass : PassRecord) (clock : ℕ) → Contains r.passes pass → IsClock r pass clock →
      1 + max clock (clock_of (sched_stamps r)) < 2 ^ 63
