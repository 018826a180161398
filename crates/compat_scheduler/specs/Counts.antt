-- The counts that a scheduler keeps: for each slot and mode, how many slots that run bar it.
use Rattle.std.specs.Prelude.{◌≡◌, ℕ, ◌+◌, ◌<◌, ◌≤◌, ◌^◌, if◌then◌else◌, List, length, slice_index_or}
use Rattle.seuss_base.specs.declared.level.Level.{Level}
use Rattle.seuss_base.specs.declared.level.Level.TheVariants.{Never, Loose, Firm}
use Rattle.compat_scheduler.specs.declared.counting.BarCounts.{BarCounts}
use Rattle.compat_scheduler.specs.declared.slot.Slot.{Slot}
use Rattle.compat_scheduler.specs.declared.slot.Slot.TheVariants.{Pending}
use Rattle.compat_scheduler.specs.Settings.{Setting}
use Rattle.compat_scheduler.specs.Machines.{slot_at}
use Rattle.compat_scheduler.specs.Bars.{is_conflict, barring_count}

-- the counts of a slot that nothing bars
abbrev pub no_counts : BarCounts
no_counts = record { loose = 0; firm = 0 }

-- the counts of a slot
abbrev pub counts_at : List BarCounts → ℕ → BarCounts
counts_at counts i = slice_index_or counts i no_counts

-- the count in a mode, which is loose or firm
abbrev pub count_in : Level → BarCounts → ℕ
count_in Never counts = 0
count_in Loose counts = counts.loose
count_in Firm counts = counts.firm

-- 1 where slot i in mode x may not run beside slot j in mode y
abbrev pub conflict : Setting → ℕ → Level → ℕ → Level → ℕ
conflict s i x j y = if is_conflict s i x j y then 1 else 0

-- the counts of slot i, where slot j in mode y runs too
abbrev pub counts_with : Setting → ℕ → ℕ → Level → BarCounts → BarCounts
counts_with s i j y counts = record {
  loose = counts.loose + conflict s i Loose j y;
  firm = counts.firm + conflict s i Firm j y;
}

-- the counts of slot i as the slots give them from scratch
abbrev pub counts_of : Setting → List Slot → ℕ → BarCounts
counts_of s slots i = record { loose = barring_count s slots i Loose; firm = barring_count s slots i Firm }

-- each slot has its counts, which are those that the slots give from scratch
pub record AreCounts (s : Setting) (slots : List Slot) (counts : List BarCounts) : Type 0 where
  pub many : length counts ≡ length slots
  pub right : (i : ℕ) → i < length slots → counts_at counts i ≡ counts_of s slots i

-- these counts fit their type with one more
pub record HasRoom (counts : BarCounts) : Type 0 where
  pub loose : counts.loose + 1 < 2 ^ 32
  pub firm : counts.firm + 1 < 2 ^ 32

-- these counts of slot i count slot j in mode y too
pub record DoCount (s : Setting) (i j : ℕ) (y : Level) (counts : BarCounts) : Type 0 where
  pub loose : conflict s i Loose j y ≤ counts.loose
  pub firm : conflict s i Firm j y ≤ counts.firm

-- a slot is pending in mode x, and is counted to be barred by none
pub record IsFree (slot : Slot) (counts : BarCounts) (x : Level) : Type 0 where
  pub pending : slot ≡ Pending x
  pub none : count_in x counts ≡ 0

-- slot i is free in mode x, and is the first by number that is free
pub record IsFirstFree (slots : List Slot) (counts : List BarCounts) (i : ℕ) (x : Level) : Type 0 where
  pub free : IsFree (slot_at slots i) (counts_at counts i) x
  pub first : (j : ℕ) (y : Level) → j < i → ¬ IsFree (slot_at slots j) (counts_at counts j) y
