-- Which slots that run bar a slot that waits, and how many do.
use Rattle.std.specs.Prelude.{◌≡◌, ℕ, ◌||◌, nat_lt, Bool, false, List, length, count_by}
use Rattle.std.specs.List.{range_with_len}
use Rattle.seuss_base.specs.Levels.{rank}
use Rattle.seuss_base.specs.declared.level.Level.{Level}
use Rattle.compat_scheduler.specs.declared.slot.Slot.{Slot}
use Rattle.compat_scheduler.specs.declared.slot.Slot.TheVariants.{Pending, Running, Ended}
use Rattle.compat_scheduler.specs.Settings.{Setting, beside}
use Rattle.compat_scheduler.specs.Machines.{slot_at}

-- slot i is pending, in some mode
abbrev pub IsPending : List Slot → ℕ → Type 0
IsPending slots i = (x : Level) × (slot_at slots i ≡ Pending x)

-- slot i in mode x may not run beside slot j in mode y: the level of one of them is below its mode
abbrev pub is_conflict : Setting → ℕ → Level → ℕ → Level → Bool
is_conflict s i x j y = nat_lt (rank (beside s i j)) (rank x) || nat_lt (rank (beside s j i)) (rank y)

-- a pass runs in slot j, beside which slot i in mode x may not run
abbrev pub is_barred_beside : Setting → ℕ → Level → ℕ → Slot → Bool
is_barred_beside s i x j (Running pass y clean) = is_conflict s i x j y
is_barred_beside s i x j (Pending y) = false
is_barred_beside s i x j Ended = false

-- how many of the slots that run bar slot i in mode x
abbrev pub barring_count : Setting → List Slot → ℕ → Level → ℕ
barring_count s slots i x =
    count_by (λ j. is_barred_beside s i x j (slot_at slots j)) (range_with_len 0 (length slots))
