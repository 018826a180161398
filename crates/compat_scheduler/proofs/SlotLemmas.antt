-- What holds of each slot of a list.
use Rattle.std.proofs.Common.{◌≡◌, ℕ, ◌+◌, ◌<◌, ◌≤◌, List, length, subst, sym, refl, ⊎_elim, arith}
use Rattle.std.proofs.lemmas.List.{get_or_past}
use Rattle.std.proofs.lemmas.Bool.{cases_eq, cases_lt}
use Rattle.compat_scheduler.specs.declared.slot.Slot.{Slot}
use Rattle.compat_scheduler.specs.declared.slot.Slot.TheVariants.{Pending, Ended}
use Rattle.seuss_base.specs.declared.level.Level.{Level}
use Rattle.seuss_base.specs.declared.level.Level.TheVariants.{Never, Loose, Firm}
use Rattle.compat_scheduler.specs.Settings.{Setting}
use Rattle.compat_scheduler.specs.Machines.{slot_at}
use Rattle.compat_scheduler.specs.Starts.{MayStart, lowered}

-- a slot past the end has ended
pub slot_at_past : (slots : List Slot) (j : ℕ) → length slots ≤ j → slot_at slots j ≡ Ended
slot_at_past slots j past = get_or_past slots j Ended past

-- a slot that has ended has no flag
pub lowered-ended : (level : Level) → lowered level Ended ≡ Ended
lowered-ended Never = refl
lowered-ended Loose = refl
lowered-ended Firm = refl

-- a slot past the end isn't pending
pub pending_past : (slots : List Slot) (j : ℕ) (mode : Level) → length slots ≤ j →
    ¬ (slot_at slots j ≡ Pending mode)
pending_past slots j mode past waits = let ended : slot_at slots j ≡ Ended = slot_at_past slots j past in cc

-- so it may not start
pub none_past : (s : Setting) (slots : List Slot) (j : ℕ) (mode : Level) → length slots ≤ j →
    ¬ MayStart s slots j mode
none_past s slots j mode past may = pending_past slots j mode past may.pending

-- what holds of each slot of the list, and of one that has ended, holds at every number
pub at_each_slot : (P : ℕ → Slot → Type 0) (slots : List Slot) (n : ℕ) → length slots ≤ n → ((j : ℕ) →
    P j Ended) →
    ((j : ℕ) → j < n → P j (slot_at slots j)) → (j : ℕ) → P j (slot_at slots j)
at_each_slot P slots n long ended below j =
    ⊎_elim (λ (h : j < n). below j h)
    (λ (h : n ≤ j). subst (λ (slot : Slot). P j slot) (sym (slot_at_past slots j (omega arith))) (ended j))
    (cases_lt j n)

-- what holds below a number and at it holds below the next
pub one_further : (P : ℕ → Type 0) (n : ℕ) → ((j : ℕ) → j < n → P j) → P n → (j : ℕ) → j < n + 1 → P j
one_further P n below here j h =
    ⊎_elim (λ (e : j ≡ n). subst P (sym e) here) (λ (other : j ≡ n → ⊥). below j (omega arith))
    (cases_eq j n)
