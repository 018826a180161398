-- How many slots bar a slot, before and after a start and a finish.
use Rattle.std.proofs.Common.{◌≡◌, ℕ, ◌+◌, ◌<◌, ◌≤◌, Bool, true, false, ◌||◌, cond, List}
use Rattle.std.proofs.Common.{length, refl, sym, ap, ◌∙◌, subst, ⊎_elim, arith}
use Rattle.std.specs.Prelude.{nat_lt}
use Rattle.std.specs.List.{range_with_len, count_by, slice_set}
use Rattle.std.proofs.lemmas.Bool.{cases_lt}
use Rattle.std.proofs.lemmas.Bool.Decides.{nat_tests}
use Rattle.std.proofs.lemmas.List.{get_or-set_same, get_or-set_other, length-set}
use Rattle.std.proofs.lemmas.List.Sums.{count_by-le-length}
use Rattle.std.proofs.lemmas.List.FromFn.{length-range_with_len}
use Rattle.seuss_base.specs.Levels.{rank}
use Rattle.seuss_base.specs.declared.level.Level.{Level}
use Rattle.seuss_base.specs.declared.level.Level.TheVariants.{Never, Loose, Firm}
use Rattle.compat_scheduler.specs.declared.slot.Slot.{Slot}
use Rattle.compat_scheduler.specs.declared.slot.Slot.TheVariants.{Pending, Running, Ended}
use Rattle.compat_scheduler.specs.Settings.{Setting, beside}
use Rattle.compat_scheduler.specs.Machines.{slot_at, is_running}
use Rattle.compat_scheduler.specs.Starts.{IsAllowedBeside, RunsFrom, lowered}
use Rattle.compat_scheduler.specs.Bars.{is_barred_beside, barring_count}
use Rattle.compat_scheduler.specs.Counts.{conflict}
use Rattle.compat_scheduler.proofs.SlotLemmas.{slot_at_past}
use Rattle.compat_scheduler.proofs.RangeSums.{range_sum_changed, range_sum_least}
use Rattle.compat_scheduler.proofs.RangeSums.{range_sum_none}

-- neither of two numbers is below its bound
neither_below : (a b c d : ℕ) → (nat_lt a b || nat_lt c d) ≡ false → (b ≤ a) × (d ≤ c)
neither_below a b c d e = (grind (arith, nat_tests, e), grind (arith, nat_tests, e))

-- the test that one of them is
both_above : (a b c d : ℕ) → b ≤ a → d ≤ c → (nat_lt a b || nat_lt c d) ≡ false
both_above a b c d p q = grind (arith, nat_tests, p, q)

-- a slot that isn't barred beside another one is allowed beside it
pub allowed_where_free : (s : Setting) (i : ℕ) (x : Level) (j : ℕ) (slot : Slot) →
    is_barred_beside s i x j slot ≡ false → IsAllowedBeside s i x j slot
allowed_where_free s i x j Ended e = tt
allowed_where_free s i x j (Pending y) e = tt
allowed_where_free s i x j (Running pass y clean) e =
    neither_below (rank (beside s i j)) (rank x) (rank (beside s j i)) (rank y) e

-- and the other way round
pub free_where_allowed : (s : Setting) (i : ℕ) (x : Level) (j : ℕ) (slot : Slot) →
    IsAllowedBeside s i x j slot → is_barred_beside s i x j slot ≡ false
free_where_allowed s i x j Ended h = refl
free_where_allowed s i x j (Pending y) h = refl
free_where_allowed s i x j (Running pass y clean) h =
    both_above (rank (beside s i j)) (rank x) (rank (beside s j i)) (rank y) h.0 h.1

-- 1 where a test holds
abbrev bit : Bool → ℕ
bit b = cond b 1 0

-- 1 where slot j bars slot i in mode x
abbrev bar : Setting → List Slot → ℕ → Level → ℕ → ℕ
bar s slots i x j = bit (is_barred_beside s i x j (slot_at slots j))

-- where it is 0 the test fails
bit_down : (b : Bool) → bit b ≡ 0 → b ≡ false
bit_down false e = refl
bit_down true e = absurd (omega (arith, e))

-- where none is counted slot i is allowed beside each
pub allowed_of_none : (s : Setting) (slots : List Slot) (i : ℕ) (x : Level) → barring_count s slots i x ≡ 0 →
    (j : ℕ) → IsAllowedBeside s i x j (slot_at slots j)
allowed_of_none s slots i x none j =
    ⊎_elim
    (λ (h : j < length slots).
    let least : bar s slots i x j ≤ barring_count s slots i x =
    range_sum_least (bar s slots i x) (length slots) j h in
    allowed_where_free s i x j (slot_at slots j) (bit_down (is_barred_beside s i x j (slot_at slots j))
    (omega (arith, none, least))))
    (λ (h : length slots ≤ j). subst (IsAllowedBeside s i x j) (sym (slot_at_past slots j h)) tt)
    (cases_lt j (length slots))

-- where slot i is allowed beside each none is counted
pub none_of_allowed : (s : Setting) (slots : List Slot) (i : ℕ) (x : Level) →
    ((j : ℕ) → IsAllowedBeside s i x j (slot_at slots j)) → barring_count s slots i x ≡ 0
none_of_allowed s slots i x allowed =
    range_sum_none (bar s slots i x) (length slots) (λ j h.
    ap bit (free_where_allowed s i x j (slot_at slots j) (allowed j)))

-- a slot that doesn't run bars none
pub idle_bars_none : (s : Setting) (i : ℕ) (x : Level) (j : ℕ) (slot : Slot) → is_running slot ≡ false →
    is_barred_beside s i x j slot ≡ false
idle_bars_none s i x j Ended e = refl
idle_bars_none s i x j (Pending y) e = refl
idle_bars_none s i x j (Running pass y clean) e = absurd (cc)

-- where nothing runs none is counted
pub none_where_idle : (s : Setting) (slots : List Slot) (i : ℕ) (x : Level) →
    ((j : ℕ) → is_running (slot_at slots j) ≡ false) → barring_count s slots i x ≡ 0
none_where_idle s slots i x idle =
    range_sum_none (bar s slots i x) (length slots) (λ j h.
    ap bit (idle_bars_none s i x j (slot_at slots j) (idle j)))

-- a newcomer leaves each other slot barring what it bars
barred-lowered : (s : Setting) (i : ℕ) (x : Level) (j : ℕ) (level : Level) (slot : Slot) →
    is_barred_beside s i x j (lowered level slot) ≡ is_barred_beside s i x j slot
barred-lowered s i x j Firm slot = refl
barred-lowered s i x j Never Ended = refl
barred-lowered s i x j Never (Pending y) = refl
barred-lowered s i x j Never (Running pass y clean) = refl
barred-lowered s i x j Loose Ended = refl
barred-lowered s i x j Loose (Pending y) = refl
barred-lowered s i x j Loose (Running pass y clean) = refl

-- a newcomer is counted where it conflicts
pub count_of_newcomer : (s : Setting) (old new : List Slot) (j pass : ℕ) (y : Level) → j < length old →
    is_running (slot_at old j) ≡ false → RunsFrom s old j pass y new → (i : ℕ) (x : Level) →
    barring_count s new i x ≡ barring_count s old i x + conflict s i x j y
count_of_newcomer s old new j pass y within idle runs i x =
    let before : bar s old i x j ≡ 0 =
    ap bit (idle_bars_none s i x j (slot_at old j) idle) in
    let after : bar s new i x j ≡ conflict s i x j y =
    ap (λ (slot : Slot). bit (is_barred_beside s i x j slot)) runs.here in
    let changed = range_sum_changed (bar s old i x) (bar s new i x) (length old) j within
    (λ k h differ. ap bit
    (ap (is_barred_beside s i x k) (runs.others k differ)
    ∙ barred-lowered s i x k (beside s k j) (slot_at old k))) in
    let long : barring_count s new i x ≡ count_by (λ k. is_barred_beside s i x k (slot_at new k))
    (range_with_len 0 (length old)) = ap (λ n. count_by (λ k. is_barred_beside s i x k (slot_at new k))
    (range_with_len 0 n)) runs.many in
    omega (arith, before, after, changed, long)

-- a slot that runs no more is counted no more
pub count_of_leaver : (s : Setting) (old : List Slot) (j pass : ℕ) (y : Level) (clean : Bool) (slot : Slot) →
    j < length old → slot_at old j ≡ Running pass y clean → is_running slot ≡ false → (i : ℕ) (x : Level) →
    barring_count s old i x ≡ barring_count s (slice_set old j slot) i x + conflict s i x j y
count_of_leaver s old j pass y clean slot within runs idle i x =
    let new : List Slot = slice_set old j slot in
    let before : bar s old i x j ≡ conflict s i x j y =
    ap (λ (z : Slot). bit (is_barred_beside s i x j z)) runs in
    let after : bar s new i x j ≡ 0 =
    ap bit (ap (is_barred_beside s i x j) (get_or-set_same old j slot Ended within)
    ∙ idle_bars_none s i x j slot idle) in
    let changed = range_sum_changed (bar s old i x) (bar s new i x) (length old) j within
    (λ k h differ. ap (λ (z : Slot). bit (is_barred_beside s i x k z))
    (get_or-set_other old j k slot Ended differ)) in
    let long : barring_count s new i x ≡ count_by (λ k. is_barred_beside s i x k (slot_at new k))
    (range_with_len 0 (length old)) = ap (λ n. count_by (λ k. is_barred_beside s i x k (slot_at new k))
    (range_with_len 0 n)) (length-set old j slot) in
    omega (arith, before, after, changed, long)

-- no more are counted than there are slots
pub count_within : (s : Setting) (slots : List Slot) (i : ℕ) (x : Level) →
    barring_count s slots i x ≤ length slots
count_within s slots i x =
    omega (
      arith,
      count_by-le-length (λ j. is_barred_beside s i x j (slot_at slots j)) (range_with_len 0 (length slots)),
      length-range_with_len 0 (length slots),
    )
