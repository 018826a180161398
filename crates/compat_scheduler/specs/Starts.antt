-- How a pass starts.
use Rattle.std.specs.Prelude.{◌≡◌, ◌≢◌, ℕ, ◌+◌, ◌*◌, ◌<◌, ◌↔◌, Bool, false, IsTrue, List, length}
use Rattle.seuss_base.specs.Levels.{IsAtLeast}
use Rattle.seuss_base.specs.declared.level.Level.{Level}
use Rattle.seuss_base.specs.declared.level.Level.TheVariants.{Never, Loose, Firm}
use Rattle.compat_scheduler.specs.declared.slot.Slot.{Slot}
use Rattle.compat_scheduler.specs.declared.slot.Slot.TheVariants.{Pending, Running, Ended}
use Rattle.compat_scheduler.specs.declared.ticket.Ticket.{Ticket}
use Rattle.compat_scheduler.specs.Settings.{Setting, copies, action_of, beside}
use Rattle.compat_scheduler.specs.Machines.{Machine, slot_at, slot_of}

-- slot i in mode x may run beside slot j, by the levels of both, each in its mode
abbrev pub IsAllowedBeside : Setting → ℕ → Level → ℕ → Slot → Type 0
IsAllowedBeside s i x j (Running pass y clean) = IsAtLeast (beside s i j) x × IsAtLeast (beside s j i) y
IsAllowedBeside s i x j (Pending y) = Unit {0}
IsAllowedBeside s i x j Ended = Unit {0}

-- slot i is pending in mode x, and may run beside each slot that runs
pub record MayStart (s : Setting) (slots : List Slot) (i : ℕ) (x : Level) : Type 0 where
  pub pending : slot_at slots i ≡ Pending x
  pub allowed : (j : ℕ) → IsAllowedBeside s i x j (slot_at slots j)

-- slot i may start in mode x, and is the first by number that may start
pub record IsFirst (s : Setting) (slots : List Slot) (i : ℕ) (x : Level) : Type 0 where
  pub may : MayStart s slots i x
  pub first : (j : ℕ) (y : Level) → j < i → ¬ MayStart s slots j y

-- the ticket of the next start, which is that of the first slot that may start
pub record IsNext (s : Setting) (m : Machine) (t : Ticket) : Type 0 where
  pub going : m.stopped ≡ false
  pub left : m.round < s.rounds
  pub first : IsFirst s m.slots (slot_of s t) t.mode
  pub pass : t.pass ≡ m.starts
  pub attempt : t.attempt ≡ m.round * copies s + slot_of s t
  pub action : t.action ≡ action_of s (slot_of s t)

-- no pass can start
abbrev pub NoneStarts : Setting → Machine → Type 0
NoneStarts s m = (t : Ticket) → ¬ IsNext s m t

-- a pass that runs there is firm-safe, where this is the level
abbrev pub IsFirmBeside : Level → Slot → Type 0
IsFirmBeside level (Running pass mode clean) = level ≡ Firm
IsFirmBeside level (Pending mode) = Unit {0}
IsFirmBeside level Ended = Unit {0}

-- slot i is firm-safe beside each slot that runs
abbrev pub IsFirmBesideAll : Setting → List Slot → ℕ → Type 0
IsFirmBesideAll s slots i = (j : ℕ) → IsFirmBeside (beside s i j) (slot_at slots j)

-- a slot with its flag down, where a pass runs there
abbrev pub flag_down : Slot → Slot
flag_down (Running pass mode clean) = Running pass mode false
flag_down (Pending mode) = Pending mode
flag_down Ended = Ended

-- a slot beside a newcomer: its flag goes down where its level beside the newcomer isn't firm
abbrev pub lowered : Level → Slot → Slot
lowered Never slot = flag_down slot
lowered Loose slot = flag_down slot
lowered Firm slot = slot

-- the slots after slot i has started, with this pass number and mode
pub record RunsFrom (s : Setting) (old : List Slot) (i pass : ℕ) (mode : Level)
    (new : List Slot) : Type 0 where
  pub clean : Bool
  pub flag : IsTrue clean ↔ IsFirmBesideAll s old i
  pub here : slot_at new i ≡ Running pass mode clean
  pub others : (j : ℕ) → j ≢ i → slot_at new j ≡ lowered (beside s j i) (slot_at old j)
  pub many : length new ≡ length old

-- a start: the next pass runs, and the others' flags go down where they aren't firm-safe beside it
pub record Starts (s : Setting) (old : Machine) (t : Ticket) (new : Machine) : Type 0 where
  pub next : IsNext s old t
  pub slots : RunsFrom s old.slots (slot_of s t) t.pass t.mode new.slots
  pub starts : new.starts ≡ old.starts + 1
  pub round : new.round ≡ old.round
  pub stopped : new.stopped ≡ old.stopped
