-- What each machine keeps that comes from the beginning by starts and finishes.
use Rattle.std.specs.Prelude.{◌≡◌, ℕ, ◌+◌, ◌*◌, ◌<◌, ◌≤◌, ◌^◌, true, false, length, sum_by}
use Rattle.std.specs.List.{list_all}
use Rattle.seuss_base.specs.declared.level.Level.TheVariants.{Never, Loose, Firm}
use Rattle.compat_scheduler.specs.declared.slot.Slot.{Slot}
use Rattle.compat_scheduler.specs.declared.slot.Slot.TheVariants.{Pending, Running, Ended}
use Rattle.compat_scheduler.specs.Settings.{Setting, copies}
use Rattle.compat_scheduler.specs.Machines.{Machine, slot_at}
use Rattle.compat_scheduler.specs.Finishes.{is_ended}

-- a mode is loose or firm, and a pass in mode firm has its flag up
abbrev pub IsSoundSlot : Slot → Type 0
IsSoundSlot (Pending Never) = ⊥
IsSoundSlot (Pending Loose) = Unit {0}
IsSoundSlot (Pending Firm) = Unit {0}
IsSoundSlot (Running pass Never clean) = ⊥
IsSoundSlot (Running pass Loose clean) = Unit {0}
IsSoundSlot (Running pass Firm true) = Unit {0}
IsSoundSlot (Running pass Firm false) = ⊥
IsSoundSlot Ended = Unit {0}

-- how many passes of this attempt may have started: an attempt has at most two
abbrev pub passes_within : Slot → ℕ
passes_within (Pending Never) = 0
passes_within (Pending Loose) = 0
passes_within (Pending Firm) = 1
passes_within (Running pass Never clean) = 0
passes_within (Running pass Loose clean) = 1
passes_within (Running pass Firm clean) = 2
passes_within Ended = 2

-- a slot is as its round began
abbrev pub IsFresh : Slot → Type 0
IsFresh slot = slot ≡ Pending Loose

-- the slots, the round, the stop and the count of starts fit one another
pub record IsSoundMachine (s : Setting) (m : Machine) : Type 0 where
  pub many : length m.slots ≡ copies s
  pub lawful : (i : ℕ) → IsSoundSlot (slot_at m.slots i)
  pub within : m.round ≤ s.rounds
  pub over : m.round ≡ s.rounds → (i : ℕ) → i < copies s → IsFresh (slot_at m.slots i)
  pub left : m.stopped ≡ true → m.round < s.rounds
  pub unsettled : m.stopped ≡ false → m.round < s.rounds → list_all is_ended m.slots ≡ false
  pub counted : m.starts ≤ 2 * (m.round * copies s) + sum_by passes_within m.slots

-- a sound machine, in a setting whose attempts and slots fit their types
pub record IsScheduler (s : Setting) (m : Machine) : Type 0 where
  pub sound : IsSoundMachine s m
  pub few : s.rounds * copies s ≤ 10000000
  pub short : copies s < 2 ^ 32
