-- The states of the scheduler's machine.
use Rattle.std.specs.Prelude.{◌≡◌, ℕ, ◌+◌, ◌*◌, ◌%◌, ◌==◌, Bool, true, false, List, slice_index_or}
use Rattle.std.specs.Prelude.{replicate, count_by, if◌then◌else◌}
use Rattle.seuss_base.specs.declared.level.Level.{Level}
use Rattle.seuss_base.specs.declared.level.Level.TheVariants.{Loose}
use Rattle.compat_scheduler.specs.declared.slot.Slot.{Slot}
use Rattle.compat_scheduler.specs.declared.slot.Slot.TheVariants.{Pending, Running, Ended}
use Rattle.compat_scheduler.specs.declared.ticket.Ticket.{Ticket}
use Rattle.compat_scheduler.specs.Settings.{Setting, copies, action_of}

-- the number of the round, how many passes were started, whether the machine has stopped, and what
-- each slot of the round is doing
pub record Machine : Type 0 where
  pub round : ℕ
  pub starts : ℕ
  pub stopped : Bool
  pub slots : List Slot

-- a machine with what it is set up with
pub record Scheduler : Type 0 where
  pub setting : Setting
  pub machine : Machine

-- what a slot is doing
abbrev pub slot_at : List Slot → ℕ → Slot
slot_at slots i = slice_index_or slots i Ended

-- a round begins, after so many starts: each slot is pending in mode loose
abbrev pub round_begun : Setting → ℕ → ℕ → Machine
round_begun s round starts =
    record { round = round; starts = starts; stopped = false; slots = replicate (copies s) (Pending Loose) }

-- the machine at its beginning; without slots all rounds are done at once
abbrev pub beginning : Setting → Machine
beginning s = round_begun s (if copies s == 0 then s.rounds else 0) 0

-- no round is left
abbrev pub IsAllDone : Setting → Machine → Type 0
IsAllDone s m = m.round ≡ s.rounds

-- the slot of a ticket
abbrev pub slot_of : Setting → Ticket → ℕ
slot_of s t = t.attempt % copies s

-- the ticket's pass runs, as an attempt of this round, and this is whether its flag is up
pub record IsRunning (s : Setting) (m : Machine) (t : Ticket) : Type 0 where
  pub clean : Bool
  pub slot : slot_at m.slots (slot_of s t) ≡ Running t.pass t.mode clean
  pub attempt : t.attempt ≡ m.round * copies s + slot_of s t
  pub action : t.action ≡ action_of s (slot_of s t)

-- this pass runs in the slot, in this mode
abbrev pub RunsAs : Slot → ℕ → Level → Type 0
RunsAs slot pass mode = (clean : Bool) × (slot ≡ Running pass mode clean)

-- a pass runs in this slot
abbrev pub is_running : Slot → Bool
is_running (Pending mode) = false
is_running (Running pass mode clean) = true
is_running Ended = false

-- how many passes run
abbrev pub running_count : Machine → ℕ
running_count m = count_by is_running m.slots

-- whether a pass runs in this slot with its flag up
abbrev pub flag_of : Slot → Bool
flag_of (Running pass mode clean) = clean
flag_of (Pending mode) = false
flag_of Ended = false
