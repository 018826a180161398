-- How a pass finishes.
use Rattle.std.specs.Prelude.{◌≡◌, ℕ, ◌+◌, Bool, true, false, ◌&&◌, ◌||◌, not, slice_set, if◌then◌else◌}
use Rattle.std.specs.List.{list_all}
use Rattle.seuss_base.specs.declared.level.Level.TheVariants.{Firm}
use Rattle.seuss_base.specs.declared.outcome.PassEnd.{PassEnd}
use Rattle.seuss_base.specs.declared.outcome.PassEnd.TheVariants.{Accepted, PlainRejected, Rejected}
use Rattle.seuss_base.specs.declared.outcome.PassEnd.TheVariants.{Trapped, Spent}
use Rattle.compat_scheduler.specs.declared.slot.Slot.{Slot}
use Rattle.compat_scheduler.specs.declared.slot.Slot.TheVariants.{Pending, Running, Ended}
use Rattle.compat_scheduler.specs.declared.ticket.Ticket.{Ticket}
use Rattle.compat_scheduler.specs.declared.ticket.FinishVerdict.{FinishVerdict}
use Rattle.compat_scheduler.specs.declared.ticket.FinishVerdict.TheVariants.{Kept, Void}
use Rattle.compat_scheduler.specs.Settings.{Setting}
use Rattle.compat_scheduler.specs.Machines.{Machine, round_begun, slot_of, IsRunning}

-- a pass is void exactly where it was plainly rejected and its flag is down
abbrev pub verdict_on : Bool → PassEnd → FinishVerdict
verdict_on false PlainRejected = Void
verdict_on true PlainRejected = Kept
verdict_on clean Accepted = Kept
verdict_on clean Rejected = Kept
verdict_on clean (Trapped trap) = Kept
verdict_on clean Spent = Kept

-- an attempt whose pass is void is pending again, in mode firm; any other has ended
abbrev pub slot_after : FinishVerdict → Slot
slot_after Void = Pending Firm
slot_after Kept = Ended

-- a pass that ends so stops the machine
abbrev pub stops : PassEnd → Bool
stops Accepted = false
stops PlainRejected = false
stops Rejected = false
stops (Trapped trap) = true
stops Spent = true

-- an attempt has ended in this slot
abbrev pub is_ended : Slot → Bool
is_ended (Pending mode) = false
is_ended (Running pass mode clean) = false
is_ended Ended = true

-- where all slots have ended and the machine hasn't stopped, the round is done and the next one begins
abbrev pub settled : Setting → Machine → Machine
settled s m = if list_all is_ended m.slots && not m.stopped then round_begun s (m.round + 1) m.starts else m

-- the pass of slot i is over
abbrev pub slot_finished : Machine → ℕ → PassEnd → FinishVerdict → Machine
slot_finished m i end verdict =
    record {
      round = m.round;
      starts = m.starts;
      stopped = m.stopped || stops end;
      slots =
          slice_set m.slots i (slot_after verdict);
    }

-- the verdict on a running pass that ends so
pub record IsVerdict (s : Setting) (m : Machine) (t : Ticket) (end : PassEnd)
    (verdict : FinishVerdict) : Type 0 where
  pub running : IsRunning s m t
  pub given : verdict ≡ verdict_on running.clean end

-- a finish: a running pass ends so, with this verdict
pub record Finishes (s : Setting) (old : Machine) (t : Ticket) (end : PassEnd) (verdict : FinishVerdict)
    (new : Machine) : Type 0 where
  pub judged : IsVerdict s old t end verdict
  pub after : new ≡ settled s (slot_finished old (slot_of s t) end verdict)
