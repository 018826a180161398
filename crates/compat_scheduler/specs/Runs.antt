-- Runs of the machine, and what the list of their events says.
use Rattle.std.specs.Prelude.{◌≡◌, ℕ, ◌+◌, ◌*◌, ◌/◌, ◌%◌, ◌≤◌, ◌==◌, ◌&&◌, ◌||◌, nat_lt, Bool, false, List}
use Rattle.std.specs.Prelude.{[], ◌∷◌, Contains, if◌then◌else◌}
use Rattle.seuss_base.specs.declared.outcome.PassEnd.{PassEnd}
use Rattle.compat_scheduler.specs.declared.ticket.Ticket.{Ticket}
use Rattle.compat_scheduler.specs.declared.ticket.FinishVerdict.{FinishVerdict}
use Rattle.compat_scheduler.specs.declared.ticket.FinishVerdict.TheVariants.{Kept, Void}
use Rattle.compat_scheduler.specs.Settings.{Setting, copies}
use Rattle.compat_scheduler.specs.Machines.{Machine, slot_at, beginning}
use Rattle.compat_scheduler.specs.Starts.{Starts}
use Rattle.compat_scheduler.specs.Finishes.{Finishes, is_ended, stops}

-- what happens: a pass starts, or a pass finishes with its end and verdict
pub data Event : Type 0 where
  Start : (ticket : Ticket) → Event
  Finish : (ticket : Ticket) (end : PassEnd) (verdict : FinishVerdict) → Event

-- the event leads from one machine to the next
abbrev pub Leads : Setting → Machine → Event → Machine → Type 0
Leads s old (Start t) new = Starts s old t new
Leads s old (Finish t end verdict) new = Finishes s old t end verdict new

-- these events lead, one after another, from one machine to another
abbrev pub Runs : Setting → Machine → List Event → Machine → Type 0
Runs s old [] new = new ≡ old
Runs s old (event ∷ events) new = (mid : Machine) × Leads s old event mid × Runs s mid events new

-- these events lead from the beginning to this machine
abbrev pub IsRun : Setting → List Event → Machine → Type 0
IsRun s events m = Runs s (beginning s) events m

-- the ticket of an event
abbrev pub ticket_of : Event → Ticket
ticket_of (Start t) = t
ticket_of (Finish t end verdict) = t

-- the tickets that were started, in their order
abbrev pub started : List Event → List Ticket
started [] = []
started (Start t ∷ events) = t ∷ started events
started (Finish t end verdict ∷ events) = started events

-- how many passes finished
abbrev pub finishes_in : List Event → ℕ
finishes_in [] = 0
finishes_in (Start t ∷ events) = finishes_in events
finishes_in (Finish t end verdict ∷ events) = 1 + finishes_in events

-- the ticket was started, and hasn't finished
pub record IsOpen (events : List Event) (t : Ticket) : Type 0 where
  pub opened : Contains events (Start t)
  pub unfinished : (end : PassEnd) (verdict : FinishVerdict) → ¬ Contains events (Finish t end verdict)

-- how often the event keeps this attempt: once or never
abbrev pub kept_by : Event → ℕ → ℕ
kept_by (Start t) attempt = 0
kept_by (Finish t end Void) attempt = 0
kept_by (Finish t end Kept) attempt = if t.attempt == attempt then 1 else 0

-- how often these events keep this attempt
abbrev pub times_kept : List Event → ℕ → ℕ
times_kept [] attempt = 0
times_kept (event ∷ events) attempt = kept_by event attempt + times_kept events attempt

-- an attempt has ended: its round is done, or it is of this round and its slot has ended
abbrev pub has_ended : Setting → Machine → ℕ → Bool
has_ended s m attempt =
    nat_lt attempt (m.round * copies s)
    || (nat_lt attempt ((m.round + 1) * copies s) && is_ended (slot_at m.slots (attempt % copies s)))

-- the round of an event
abbrev pub round_of : Setting → Event → ℕ
round_of s event = (ticket_of event).attempt / copies s

-- the rounds of these events never fall, and none is below this one
abbrev pub RoundsRise : Setting → ℕ → List Event → Type 0
RoundsRise s low [] = Unit {0}
RoundsRise s low (event ∷ events) = (low ≤ round_of s event) × RoundsRise s (round_of s event) events

-- the event stops the machine
abbrev pub stops_it : Event → Bool
stops_it (Start t) = false
stops_it (Finish t end verdict) = stops end
