-- The tickets of a run, and how many passes it has.
use Rattle.std.proofs.Common.{◌≡◌, ℕ, ◌+◌, ◌*◌, ◌<◌, ◌≤◌, List, [], ◌∷◌, length, get_or, ap, ◌∙◌, subst}
use Rattle.std.proofs.Common.{⊎_elim, arith}
use Rattle.std.specs.Prelude.{Contains}
use Rattle.std.specs.List.{sum_by}
use Rattle.std.proofs.Math.Nat.{add-mul, mul-le-mul_right}
use Rattle.std.proofs.lemmas.Bool.{cases_eq}
use Rattle.std.proofs.lemmas.List.{get_or_default}
use Rattle.std.proofs.lemmas.List.Sums.{sum_by-le}
use Rattle.seuss_base.specs.declared.level.Level.TheVariants.{Loose}
use Rattle.compat_scheduler.specs.declared.slot.Slot.TheVariants.{Pending, Ended}
use Rattle.compat_scheduler.specs.declared.ticket.Ticket.{Ticket}
use Rattle.compat_scheduler.specs.Settings.{Setting, copies, action_of}
use Rattle.compat_scheduler.specs.Machines.{Machine, slot_of}
use Rattle.compat_scheduler.specs.Soundness.{passes_within, IsSoundMachine}
use Rattle.compat_scheduler.specs.Runs.{Event, Leads, Runs}
use Rattle.compat_scheduler.specs.Runs.Event.{Start}
use Rattle.compat_scheduler.proofs.Memberships.{contains_nothing, contains_cases}
use Rattle.compat_scheduler.proofs.SoundLemmas.{passes_within_most}
use Rattle.compat_scheduler.proofs.RunLemmas.{sound-leads, slot_within}

-- there are at most two passes for each attempt
pub passes_few : (s : Setting) (m : Machine) → IsSoundMachine s m → m.starts ≤ 2 * (s.rounds * copies s)
passes_few s m sound =
    ⊎_elim
    (λ (over : m.round ≡ s.rounds).
    let none : sum_by passes_within m.slots ≤ length m.slots * 0 =
    sum_by-le passes_within 0 m.slots (λ k d h.
    let fresh : get_or m.slots k d ≡ Pending Loose =
    get_or_default m.slots k d Ended h ∙ sound.over over k (omega (arith, h, sound.many)) in
    omega (arith, ap passes_within fresh)) in
    let same : m.round * copies s ≡ s.rounds * copies s = ap (λ (n : ℕ). n * copies s) over in
    omega (arith, sound.counted, none, same))
    (λ (left : m.round ≡ s.rounds → ⊥).
    let most : sum_by passes_within m.slots ≤ length m.slots * 2 =
    sum_by-le passes_within 2 m.slots (λ k d h. passes_within_most (get_or m.slots k d)) in
    let below : m.round < s.rounds = omega (arith, left, sound.within) in
    let rounds : (m.round + 1) * copies s ≤ s.rounds * copies s = mul-le-mul_right (copies s)
    (omega arith) in
    omega (arith, most, rounds, add-mul m.round 1 (copies s), sound.counted, sound.many))
    (cases_eq m.round s.rounds)

-- the ticket of a start is of one of the attempts, and its action is that of its slot
start_ticket : (s : Setting) (old : Machine) (event : Event) (new : Machine) (t : Ticket) →
    IsSoundMachine s old → Leads s old event new →
    event ≡ Start t → (t.attempt < s.rounds * copies s) × (t.action ≡ action_of s (slot_of s t))
start_ticket s old event new t sound leads same =
    let starts : Leads s old (Start t) new = subst (λ (e : Event). Leads s old e new) same leads in
    let below : slot_of s t < copies s = slot_within s old (Start t) new sound starts in
    let rounds : (old.round + 1) * copies s ≤ s.rounds * copies s = mul-le-mul_right (copies s) (omega
    (arith, starts.next.left)) in
    (omega (arith, starts.next.attempt, below, rounds, add-mul old.round 1 (copies s)), starts.next.action)

-- so it is for each start of a run
pub start_tickets : (s : Setting) (events : List Event) (old new : Machine) (t : Ticket) →
    IsSoundMachine s old → Runs s old events new →
    Contains events (Start t) → (t.attempt < s.rounds * copies s) × (t.action ≡ action_of s (slot_of s t))
start_tickets s [] old new t sound run h = absurd (contains_nothing (Start t) h)
start_tickets s (event ∷ events) old new t sound run h =
    ⊎_elim (λ (same : event ≡ Start t). start_ticket s old event run.0 t sound run.1 same)
    (λ (later : Contains events (Start t)).
    start_tickets s events run.0 new t (sound-leads s old event run.0 sound run.1) run.2 later)
    (contains_cases event events (Start t) h)
