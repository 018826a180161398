-- What each event of a run does, and what whole runs keep.
use Rattle.std.proofs.Common.{◌≡◌, ℕ, ◌+◌, ◌*◌, ◌/◌, ◌<◌, ◌≤◌, Bool, true, false, ◌&&◌, ◌||◌, not, List, []}
use Rattle.std.proofs.Common.{◌∷◌, ◌++◌, length, map, refl, sym, ap, ◌∙◌, subst, ◌⊎◌, inl, inr, ⊎_elim}
use Rattle.std.proofs.Common.{arith}
use Rattle.std.specs.List.{range_with_len, list_all, list_any}
use Rattle.std.proofs.lemmas.Nat.{div-mul-add}
use Rattle.compat_scheduler.specs.declared.ticket.Ticket.{Ticket}
use Rattle.compat_scheduler.specs.Settings.{Setting, copies}
use Rattle.compat_scheduler.specs.Machines.{Machine, slot_of, round_begun, beginning}
use Rattle.seuss_base.specs.declared.outcome.PassEnd.{PassEnd}
use Rattle.compat_scheduler.specs.declared.ticket.FinishVerdict.{FinishVerdict}
use Rattle.compat_scheduler.specs.Finishes.{Finishes, is_ended, stops, settled, slot_finished}
use Rattle.compat_scheduler.specs.Soundness.{IsSoundMachine}
use Rattle.compat_scheduler.specs.Runs.{Event, Leads, Runs, IsRun, started, ticket_of, round_of, RoundsRise}
use Rattle.compat_scheduler.specs.Runs.{stops_it}
use Rattle.compat_scheduler.specs.Runs.Event.{Start, Finish}
use Rattle.compat_scheduler.proofs.SchedulerLemmas.{second_fails}
use Rattle.compat_scheduler.proofs.SoundLemmas.{sound-starts, sound-finishes, within_slots}

-- a machine stays sound
pub sound-leads : (s : Setting) (old : Machine) (event : Event) (new : Machine) → IsSoundMachine s old →
    Leads s old event new → IsSoundMachine s new
sound-leads s old (Start t) new sound leads = sound-starts s old t new sound leads
sound-leads s old (Finish t end verdict) new sound leads =
    subst (IsSoundMachine s) (sym leads.after) (sound-finishes s old t end verdict sound leads.judged)

pub sound-runs : (s : Setting) (events : List Event) (old new : Machine) → IsSoundMachine s old →
    Runs s old events new → IsSoundMachine s new
sound-runs s [] old new sound run = subst (IsSoundMachine s) (sym run) sound
sound-runs s (event ∷ events) old new sound run =
    sound-runs s events run.0 new (sound-leads s old event run.0 sound run.1) run.2

-- a round is settled or goes on
pub settled_either : (s : Setting) (m : Machine) →
    (((list_all is_ended m.slots && not m.stopped) ≡ true) × (settled s m ≡ round_begun s
    (m.round + 1) m.starts))
    ⊎ (((list_all is_ended m.slots && not m.stopped) ≡ false) × (settled s m ≡ m))
settled_either s m = by_test (list_all is_ended m.slots && not m.stopped) refl where
  by_test : (b : Bool) → (list_all is_ended m.slots && not m.stopped) ≡ b →
      (((list_all is_ended m.slots && not m.stopped) ≡ true) × (settled s m ≡ round_begun s
      (m.round + 1) m.starts))
      ⊎ (((list_all is_ended m.slots && not m.stopped) ≡ false) × (settled s m ≡ m))
  by_test true e = inl (e, rw e refl)
  by_test false e = inr (e, rw e refl)

-- settling keeps the count of starts
starts-settled : (s : Setting) (m : Machine) → (settled s m).starts ≡ m.starts
starts-settled s m =
    ⊎_elim (λ (h : ((list_all is_ended m.slots && not m.stopped) ≡ true) × (settled s m ≡ round_begun s
    (m.round + 1) m.starts)).
    ap (λ (k : Machine). k.starts) h.1)
    (λ (h : ((list_all is_ended m.slots && not m.stopped) ≡ false) × (settled s m ≡ m)). ap (λ
    (k : Machine). k.starts) h.1) (settled_either s m)

-- a finish keeps the count of starts
pub starts-finishes : (s : Setting) (old : Machine) (t : Ticket) (end : PassEnd) (verdict : FinishVerdict)
    (new : Machine) → Finishes s old t end verdict new → new.starts ≡ old.starts
starts-finishes s old t end verdict new finishes =
    ap (λ (k : Machine). k.starts) finishes.after
    ∙ starts-settled s (slot_finished old (slot_of s t) end verdict)

-- settling never lowers the round
pub round-settled : (s : Setting) (m : Machine) → m.round ≤ (settled s m).round
round-settled s m =
    ⊎_elim (λ (h : ((list_all is_ended m.slots && not m.stopped) ≡ true) × (settled s m ≡ round_begun s
    (m.round + 1) m.starts)).
    omega (arith, ap (λ (k : Machine). k.round) h.1))
    (λ (h : ((list_all is_ended m.slots && not m.stopped) ≡ false) × (settled s m ≡ m)). omega (
      arith,
      ap (λ (k : Machine). k.round) h.1,
    )) (settled_either s m)

-- settling keeps the stop
pub stopped-settled : (s : Setting) (m : Machine) → (settled s m).stopped ≡ m.stopped
stopped-settled s m =
    ⊎_elim (λ (h : ((list_all is_ended m.slots && not m.stopped) ≡ true) × (settled s m ≡ round_begun s
    (m.round + 1) m.starts)).
    ap (λ (k : Machine). k.stopped) h.1 ∙ sym (second_fails (list_all is_ended m.slots) m.stopped h.0))
    (λ (h : ((list_all is_ended m.slots && not m.stopped) ≡ false) × (settled s m ≡ m)). ap (λ
    (k : Machine). k.stopped) h.1) (settled_either s m)

-- a machine that has stopped stays in its round
pub round-settled_stopped : (s : Setting) (m : Machine) → m.stopped ≡ true → (settled s m).round ≡ m.round
round-settled_stopped s m stopped =
    ⊎_elim (λ (h : ((list_all is_ended m.slots && not m.stopped) ≡ true) × (settled s m ≡ round_begun s
    (m.round + 1) m.starts)).
    absurd (let going : m.stopped ≡ false = second_fails (list_all is_ended m.slots) m.stopped h.0 in cc))
    (λ (h : ((list_all is_ended m.slots && not m.stopped) ≡ false) × (settled s m ≡ m)). ap (λ
    (k : Machine). k.round) h.1) (settled_either s m)

-- an event never lowers the round
round-leads : (s : Setting) (old : Machine) (event : Event) (new : Machine) → Leads s old event new →
    old.round ≤ new.round
round-leads s old (Start t) new leads = omega (arith, leads.round)
round-leads s old (Finish t end verdict) new leads =
    omega (
      arith,
      ap (λ (k : Machine). k.round) leads.after,
      round-settled s (slot_finished old
          (slot_of s t) end verdict),
    )

-- a pass number for each start
pub numbered_runs : (s : Setting) (events : List Event) (old new : Machine) → Runs s old events new →
    (new.starts ≡ old.starts + length (started events))
    × (map (λ (t : Ticket). t.pass) (started events) ≡ range_with_len old.starts (length (started events)))
numbered_runs s [] old new run = (omega (arith, ap (λ (m : Machine). m.starts) run), refl)
numbered_runs s (Start t ∷ events) old new run =
    let rest : (new.starts ≡ run.0.starts + length (started events))
    × (map (λ (u : Ticket). u.pass) (started events) ≡ range_with_len run.0.starts (length
    (started events))) =
    numbered_runs s events run.0 new run.2 in
    let first : t.pass ≡ old.starts = run.1.next.pass in
    let next : run.0.starts ≡ old.starts + 1 = run.1.starts in
    (omega arith, rw (first, rest.1, next) refl)
numbered_runs s (Finish t end verdict ∷ events) old new run =
    let rest : (new.starts ≡ run.0.starts + length (started events))
    × (map (λ (u : Ticket). u.pass) (started events) ≡ range_with_len run.0.starts (length
    (started events))) =
    numbered_runs s events run.0 new run.2 in
    let same : run.0.starts ≡ old.starts = starts-finishes s old t end verdict run.0 run.1 in
    (omega arith, rest.1 ∙ ap (λ (n : ℕ). range_with_len n (length (started events))) same)

-- from the beginning passes are numbered from 0
pub numbered : (s : Setting) (events : List Event) (m : Machine) → IsRun s events m →
    map (λ (t : Ticket). t.pass) (started events) ≡ range_with_len 0 m.starts
numbered s events m run =
    let all : (m.starts ≡ 0 + length (started events))
    × (map (λ (t : Ticket). t.pass) (started events) ≡ range_with_len 0 (length (started events))) =
    numbered_runs s events (beginning s) m run in
    all.1 ∙ ap (range_with_len 0) (omega arith)

-- the slot of an event is one of the slots
pub slot_within : (s : Setting) (old : Machine) (event : Event) (new : Machine) → IsSoundMachine s old →
    Leads s old event new →
    slot_of s (ticket_of event) < copies s
slot_within s old (Start t) new sound leads =
    omega (
      arith,
      sound.many,
      within_slots old.slots (slot_of s t)
          (ap is_ended leads.next.first.may.pending),
    )
slot_within s old (Finish t end verdict) new sound leads =
    omega (arith, sound.many, within_slots old.slots (slot_of s t) (ap is_ended leads.judged.running.slot))

attempt_of_event : (s : Setting) (old : Machine) (event : Event) (new : Machine) → Leads s old event new →
    (ticket_of event).attempt ≡ old.round * copies s + slot_of s (ticket_of event)
attempt_of_event s old (Start t) new leads = leads.next.attempt
attempt_of_event s old (Finish t end verdict) new leads = leads.judged.running.attempt

-- an event is of the machine's round
pub round_of_event : (s : Setting) (old : Machine) (event : Event) (new : Machine) → IsSoundMachine s old →
    Leads s old event new →
    round_of s event ≡ old.round
round_of_event s old event new sound leads =
    ap (λ (n : ℕ). n / copies s) (attempt_of_event s old event new leads)
    ∙ div-mul-add old.round (copies s) (slot_of s (ticket_of event))
    (slot_within s old event new sound leads)

-- rounds never fall
pub rounds_rise : (s : Setting) (low : ℕ) (events : List Event) (old new : Machine) → IsSoundMachine s old →
    low ≤ old.round →
    Runs s old events new → RoundsRise s low events
rounds_rise s low [] old new sound above run = tt
rounds_rise s low (event ∷ events) old new sound above run =
    let here : round_of s event ≡ old.round = round_of_event s old event run.0 sound run.1 in (
      omega arith,
      rounds_rise s (round_of s event) events run.0 new (sound-leads s old event run.0 sound run.1)
          (omega (arith, here, round-leads s old event run.0 run.1)) run.2,
    )

-- nothing starts, and the round stays, once the machine has stopped
pub stopped_runs : (s : Setting) (events : List Event) (old new : Machine) → Runs s old events new →
    old.stopped ≡ true →
    (started events ≡ []) × (new.round ≡ old.round)
stopped_runs s [] old new run stopped = (refl, ap (λ (k : Machine). k.round) run)
stopped_runs s (Start t ∷ events) old new run stopped = absurd (let going : old.stopped ≡ false =
    run.1.next.going in cc)
stopped_runs s (Finish t end verdict ∷ events) old new run stopped =
    let m : Machine = slot_finished old (slot_of s t) end verdict in
    let still : m.stopped ≡ true = ap (λ (b : Bool). b || stops end) stopped in
    let rest : (started events ≡ []) × (new.round ≡ run.0.round) =
    stopped_runs s events run.0 new run.2 (ap (λ (k : Machine). k.stopped) run.1.after
    ∙ stopped-settled s m ∙ still) in
    (rest.0, rest.1 ∙ ap (λ (k : Machine). k.round) run.1.after ∙ round-settled_stopped s m still)

-- a run of two parts passes through a machine between them
pub runs-append : (s : Setting) (front rest : List Event) (old new : Machine) →
    Runs s old (front ++ rest) new →
    (mid : Machine) × Runs s old front mid × Runs s mid rest new
runs-append s [] rest old new run = (old, refl, run)
runs-append s (event ∷ front) rest old new run =
    let on : (mid : Machine) × Runs s run.0 front mid × Runs s mid rest new =
    runs-append s front rest run.0 new run.2 in
    (on.0, (run.0, run.1, on.1), on.2)

or_assoc : (a b c : Bool) → ((a || b) || c) ≡ (a || (b || c))
or_assoc true b c = refl
or_assoc false b c = refl

or_false : (a : Bool) → (a || false) ≡ a
or_false true = refl
or_false false = refl

-- a machine has stopped exactly where an event stopped it
pub stopped_by_runs : (s : Setting) (events : List Event) (old new : Machine) → Runs s old events new →
    new.stopped ≡ (old.stopped || list_any stops_it events)
stopped_by_runs s [] old new run = ap (λ (k : Machine). k.stopped) run ∙ sym (or_false old.stopped)
stopped_by_runs s (Start t ∷ events) old new run =
    stopped_by_runs s events run.0 new run.2 ∙ ap (λ (b : Bool). b || list_any stops_it events) run.1.stopped
stopped_by_runs s (Finish t end verdict ∷ events) old new run =
    stopped_by_runs s events run.0 new run.2
    ∙ ap (λ (b : Bool). b || list_any stops_it events)
    (ap (λ (k : Machine). k.stopped) run.1.after ∙ stopped-settled s (slot_finished old
    (slot_of s t) end verdict))
    ∙ or_assoc old.stopped (stops end) (list_any stops_it events)
