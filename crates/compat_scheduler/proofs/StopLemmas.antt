-- The machine's stop, over whole runs.
use Rattle.std.proofs.Common.{◌≡◌, Bool, true, false, ◌||◌, List, [], ◌∷◌, ◌++◌, refl, sym, ap, ◌∙◌, subst}
use Rattle.std.proofs.Common.{⊎_elim}
use Rattle.std.specs.Prelude.{Contains}
use Rattle.std.specs.List.{list_any}
use Rattle.compat_scheduler.specs.Settings.{Setting}
use Rattle.compat_scheduler.specs.Machines.{Machine, slot_of, beginning}
use Rattle.compat_scheduler.specs.Finishes.{slot_finished}
use Rattle.compat_scheduler.specs.Soundness.{IsSoundMachine}
use Rattle.compat_scheduler.specs.Runs.{Event, Leads, Runs, IsRun, started, round_of, stops_it}
use Rattle.compat_scheduler.specs.Runs.Event.{Start, Finish}
use Rattle.compat_scheduler.proofs.Memberships.{contains_nothing, contains_cases}
use Rattle.compat_scheduler.proofs.RunLemmas.{sound-leads, stopped-settled, round-settled_stopped}
use Rattle.compat_scheduler.proofs.RunLemmas.{round_of_event, stopped_runs, runs-append, stopped_by_runs}

-- where the front has stopped the machine, nothing starts in the rest
pub nothing_starts : (s : Setting) (front rest : List Event) (m : Machine) → IsRun s (front ++ rest) m →
    list_any stops_it front ≡ true → started rest ≡ []
nothing_starts s front rest m run stopped =
    let parts : (mid : Machine) × Runs s (beginning s) front mid × Runs s mid rest m =
    runs-append s front rest (beginning s) m run in
    let still : parts.0.stopped ≡ true = stopped_by_runs s front (beginning s) parts.0 parts.1 ∙ stopped in
    (stopped_runs s rest parts.0 m parts.2 still).0

or_true : (a : Bool) → (a || true) ≡ true
or_true true = refl
or_true false = refl

-- an event that stops the machine leaves it stopped, in its round
stopping : (s : Setting) (old : Machine) (event : Event) (new : Machine) → Leads s old event new →
    stops_it event ≡ true →
    (new.stopped ≡ true) × (new.round ≡ old.round)
stopping s old (Start t) new leads stop = absurd (cc)
stopping s old (Finish t end verdict) new leads stop =
    let m : Machine = slot_finished old (slot_of s t) end verdict in
    let still : m.stopped ≡ true = ap (λ (b : Bool). old.stopped || b) stop ∙ or_true old.stopped in (
      ap (λ (k : Machine). k.stopped) leads.after ∙ stopped-settled s m ∙ still,
      ap (λ (k : Machine). k.round) leads.after ∙ round-settled_stopped s m still,
    )

-- an event that stops the machine is of the last round
pub last_round : (s : Setting) (events : List Event) (old new : Machine) (event : Event) →
    IsSoundMachine s old → Runs s old events new →
    Contains events event → stops_it event ≡ true → round_of s event ≡ new.round
last_round s [] old new event sound run h stop = absurd (contains_nothing event h)
last_round s (first ∷ events) old new event sound run h stop =
    ⊎_elim
    (λ (same : first ≡ event).
    let leads : Leads s old event run.0 = subst (λ (e : Event). Leads s old e run.0) same run.1 in
    let after : (run.0.stopped ≡ true) × (run.0.round ≡ old.round) = stopping s old event run.0 leads stop in
    round_of_event s old event run.0 sound leads ∙ sym after.1
    ∙ sym ((stopped_runs s events run.0 new run.2 after.0).1))
    (λ (later : Contains events event).
    last_round s events run.0 new event (sound-leads s old first run.0 sound run.1) run.2 later stop)
    (contains_cases first events event h)
