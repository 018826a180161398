-- A pass number is given once in a run.
use Rattle.std.proofs.Common.{◌≡◌, ℕ, ◌<◌, ◌≤◌, zero, suc, List, [], ◌∷◌, refl, ap, Some, arith}
use Rattle.std.specs.Prelude.{slice_get}
use Rattle.compat_scheduler.specs.declared.ticket.Ticket.{Ticket}
use Rattle.compat_scheduler.specs.Settings.{Setting}
use Rattle.compat_scheduler.specs.Machines.{Machine}
use Rattle.compat_scheduler.specs.Runs.{Event, Runs}
use Rattle.compat_scheduler.specs.Runs.Event.{Start, Finish}
use Rattle.compat_scheduler.proofs.RunLemmas.{starts-finishes}

-- each pass that starts in these events has a number from the count of starts on
start_above : (s : Setting) (events : List Event) (old new : Machine) (i : ℕ) (t : Ticket) →
    Runs s old events new → slice_get events i ≡ Some (Start t) → old.starts ≤ t.pass
start_above s [] old new i t run at = absurd (cc)
start_above s (Start u ∷ events) old new zero t run at =
    let same : u ≡ t = cc in omega (arith, run.1.next.pass, ap (λ (x : Ticket). x.pass) same)
start_above s (Finish u end verdict ∷ events) old new zero t run at = absurd (cc)
start_above s (Start u ∷ events) old new (suc i) t run at =
    omega (arith, run.1.starts, start_above s events run.0 new i t run.2 at)
start_above s (Finish u end verdict ∷ events) old new (suc i) t run at =
    let same : run.0.starts ≡ old.starts = starts-finishes s old u end verdict run.0 run.1 in
    omega (arith, same, start_above s events run.0 new i t run.2 at)

-- a pass that starts later has another number than the first event's
start_apart : (s : Setting) (event : Event) (events : List Event) (old new : Machine) (j : ℕ)
    (t u : Ticket) → Runs s old (event ∷ events) new → slice_get (event ∷ events) 0 ≡ Some (Start t) →
    slice_get events j ≡ Some (Start u) → t.pass < u.pass
start_apart s (Finish v end verdict) events old new j t u run here there = absurd (cc)
start_apart s (Start v) events old new j t u run here there =
    let same : v ≡ t = cc in
    omega (
      arith,
      run.1.next.pass,
      run.1.starts,
      ap (λ (x : Ticket). x.pass) same,
      start_above s events run.0 new j u run.2 there,
    )

-- passes of one number start at one place
pub start_once : (s : Setting) (events : List Event) (old new : Machine) (i j : ℕ) (t u : Ticket) →
    Runs s old events new → slice_get events i ≡ Some (Start t) → slice_get events j ≡ Some (Start u) →
    t.pass ≡ u.pass → i ≡ j
start_once s [] old new i j t u run here there same = absurd (cc)
start_once s (event ∷ events) old new zero zero t u run here there same = refl
start_once s (event ∷ events) old new zero (suc j) t u run here there same =
    absurd (omega (arith, same, start_apart s event events old new j t u run here there))
start_once s (event ∷ events) old new (suc i) zero t u run here there same =
    absurd (omega (arith, same, start_apart s event events old new i u t run there here))
start_once s (event ∷ events) old new (suc i) (suc j) t u run here there same =
    ap suc (start_once s events run.0 new i j t u run.2 here there same)
