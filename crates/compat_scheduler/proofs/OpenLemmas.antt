-- What runs was started and hasn't finished, and the other way round.
use Rattle.std.proofs.Common.{◌≡◌, ◌+◌, ◌*◌, ◌<◌, Bool, true, false, List, [], ◌∷◌, ◌++◌, length}
use Rattle.std.proofs.Common.{refl, sym, ap, ◌∙◌, subst, ⊎_elim, arith, append_assoc}
use Rattle.std.specs.Prelude.{Contains}
use Rattle.std.specs.List.{slice_set}
use Rattle.std.proofs.lemmas.Bool.{cases_eq}
use Rattle.std.proofs.lemmas.List.{append-nil, get_or-set_same, get_or-set_other}
use Rattle.std.proofs.lemmas.List.Elements.{Contains-append_left, Contains-push, Contains-push_cases}
use Rattle.seuss_base.specs.declared.outcome.PassEnd.{PassEnd}
use Rattle.seuss_base.specs.declared.outcome.PassEnd.TheVariants.{Accepted, PlainRejected, Rejected}
use Rattle.seuss_base.specs.declared.outcome.PassEnd.TheVariants.{Trapped, Spent}
use Rattle.compat_scheduler.specs.declared.slot.Slot.{Slot}
use Rattle.compat_scheduler.specs.declared.slot.Slot.TheVariants.{Running, Ended}
use Rattle.compat_scheduler.specs.declared.ticket.Ticket.{Ticket}
use Rattle.compat_scheduler.specs.declared.ticket.FinishVerdict.{FinishVerdict}
use Rattle.compat_scheduler.specs.declared.ticket.FinishVerdict.TheVariants.{Void}
use Rattle.compat_scheduler.specs.Settings.{Setting, copies, beside}
use Rattle.compat_scheduler.specs.Machines.{Machine, slot_at, slot_of, beginning, IsRunning}
use Rattle.compat_scheduler.specs.Starts.{Starts}
use Rattle.compat_scheduler.specs.Finishes.{Finishes, is_ended, verdict_on, slot_after}
use Rattle.compat_scheduler.specs.Finishes.{slot_finished}
use Rattle.compat_scheduler.specs.Runs.{Event, Leads, Runs, IsRun, IsOpen, ticket_of}
use Rattle.compat_scheduler.specs.Runs.Event.{Start, Finish}
use Rattle.compat_scheduler.proofs.Memberships.{contains_nothing, contains_cases}
use Rattle.compat_scheduler.proofs.SoundLemmas.{within_slots}
use Rattle.compat_scheduler.proofs.SchedulerLemmas.{running_newcomer}
use Rattle.compat_scheduler.proofs.RunLemmas.{settled_either, starts-finishes, runs-append}
use Rattle.compat_scheduler.proofs.OverlapLemmas.{same_slot, none_fresh, none_after, ran_lowered}

-- a run with one event more is a run
pub run_grows : (s : Setting) (events : List Event) (old mid new : Machine) (event : Event) →
    Runs s old events mid → Leads s mid event new → Runs s old (events ++ event ∷ []) new
run_grows s [] old mid new event run leads = (
  new,
  subst (λ (m : Machine). Leads s m event new) run leads,
  refl,
)
run_grows s (e ∷ events) old mid new event run leads =
    (run.0, run.1, run_grows s events run.0 mid new event run.2 leads)

-- only a plain rejection is void
plain_is_void : (clean : Bool) (end : PassEnd) → Void ≡ verdict_on clean end → end ≡ PlainRejected
plain_is_void clean PlainRejected e = refl
plain_is_void true Accepted e = absurd (cc)
plain_is_void false Accepted e = absurd (cc)
plain_is_void true Rejected e = absurd (cc)
plain_is_void false Rejected e = absurd (cc)
plain_is_void true (Trapped t) e = absurd (cc)
plain_is_void false (Trapped t) e = absurd (cc)
plain_is_void true Spent e = absurd (cc)
plain_is_void false Spent e = absurd (cc)

-- a pass that is void in a run was plainly rejected
pub void_is_plain : (s : Setting) (events : List Event) (old new : Machine) (t : Ticket) (end : PassEnd) →
    Runs s old events new → Contains events (Finish t end Void) → end ≡ PlainRejected
void_is_plain s [] old new t end run h = absurd (contains_nothing (Finish t end Void) h)
void_is_plain s (event ∷ events) old new t end run h =
    ⊎_elim
    (λ (same : event ≡ Finish t end Void).
    let finishes : Leads s old (Finish t end Void) run.0 =
    subst (λ (e : Event). Leads s old e run.0) same run.1 in
    plain_is_void finishes.judged.running.clean end finishes.judged.given)
    (λ (later : Contains events (Finish t end Void)). void_is_plain s events run.0 new t end run.2 later)
    (contains_cases event events (Finish t end Void) h)

-- all events so far are of passes with numbers below the count of starts, and each pass that runs is open
record Told (s : Setting) (front : List Event) (m : Machine) : Type 0 where
  below : (e : Event) → Contains front e → (ticket_of e).pass < m.starts
  open_ : (t : Ticket) → IsRunning s m t → IsOpen front t

-- a start keeps what is told
told_starts : (s : Setting) (front : List Event) (old : Machine) (u : Ticket) (new : Machine) →
    Told s front old → Starts s old u new → Told s (front ++ Start u ∷ []) new
told_starts s front old u new told starts = record {
  below = λ e h. ⊎_elim
      (λ (a : Contains front e). omega (arith, told.below e a, starts.starts))
      (λ (b : Start u ≡ e).
      let same : u.pass ≡ (ticket_of e).pass = ap (λ (x : Event). (ticket_of x).pass) b in
      omega (arith, same, starts.next.pass, starts.starts))
      (Contains-push_cases front (Start u) e h);
  open_ = λ t runs. ⊎_elim (λ (e : slot_of s t ≡ slot_of s u). here t runs e)
      (λ (d : slot_of s t ≡ slot_of s u → ⊥). there t runs d) (cases_eq (slot_of s t) (slot_of s u));
}
  where
    no_finish : (t : Ticket) (end : PassEnd) (verdict : FinishVerdict) →
        Contains (front ++ Start u ∷ []) (Finish t end verdict) → Contains front (Finish t end verdict)
    no_finish t end verdict h = ⊎_elim (λ (a : Contains front (Finish t end verdict)). a)
        (λ (e : Start u ≡ Finish t end verdict). absurd (cc))
        (Contains-push_cases front (Start u) (Finish t end verdict) h)

    here : (t : Ticket) → IsRunning s new t → slot_of s t ≡ slot_of s u → IsOpen (front ++ Start u ∷ []) t
    here t runs e =
        let same : t ≡ u = same_slot s new t u runs (running_newcomer s old u new starts) e in
        subst (λ (x : Ticket). IsOpen (front ++ Start u ∷ []) x) (sym same)
        (record {
          opened = Contains-push front (Start u);
          unfinished = λ end verdict h.
              let before : Contains front (Finish u end verdict) = no_finish u end verdict h in
              omega (arith, told.below (Finish u end verdict) before, starts.next.pass);
        })

    there : (t : Ticket) → IsRunning s new t → (slot_of s t ≡ slot_of s u → ⊥) →
        IsOpen (front ++ Start u ∷ []) t
    there t runs differ =
        let was = ran_lowered (beside s (slot_of s t) (slot_of s u)) (slot_at old.slots (slot_of s t)) t.pass
        t.mode runs.clean (sym (starts.slots.others (slot_of s t) differ) ∙ runs.slot) in
        let open' : IsOpen front t = told.open_ t (record {
          clean = was.0;
          slot = was.1;
          attempt = rw (sym starts.round) runs.attempt;
          action = runs.action;
        }) in
        record {
          opened = Contains-append_left front (Start u ∷ []) (Start t) open'.opened;
          unfinished = λ end verdict h. open'.unfinished end verdict (no_finish t end verdict h);
        }

-- a finish keeps what is told
told_finishes : (s : Setting) (front : List Event) (old : Machine) (u : Ticket) (last : PassEnd)
    (given : FinishVerdict) (new : Machine) → Told s front old → Finishes s old u last given new →
    Told s (front ++ Finish u last given ∷ []) new
told_finishes s front old u last given new told finishes = record {
  below = λ e h. ⊎_elim
      (λ (a : Contains front e). omega (arith, told.below e a, same_starts))
      (λ (b : Finish u last given ≡ e).
      let same : u.pass ≡ (ticket_of e).pass = ap (λ (x : Event). (ticket_of x).pass) b in
      omega (arith, same, same_starts, told.below (Start u) was_open.opened))
      (Contains-push_cases front (Finish u last given) e h);
  open_ = λ t runs. ⊎_elim
      (λ h. absurd (none_fresh (copies s) (slot_of s t) t.pass t.mode runs.clean
      (subst (λ (k : Machine). slot_at k.slots (slot_of s t) ≡ Running t.pass t.mode runs.clean)
      (finishes.after ∙ h.1) runs.slot)))
      (λ h. going t runs (finishes.after ∙ h.1))
      (settled_either s (slot_finished old (slot_of s u) last given));
}
  where
    same_starts : new.starts ≡ old.starts
    same_starts = starts-finishes s old u last given new finishes

    was_open : IsOpen front u
    was_open = told.open_ u finishes.judged.running

    within : slot_of s u < length old.slots
    within = within_slots old.slots (slot_of s u) (ap is_ended finishes.judged.running.slot)

    after : List Slot
    after = slice_set old.slots (slot_of s u) (slot_after given)

    going : (t : Ticket) → IsRunning s new t → new ≡ slot_finished old (slot_of s u) last given →
        IsOpen (front ++ Finish u last given ∷ []) t
    going t runs is = ⊎_elim
        (λ (e : slot_of s t ≡ slot_of s u). absurd (none_after given t.pass t.mode runs.clean
        (sym (get_or-set_same old.slots (slot_of s u) (slot_after given) Ended within)
        ∙ ap (slot_at after) (sym e) ∙ now)))
        (λ (d : slot_of s t ≡ slot_of s u → ⊥). there d)
        (cases_eq (slot_of s t) (slot_of s u))
      where
        now : slot_at after (slot_of s t) ≡ Running t.pass t.mode runs.clean
        now = subst (λ (k : Machine). slot_at k.slots (slot_of s t) ≡ Running t.pass t.mode runs.clean) is
            runs.slot

        there : (slot_of s t ≡ slot_of s u → ⊥) → IsOpen (front ++ Finish u last given ∷ []) t
        there d =
            let open' : IsOpen front t = told.open_ t (record {
              clean = runs.clean;
              slot = sym (get_or-set_other old.slots (slot_of s u) (slot_of s t) (slot_after given) Ended d)
                  ∙ now;
              attempt = runs.attempt ∙ ap (λ (k : Machine). k.round * copies s + slot_of s t) is;
              action = runs.action;
            }) in
            record {
              opened = Contains-append_left front (Finish u last given ∷ []) (Start t) open'.opened;
              unfinished = λ end verdict h. ⊎_elim
                  (λ (a : Contains front (Finish t end verdict)). open'.unfinished end verdict a)
                  (λ (one : Finish u last given ≡ Finish t end verdict).
                  d (ap (λ (x : Event). slot_of s (ticket_of x)) (sym one)))
                  (Contains-push_cases front (Finish u last given) (Finish t end verdict) h);
            }

-- so does each event
told_leads : (s : Setting) (front : List Event) (old : Machine) (event : Event) (new : Machine) →
    Told s front old → Leads s old event new → Told s (front ++ event ∷ []) new
told_leads s front old (Start t) new told leads = told_starts s front old t new told leads
told_leads s front old (Finish t end verdict) new told leads =
    told_finishes s front old t end verdict new told leads

-- and so do the events that go on from there
told_runs : (s : Setting) (front events : List Event) (old new : Machine) → Told s front old →
    Runs s old events new → Told s (front ++ events) new
told_runs s front [] old new told run =
    subst (λ (l : List Event). Told s l new) (sym (append-nil front))
    (subst (λ (m : Machine). Told s front m) (sym run) told)
told_runs s front (event ∷ events) old new told run =
    let next : Told s (front ++ event ∷ []) run.0 = told_leads s front old event run.0 told run.1 in
    subst (λ (l : List Event). Told s l new) (append_assoc front (event ∷ []) events)
    (told_runs s (front ++ event ∷ []) events run.0 new next run.2)

-- what runs was started and hasn't finished
pub running_is_open : (s : Setting) (events : List Event) (m : Machine) (t : Ticket) → IsRun s events m →
    IsRunning s m t → IsOpen events t
running_is_open s events m t run runs = told.open_ t runs where
  told : Told s events m
  told = told_runs s [] events (beginning s) m
      (record {
        below = λ e h. absurd (contains_nothing e h);
        open_ = λ u now. absurd (none_fresh (copies s) (slot_of s u) u.pass u.mode now.clean now.slot);
      }) run

-- a pass that finishes was started before, and hasn't finished before
pub finish_of_open : (s : Setting) (front rest : List Event) (m : Machine) (t : Ticket) (end : PassEnd)
    (verdict : FinishVerdict) → IsRun s (front ++ Finish t end verdict ∷ rest) m → IsOpen front t
finish_of_open s front rest m t end verdict run =
    let parts : (mid : Machine) × IsRun s front mid × Runs s mid (Finish t end verdict ∷ rest) m =
    runs-append s front (Finish t end verdict ∷ rest) (beginning s) m run in
    running_is_open s front parts.0 t parts.1 parts.2.1.judged.running
