-- Passes that overlap, over whole runs.
use Rattle.std.proofs.Common.{◌≡◌, ℕ, ◌<◌, ◌≤◌, Bool, true, false, List, [], ◌∷◌, ◌++◌, length, replicate}
use Rattle.std.proofs.Common.{refl, sym, ap, ◌∙◌, subst, ◌⊎◌, inl, inr, ⊎_elim, arith}
use Rattle.std.specs.Prelude.{Contains}
use Rattle.std.specs.List.{slice_set}
use Rattle.std.proofs.lemmas.Bool.{cases_eq, cases_lt}
use Rattle.std.proofs.lemmas.List.{get_or-set_same, get_or-set_other, length-replicate}
use Rattle.seuss_base.specs.Levels.{IsAtLeast}
use Rattle.seuss_base.specs.declared.level.Level.{Level}
use Rattle.seuss_base.specs.declared.level.Level.TheVariants.{Never, Loose, Firm}
use Rattle.seuss_base.specs.declared.outcome.PassEnd.{PassEnd}
use Rattle.seuss_base.specs.declared.outcome.PassEnd.TheVariants.{PlainRejected}
use Rattle.compat_scheduler.specs.declared.slot.Slot.{Slot}
use Rattle.compat_scheduler.specs.declared.slot.Slot.TheVariants.{Pending, Running, Ended}
use Rattle.compat_scheduler.specs.declared.ticket.Ticket.{Ticket}
use Rattle.compat_scheduler.specs.declared.ticket.FinishVerdict.{FinishVerdict}
use Rattle.compat_scheduler.specs.declared.ticket.FinishVerdict.TheVariants.{Kept, Void}
use Rattle.compat_scheduler.specs.Settings.{Setting, copies, level, beside, action_of}
use Rattle.compat_scheduler.specs.Machines.{Machine, slot_at, slot_of, beginning, IsRunning}
use Rattle.compat_scheduler.specs.Starts.{IsAllowedBeside, IsFirmBeside, Starts, lowered}
use Rattle.compat_scheduler.specs.Finishes.{is_ended, verdict_on, slot_after, settled, slot_finished}
use Rattle.compat_scheduler.specs.Finishes.{Finishes}
use Rattle.compat_scheduler.specs.Runs.{Event, Leads, Runs, IsRun, IsOpen}
use Rattle.compat_scheduler.specs.Runs.Event.{Start, Finish}
use Rattle.compat_scheduler.proofs.Memberships.{contains_nothing, contains_cases, contains_first}
use Rattle.compat_scheduler.proofs.Memberships.{contains_later}
use Rattle.compat_scheduler.proofs.SlotLemmas.{slot_at_past}
use Rattle.compat_scheduler.proofs.SoundLemmas.{fresh_slots, within_slots}
use Rattle.compat_scheduler.proofs.SchedulerLemmas.{running-starts, running_newcomer, running_elsewhere}
use Rattle.compat_scheduler.proofs.RunLemmas.{settled_either, starts-finishes, numbered_runs, runs-append}

-- tickets with equal fields are one
pub same_ticket : (a b : Ticket) → a.pass ≡ b.pass → a.attempt ≡ b.attempt → a.action ≡ b.action →
    a.mode ≡ b.mode → a ≡ b
same_ticket a b pass attempt action mode =
    let whole : Ticket = record { pass = a.pass; attempt = a.attempt; action = a.action; mode = a.mode } in
    let same : whole ≡ b = rw (pass, attempt, action, mode) refl in same

-- tickets that run in one slot are one
pub same_slot : (s : Setting) (m : Machine) (a b : Ticket) → IsRunning s m a → IsRunning s m b →
    slot_of s a ≡ slot_of s b → a ≡ b
same_slot s m a b runs also e =
    let here : slot_at m.slots (slot_of s a) ≡ Running a.pass a.mode runs.clean = runs.slot in
    let there : slot_at m.slots (slot_of s b) ≡ Running b.pass b.mode also.clean = also.slot in
    let one : slot_at m.slots (slot_of s a) ≡ slot_at m.slots (slot_of s b) = ap (slot_at m.slots) e in
    same_ticket a b (cc) (omega (arith, runs.attempt, also.attempt, e)) (runs.action ∙ ap (action_of s) e
    ∙ sym also.action) (cc)

-- a pass finishes in these events
abbrev pub HasFinished : List Event → Ticket → Type 0
HasFinished events t = (end : PassEnd) × (verdict : FinishVerdict) × Contains events (Finish t end verdict)

-- a finish in later events
finished_later : (event : Event) (events : List Event) (t : Ticket) → HasFinished events t →
    HasFinished (event ∷ events) t
finished_later event events t h = (h.0, h.1, contains_later event events (Finish t h.0 h.1) h.2)

-- a pass that runs finishes in the events that follow, or still runs after them
still_running : (s : Setting) (events : List Event) (old new : Machine) (t : Ticket) →
    Runs s old events new → IsRunning s old t → IsRunning s new t ⊎ HasFinished events t
still_running s [] old new t run running = inl (subst (λ (m : Machine). IsRunning s m t) (sym run) running)
still_running s (Start r ∷ events) old new t run running =
    ⊎_elim (λ (on : IsRunning s new t). inl on)
    (λ (done : HasFinished events t). inr (finished_later (Start r) events t done))
    (still_running s events run.0 new t run.2 (running-starts s old r run.0 t run.1 running))
still_running s (Finish r end verdict ∷ events) old new t run running =
    ⊎_elim
    (λ (e : slot_of s t ≡ slot_of s r). inr (
      end,
      verdict,
      contains_first (Finish r end verdict) events
          (Finish t end verdict) (ap (λ (u : Ticket). Finish u end verdict)
          (sym (same_slot s old t r running run.1.judged.running e))),
    ))
    (λ (differ : slot_of s t ≡ slot_of s r → ⊥).
    ⊎_elim (λ (on : IsRunning s new t). inl on)
    (λ (done : HasFinished events t). inr (finished_later (Finish r end verdict) events t done))
    (still_running s events run.0 new t run.2
    (running_elsewhere s old r end verdict run.0 t run.1 running differ)))
    (cases_eq (slot_of s t) (slot_of s r))

-- a pass that starts in these events finishes there, or runs after them
pub runs_or_finished : (s : Setting) (events : List Event) (old new : Machine) (t : Ticket) →
    Runs s old events new → Contains events (Start t) → IsRunning s new t ⊎ HasFinished events t
runs_or_finished s [] old new t run opened = absurd (contains_nothing (Start t) opened)
runs_or_finished s (event ∷ events) old new t run opened =
    ⊎_elim (λ (on : IsRunning s new t). inl on)
    (λ (done : HasFinished events t). inr (finished_later event events t done))
    (⊎_elim
    (λ (same : event ≡ Start t).
    let starts : Leads s old (Start t) run.0 = subst (λ (e : Event). Leads s old e run.0) same run.1 in
    still_running s events run.0 new t run.2 (running_newcomer s old t run.0 starts))
    (λ (later : Contains events (Start t)). runs_or_finished s events run.0 new t run.2 later)
    (contains_cases event events (Start t) opened))

-- a pass that is open runs
pub open_running : (s : Setting) (events : List Event) (m : Machine) (t : Ticket) → IsRun s events m →
    IsOpen events t → IsRunning s m t
open_running s events m t run open' =
    ⊎_elim (λ (on : IsRunning s m t). on)
    (λ (done : HasFinished events t). absurd (open'.unfinished done.0 done.1 done.2))
    (runs_or_finished s events (beginning s) m t run open'.opened)

-- in a round that begins nothing runs
pub none_fresh : (n i pass : ℕ) (mode : Level) (clean : Bool) →
    ¬ (slot_at (replicate n (Pending Loose)) i ≡ Running pass mode clean)
none_fresh n i pass mode clean e =
    ⊎_elim (λ (h : i < n). let fresh : slot_at (replicate n (Pending Loose)) i ≡ Pending Loose =
    fresh_slots n i h in cc)
    (λ (h : n ≤ i). let past : slot_at (replicate n (Pending Loose)) i ≡ Ended =
    slot_at_past (replicate n (Pending Loose)) i (omega (arith, length-replicate n (Pending Loose))) in
    cc) (cases_lt i n)

-- a slot after a verdict doesn't run
pub none_after : (verdict : FinishVerdict) (pass : ℕ) (mode : Level) (clean : Bool) →
    ¬ (slot_after verdict ≡ Running pass mode clean)
none_after Kept pass mode clean e = cc
none_after Void pass mode clean e = cc

-- what runs after a finish ran before it, in the same slot and with the same flag
pub ran_before_finish : (s : Setting) (old : Machine) (t : Ticket) (end : PassEnd)
    (verdict : FinishVerdict) (new : Machine)
    (j pass : ℕ) (mode : Level) (clean : Bool) → Finishes s old t end verdict new →
    slot_of s t < length old.slots →
    slot_at new.slots j ≡ Running pass mode clean → slot_at old.slots j ≡ Running pass mode clean
ran_before_finish s old t end verdict new j pass mode clean finishes within runs =
    let i : ℕ = slot_of s t in
    let m : Machine = slot_finished old i end verdict in
    let settled_runs : slot_at (settled s m).slots j ≡ Running pass mode clean =
    subst (λ (k : Machine). slot_at k.slots j ≡ Running pass mode clean) finishes.after runs in
    ⊎_elim
    (λ h. absurd (none_fresh (copies s) j pass mode clean
    (subst (λ (k : Machine). slot_at k.slots j ≡ Running pass mode clean) h.1 settled_runs)))
    (λ h.
    let unsettled : slot_at (slice_set old.slots i (slot_after verdict)) j ≡ Running pass mode clean =
    subst (λ (k : Machine). slot_at k.slots j ≡ Running pass mode clean) h.1 settled_runs in
    ⊎_elim
    (λ (e : j ≡ i). absurd (none_after verdict pass mode clean
    (sym (get_or-set_same old.slots i (slot_after verdict) Ended within)
    ∙ ap (slot_at (slice_set old.slots i (slot_after verdict))) (sym e) ∙ unsettled)))
    (λ (differ : j ≡ i → ⊥). sym (get_or-set_other old.slots i j (slot_after verdict) Ended differ)
    ∙ unsettled)
    (cases_eq j i))
    (settled_either s m)

-- what runs beside a newcomer ran before it
pub ran_lowered : (level : Level) (slot : Slot) (pass : ℕ) (mode : Level) (clean : Bool) →
    lowered level slot ≡ Running pass mode clean →
    (before : Bool) × (slot ≡ Running pass mode before) × (clean ≡ true → (before ≡ true) × (level ≡ Firm))
ran_lowered Firm slot pass mode clean e = (clean, e, λ up. (up, refl))
ran_lowered Loose Ended pass mode clean e = absurd (cc)
ran_lowered Loose (Pending m) pass mode clean e = absurd (cc)
ran_lowered Loose (Running p m b) pass mode clean e = (b, cc, λ up. absurd (cc))
ran_lowered Never Ended pass mode clean e = absurd (cc)
ran_lowered Never (Pending m) pass mode clean e = absurd (cc)
ran_lowered Never (Running p m b) pass mode clean e = (b, cc, λ up. absurd (cc))

-- what runs after a start is the newcomer, or ran before, with a flag that the newcomer didn't raise
pub ran_before_start : (s : Setting) (old : Machine) (t : Ticket) (new : Machine) (j pass : ℕ)
    (mode : Level) (clean : Bool) →
    Starts s old t new → slot_at new.slots j ≡ Running pass mode clean →
    (pass ≡ old.starts)
    ⊎ ((before : Bool) × (slot_at old.slots j ≡ Running pass mode before) × (clean ≡ true →
    (before ≡ true) × (beside s j (slot_of s t) ≡ Firm)))
ran_before_start s old t new j pass mode clean starts runs =
    ⊎_elim
    (λ (e : j ≡ slot_of s t).
    let here : slot_at new.slots (slot_of s t) ≡ Running t.pass t.mode starts.slots.clean =
    starts.slots.here in
    let there : slot_at new.slots (slot_of s t) ≡ Running pass mode clean = ap (slot_at new.slots) (sym e)
    ∙ runs in
    inl (let same : pass ≡ t.pass = cc in same ∙ starts.next.pass))
    (λ (differ : j ≡ slot_of s t → ⊥).
    inr (ran_lowered (beside s j (slot_of s t)) (slot_at old.slots j) pass mode clean (sym
    (starts.slots.others j differ) ∙ runs)))
    (cases_eq j (slot_of s t))

-- each pass that starts in these events has a number below the count of starts after them
started_below : (s : Setting) (events : List Event) (old new : Machine) (t : Ticket) →
    Runs s old events new → Contains events (Start t) → t.pass < new.starts
started_below s [] old new t run opened = absurd (contains_nothing (Start t) opened)
started_below s (event ∷ events) old new t run opened =
    ⊎_elim
    (λ (same : event ≡ Start t).
    let starts : Leads s old (Start t) run.0 = subst (λ (e : Event). Leads s old e run.0) same run.1 in
    omega (arith, starts.next.pass, starts.starts, (numbered_runs s events run.0 new run.2).0))
    (λ (later : Contains events (Start t)). started_below s events run.0 new t run.2 later)
    (contains_cases event events (Start t) opened)

-- a plain rejection is kept where the flag is up
flag_of_kept : (clean : Bool) → Kept ≡ verdict_on clean PlainRejected → clean ≡ true
flag_of_kept true e = refl
flag_of_kept false e = absurd (cc)

-- what follows from a pass's flag follows from its kept plain rejection
pub flag_through : (X : Type 0) (s : Setting) (events : List Event) (old new : Machine) (p : Ticket) →
    p.pass < old.starts →
    ((mode : Level) (clean : Bool) → slot_at old.slots (slot_of s p) ≡ Running p.pass mode clean →
    clean ≡ true → X) →
    Runs s old events new → Contains events (Finish p PlainRejected Kept) → X
flag_through X s [] old new p below flag run h = absurd (contains_nothing (Finish p PlainRejected Kept) h)
flag_through X s (Start t ∷ events) old new p below flag run h =
    ⊎_elim (λ (same : Start t ≡ Finish p PlainRejected Kept). absurd (cc))
    (λ (later : Contains events (Finish p PlainRejected Kept)).
    flag_through X s events run.0 new p (omega (arith, below, run.1.starts))
    (λ mode clean runs up. ⊎_elim (λ (e : p.pass ≡ old.starts). absurd (omega (arith, e, below)))
    (λ b. flag mode b.0 b.1 ((b.2 up).0))
    (ran_before_start s old t run.0 (slot_of s p) p.pass mode clean run.1 runs))
    run.2 later)
    (contains_cases (Start t) events (Finish p PlainRejected Kept) h)
flag_through X s (Finish t end verdict ∷ events) old new p below flag run h =
    ⊎_elim
    (λ (same : Finish t end verdict ≡ Finish p PlainRejected Kept).
    let finishes : Leads s old (Finish p PlainRejected Kept) run.0 =
    subst (λ (e : Event). Leads s old e run.0) same run.1 in
    flag p.mode finishes.judged.running.clean finishes.judged.running.slot
    (flag_of_kept finishes.judged.running.clean finishes.judged.given))
    (λ (later : Contains events (Finish p PlainRejected Kept)).
    flag_through X s events run.0 new p
    (omega (arith, below, starts-finishes s old t end verdict run.0 run.1))
    (λ mode clean runs up. flag mode clean (ran_before_finish s old t end verdict run.0
    (slot_of s p) p.pass mode clean run.1
    (within_slots old.slots (slot_of s t) (ap is_ended run.1.judged.running.slot)) runs) up)
    run.2 later)
    (contains_cases (Finish t end verdict) events (Finish p PlainRejected Kept) h)

-- a pass beside which a newcomer's flag is up
firm_beside : (level : Level) (slot : Slot) (pass : ℕ) (mode : Level) (clean : Bool) →
    IsFirmBeside level slot → slot ≡ Running pass mode clean → level ≡ Firm
firm_beside level slot pass mode clean firm e = subst (IsFirmBeside level) e firm

-- a pass q starts while p runs: both are allowed, and a kept plain rejection of either is firm-safe there
pub overlapping : (s : Setting) (front rest : List Event) (m : Machine) (p q : Ticket) →
    IsRun s (front ++ Start q ∷ rest) m → IsOpen front p →
    IsAtLeast (level s q.action p.action) q.mode × IsAtLeast (level s p.action q.action) p.mode
    × (Contains rest (Finish p PlainRejected Kept) → level s p.action q.action ≡ Firm)
    × (Contains rest (Finish q PlainRejected Kept) → level s q.action p.action ≡ Firm)
overlapping s front rest m p q run open' =
    let parts : (mid : Machine) × Runs s (beginning s) front mid × Runs s mid (Start q ∷ rest) m =
    runs-append s front (Start q ∷ rest) (beginning s) m run in
    let old : Machine = parts.0 in
    let then : (mid : Machine) × Leads s old (Start q) mid × Runs s mid rest m = parts.2 in
    let starts : Starts s old q then.0 = then.1 in
    let running : IsRunning s old p = open_running s front old p parts.1 open' in
    let i : ℕ = slot_of s q in
    let j : ℕ = slot_of s p in
    let numbered : p.pass < old.starts = started_below s front (beginning s) old p parts.1 open'.opened in
    let allowed : IsAtLeast (beside s i j) q.mode × IsAtLeast (beside s j i) p.mode =
    subst (IsAllowedBeside s i q.mode j) running.slot (starts.next.first.may.allowed j) in
    let forth : level s q.action p.action ≡ beside s i j = rw (starts.next.action, running.action) refl in
    let back : level s p.action q.action ≡ beside s j i = rw (starts.next.action, running.action) refl in (
      subst (λ (l : Level). IsAtLeast l q.mode) (sym forth) allowed.0,
      subst (λ (l : Level). IsAtLeast l p.mode) (sym back) allowed.1,
      (λ kept. back ∙ flag_through (beside s j i ≡ Firm) s rest then.0 m p (omega (
        arith,
        numbered,
        starts.starts,
      ))
          (λ mode clean runs up. ⊎_elim (λ (e : p.pass ≡ old.starts). absurd (omega (arith, e, numbered)))
          (λ b. (b.2 up).1) (ran_before_start s old q then.0 j p.pass mode clean starts runs))
          then.2 kept),
      (λ kept. forth ∙ flag_through (beside s i j ≡ Firm) s rest then.0 m q (omega (
        arith,
        starts.next.pass,
        starts.starts,
      ))
          (λ mode clean runs up.
          let here : slot_at then.0.slots i ≡ Running q.pass q.mode starts.slots.clean = starts.slots.here in
          let is_up : starts.slots.clean ≡ true = cc in
          firm_beside (beside s i j) (slot_at old.slots j) p.pass p.mode running.clean
          (starts.slots.flag.0 is_up j) running.slot)
          then.2 kept),
    )
