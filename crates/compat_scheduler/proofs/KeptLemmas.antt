-- How often an attempt is kept, over whole runs.
use Rattle.std.proofs.Common.{◌≡◌, ◌≢◌, ℕ, ◌+◌, ◌-◌, ◌*◌, ◌%◌, ◌<◌, ◌≤◌, Bool, true, false, ◌&&◌, ◌||◌, not}
use Rattle.std.proofs.Common.{List, [], ◌∷◌, length, refl, sym, ap, ◌∙◌, subst, ◌⊎◌, inl, inr, ⊎_elim}
use Rattle.std.proofs.Common.{arith}
use Rattle.std.specs.Prelude.{◌==◌, nat_lt, if◌then◌else◌}
use Rattle.std.specs.List.{list_all, slice_set}
use Rattle.std.proofs.lemmas.Bool.{cases_eq, cases_lt, ltb-true, lt-ltb}
use Rattle.std.proofs.lemmas.Bool.Decides.{eqb_tells}
use Rattle.std.proofs.lemmas.List.{get_or-set_same, get_or-set_other}
use Rattle.std.proofs.Math.Nat.{add-mul}
use Rattle.std.proofs.lemmas.Nat.{mod-mul-add, mod_below}
use Rattle.seuss_base.specs.declared.level.Level.{Level}
use Rattle.seuss_base.specs.declared.level.Level.TheVariants.{Never, Loose, Firm}
use Rattle.seuss_base.specs.declared.outcome.PassEnd.{PassEnd}
use Rattle.compat_scheduler.specs.declared.slot.Slot.{Slot}
use Rattle.compat_scheduler.specs.declared.slot.Slot.TheVariants.{Pending, Running, Ended}
use Rattle.compat_scheduler.specs.declared.ticket.Ticket.{Ticket}
use Rattle.compat_scheduler.specs.declared.ticket.FinishVerdict.{FinishVerdict}
use Rattle.compat_scheduler.specs.declared.ticket.FinishVerdict.TheVariants.{Kept, Void}
use Rattle.compat_scheduler.specs.Settings.{Setting, copies, beside}
use Rattle.compat_scheduler.specs.Machines.{Machine, slot_at, slot_of, round_begun, beginning, IsRunning}
use Rattle.compat_scheduler.specs.Starts.{Starts, lowered}
use Rattle.compat_scheduler.specs.Finishes.{is_ended, settled, slot_finished}
use Rattle.compat_scheduler.specs.Soundness.{IsSoundMachine}
use Rattle.compat_scheduler.specs.Runs.{Event, Leads, Runs, IsRun, has_ended, kept_by, times_kept}
use Rattle.compat_scheduler.specs.Runs.Event.{Start, Finish}
use Rattle.compat_scheduler.proofs.SchedulerLemmas.{first_holds}
use Rattle.compat_scheduler.proofs.Sums.{each_ended}
use Rattle.compat_scheduler.proofs.SoundLemmas.{fresh_slots, sound-beginning}
use Rattle.compat_scheduler.proofs.RunLemmas.{sound-leads, settled_either, slot_within}

-- an attempt has ended, as a fact
EndedFact : Setting → Machine → ℕ → Type 0
EndedFact s m a = (a < m.round * copies s) ⊎ ((a < (m.round + 1) * copies s) × (is_ended (slot_at m.slots
    (a % copies s)) ≡ true))

fact_of_test : (p q r : Bool) → (p || (q && r)) ≡ true → (p ≡ true) ⊎ ((q ≡ true) × (r ≡ true))
fact_of_test true q r e = inl refl
fact_of_test false true true e = inr (refl, refl)
fact_of_test false true false e = absurd (cc)
fact_of_test false false r e = absurd (cc)

test_of_first : (p q r : Bool) → p ≡ true → (p || (q && r)) ≡ true
test_of_first p q r e = rw e refl

test_of_second : (p q r : Bool) → q ≡ true → r ≡ true → (p || (q && r)) ≡ true
test_of_second true q r e f = refl
test_of_second false q r e f = rw (e, f) refl

-- the test and the fact say the same
ended_fact : (s : Setting) (m : Machine) (a : ℕ) → has_ended s m a ≡ true → EndedFact s m a
unfolding EndedFact
ended_fact s m a e =
    ⊎_elim (λ p. inl (ltb-true a (m.round * copies s) p))
    (λ q. inr (ltb-true a ((m.round + 1) * copies s) q.0, q.1))
    (fact_of_test (nat_lt a (m.round * copies s)) (nat_lt a ((m.round + 1) * copies s)) (is_ended
    (slot_at m.slots (a % copies s))) e)

ended_test : (s : Setting) (m : Machine) (a : ℕ) → EndedFact s m a → has_ended s m a ≡ true
unfolding EndedFact
ended_test s m a fact =
    let p : Bool = nat_lt a (m.round * copies s) in
    let q : Bool = nat_lt a ((m.round + 1) * copies s) in
    let r : Bool = is_ended (slot_at m.slots (a % copies s)) in
    ⊎_elim (λ (h : a < m.round * copies s). test_of_first p q r (lt-ltb a (m.round * copies s) h))
    (λ (h : (a < (m.round + 1) * copies s) × (is_ended (slot_at m.slots (a % copies s)) ≡ true)).
    test_of_second p q r (lt-ltb a ((m.round + 1) * copies s) h.0) h.1)
    fact

-- two tests that follow from one another are one
same_test : (a b : Bool) → (a ≡ true → b ≡ true) → (b ≡ true → a ≡ true) → a ≡ b
same_test true b forth back = sym (forth refl)
same_test false true forth back = absurd (let e : false ≡ true = back refl in cc)
same_test false false forth back = refl

-- machines in one round, in whose slots the same have ended, have ended the same attempts
has_ended_same : (s : Setting) (old new : Machine) (a : ℕ) → new.round ≡ old.round →
    is_ended (slot_at new.slots (a % copies s)) ≡ is_ended (slot_at old.slots (a % copies s)) →
    has_ended s new a ≡ has_ended s old a
has_ended_same s old new a round slot = rw (round, slot) refl

-- a flag that goes down ends nothing
is_ended-lowered : (level : Level) (slot : Slot) → is_ended (lowered level slot) ≡ is_ended slot
is_ended-lowered Firm slot = refl
is_ended-lowered Loose Ended = refl
is_ended-lowered Loose (Pending mode) = refl
is_ended-lowered Loose (Running pass mode clean) = refl
is_ended-lowered Never Ended = refl
is_ended-lowered Never (Pending mode) = refl
is_ended-lowered Never (Running pass mode clean) = refl

-- a start ends nothing
is_ended-starts : (s : Setting) (old : Machine) (t : Ticket) (new : Machine) (j : ℕ) → Starts s old t new →
    is_ended (slot_at new.slots j) ≡ is_ended (slot_at old.slots j)
is_ended-starts s old t new j starts =
    ⊎_elim
    (λ (e : j ≡ slot_of s t).
    subst (λ (k : ℕ). is_ended (slot_at new.slots k) ≡ is_ended (slot_at old.slots k)) (sym e)
    (ap is_ended starts.slots.here ∙ sym (ap is_ended starts.next.first.may.pending)))
    (λ (differ : j ≡ slot_of s t → ⊥).
    ap is_ended (starts.slots.others j differ) ∙ is_ended-lowered (beside s j (slot_of s t))
    (slot_at old.slots j))
    (cases_eq j (slot_of s t))

-- the end of a round ends no attempt
pub has_ended-settled : (s : Setting) (m : Machine) (a : ℕ) → 0 < copies s →
    has_ended s (settled s m) a ≡ has_ended s m a
unfolding EndedFact
has_ended-settled s m a some =
    ⊎_elim
    (λ (h : ((list_all is_ended m.slots && not m.stopped) ≡ true) × (settled s m ≡ round_begun s
    (m.round + 1) m.starts)).
    let next : Machine = round_begun s (m.round + 1) m.starts in
    let all : list_all is_ended m.slots ≡ true = first_holds (list_all is_ended m.slots) m.stopped h.0 in
    let within : a % copies s < copies s = mod_below a (copies s) some in
    let fresh : slot_at next.slots (a % copies s) ≡ Pending Loose = fresh_slots (copies s)
    (a % copies s) within in
    ap (λ (k : Machine). has_ended s k a) h.1
    ∙ same_test (has_ended s next a) (has_ended s m a)
    (λ e. ended_test s m a (⊎_elim
    (λ (f : a < (m.round + 1) * copies s). inr (f, each_ended m.slots (a % copies s) all))
    (λ f. absurd (let no : is_ended (slot_at next.slots (a % copies s)) ≡ false = ap is_ended fresh in
    let yes' : is_ended (slot_at next.slots (a % copies s)) ≡ true = f.1 in cc))
    (ended_fact s next a e)))
    (λ e. ended_test s next a (⊎_elim
    (λ (f : a < m.round * copies s). inl (omega (arith, f, add-mul m.round 1 (copies s))))
    (λ f. inl f.0)
    (ended_fact s m a e))))
    (λ (h : ((list_all is_ended m.slots && not m.stopped) ≡ false) × (settled s m ≡ m)). ap (λ
    (k : Machine). has_ended s k a) h.1)
    (settled_either s m)

-- an attempt of this round is told by its slot
attempt_of_slot : (a round c : ℕ) → round * c ≤ a → a < (round + 1) * c → a ≡ round * c + a % c
attempt_of_slot a round c above below =
    let rest : ℕ = a - round * c in
    let whole : a ≡ round * c + rest = omega arith in
    let small : rest < c = omega (arith, add-mul round 1 c) in
    let slot : a % c ≡ rest = ap (λ (n : ℕ). n % c) whole ∙ mod-mul-add round c rest small in
    omega arith

-- a void pass ends no attempt
number-void : (s : Setting) (old : Machine) (t : Ticket) (end : PassEnd) (a : ℕ) → IsRunning s old t →
    slot_of s t < length old.slots →
    has_ended s (slot_finished old (slot_of s t) end Void) a ≡ has_ended s old a
number-void s old t end a running within =
    let j : ℕ = slot_of s t in
    has_ended_same s old (slot_finished old j end Void) a refl
    (⊎_elim
    (λ (e : a % copies s ≡ j).
    subst (λ (k : ℕ). is_ended (slot_at (slice_set old.slots j (Pending Firm)) k) ≡ is_ended
    (slot_at old.slots k)) (sym e)
    (ap is_ended (get_or-set_same old.slots j (Pending Firm) Ended within) ∙ sym (ap is_ended running.slot)))
    (λ (differ : a % copies s ≡ j → ⊥). ap is_ended (get_or-set_other old.slots j (a % copies s)
    (Pending Firm) Ended differ))
    (cases_eq (a % copies s) j))

-- the attempt of a kept pass hadn't ended, and has ended then
ended_before : (s : Setting) (old : Machine) (t : Ticket) (end : PassEnd) → IsRunning s old t →
    has_ended s old t.attempt ≡ false
unfolding EndedFact
ended_before s old t end running = by_value (has_ended s old t.attempt) refl where
  by_value : (b : Bool) → has_ended s old t.attempt ≡ b → b ≡ false
  by_value false e = refl
  by_value true e =
      ⊎_elim (λ (h : t.attempt < old.round * copies s). absurd (omega (arith, h, running.attempt)))
      (λ h. absurd (let over : is_ended (slot_at old.slots (slot_of s t)) ≡ true = h.1 in
      let on : is_ended (slot_at old.slots (slot_of s t)) ≡ false = ap is_ended running.slot in cc))
      (ended_fact s old t.attempt e)

ended_after : (s : Setting) (old : Machine) (t : Ticket) (end : PassEnd) → IsRunning s old t →
    slot_of s t < length old.slots →
    slot_of s t < copies s → has_ended s (slot_finished old (slot_of s t) end Kept) t.attempt ≡ true
unfolding EndedFact
ended_after s old t end running within below =
    ended_test s (slot_finished old (slot_of s t) end Kept) t.attempt
    (inr (
      omega (arith, running.attempt, below, add-mul old.round 1 (copies s)),
      ap is_ended (get_or-set_same old.slots (slot_of s t) Ended Ended within),
    ))

-- a kept pass ends no other attempt
ended_elsewhere : (s : Setting) (old : Machine) (t : Ticket) (end : PassEnd) (a : ℕ) → IsRunning s old t →
    slot_of s t < length old.slots →
    t.attempt ≢ a → has_ended s (slot_finished old (slot_of s t) end Kept) a ≡ has_ended s old a
unfolding EndedFact
ended_elsewhere s old t end a running within differ =
    let j : ℕ = slot_of s t in
    let m : Machine = slot_finished old j end Kept in
    same_test (has_ended s m a) (has_ended s old a)
    (λ e. ended_test s old a (⊎_elim (λ (h : a < old.round * copies s). inl h)
    (λ h. ⊎_elim (λ (early : a < old.round * copies s). inl early)
    (λ (late : old.round * copies s ≤ a).
    let elsewhere : a % copies s ≢ j = λ e'. differ (omega (
      arith,
      running.attempt,
      attempt_of_slot a old.round (copies s) late h.0,
      e',
    )) in
    inr (h.0, sym (ap is_ended (get_or-set_other old.slots j (a % copies s) Ended Ended elsewhere)) ∙ h.1))
    (cases_lt a (old.round * copies s)))
    (ended_fact s m a e)))
    (λ e. ended_test s m a (⊎_elim (λ (h : a < old.round * copies s). inl h)
    (λ h.
    let elsewhere : a % copies s ≢ j = λ e'.
    (let over : is_ended (slot_at old.slots j) ≡ true = ap (λ (k : ℕ). is_ended (slot_at old.slots k))
    (sym e') ∙ h.1 in
    let on : is_ended (slot_at old.slots j) ≡ false = ap is_ended running.slot in cc) in
    inr (h.0, ap is_ended (get_or-set_other old.slots j (a % copies s) Ended Ended elsewhere) ∙ h.1))
    (ended_fact s old a e)))

-- what a finish keeps has ended then, and all else is as it was
number-finishes : (s : Setting) (old : Machine) (t : Ticket) (end : PassEnd) (verdict : FinishVerdict)
    (a : ℕ) → IsRunning s old t →
    slot_of s t < length old.slots → slot_of s t < copies s →
    (if has_ended s old a then 1 else 0) + kept_by (Finish t end verdict) a
    ≡ (if has_ended s (slot_finished old (slot_of s t) end verdict) a then 1 else 0)
number-finishes s old t end Void a running within below = rw (number-void s old t end a running within)
    (omega arith)
number-finishes s old t end Kept a running within below =
    ⊎_elim
    (λ h.
    let here : t.attempt ≡ a = h.1 in
    let test : (t.attempt == a) ≡ true = h.0 in
    let before : has_ended s old a ≡ false = ap (has_ended s old) (sym here)
    ∙ ended_before s old t end running in
    let after : has_ended s (slot_finished old (slot_of s t) end Kept) a ≡ true =
    ap (has_ended s (slot_finished old (slot_of s t) end Kept)) (sym here)
    ∙ ended_after s old t end running within below in
    rw (before, after, test) refl)
    (λ h.
    let test : (t.attempt == a) ≡ false = h.0 in
    rw (ended_elsewhere s old t end a running within h.1, test) (omega arith))
    (eqb_tells t.attempt a)

-- each event keeps what ends by it
number-leads : (s : Setting) (old : Machine) (event : Event) (new : Machine) (a : ℕ) → IsSoundMachine s old →
    Leads s old event new →
    (if has_ended s old a then 1 else 0) + kept_by event a ≡ (if has_ended s new a then 1 else 0)
number-leads s old (Start t) new a sound leads =
    let same : has_ended s new a ≡ has_ended s old a =
    has_ended_same s old new a leads.round (is_ended-starts s old t new (a % copies s) leads) in
    rw same (omega arith)
number-leads s old (Finish t end verdict) new a sound leads =
    let below : slot_of s t < copies s = slot_within s old (Finish t end verdict) new sound leads in
    let settled' : has_ended s new a ≡ has_ended s (slot_finished old (slot_of s t) end verdict) a =
    ap (λ (k : Machine). has_ended s k a) leads.after
    ∙ has_ended-settled s (slot_finished old (slot_of s t) end verdict) a (omega arith) in
    number-finishes s old t end verdict a leads.judged.running (omega (arith, sound.many, below)) below
    ∙ ap (λ (b : Bool). if b then 1 else 0) (sym settled')

-- a run keeps what ends by it
number-runs : (s : Setting) (events : List Event) (old new : Machine) (a : ℕ) → IsSoundMachine s old →
    Runs s old events new →
    (if has_ended s old a then 1 else 0) + times_kept events a ≡ (if has_ended s new a then 1 else 0)
number-runs s [] old new a sound run = rw run (omega arith)
number-runs s (event ∷ events) old new a sound run =
    let first : (if has_ended s old a then 1 else 0) + kept_by event a ≡
    (if has_ended s run.0 a then 1 else 0) =
    number-leads s old event run.0 a sound run.1 in
    let rest : (if has_ended s run.0 a then 1 else 0) + times_kept events a ≡
    (if has_ended s new a then 1 else 0) =
    number-runs s events run.0 new a (sound-leads s old event run.0 sound run.1) run.2 in
    omega arith

-- no round is done at the beginning, or there are no slots
none_done : (s : Setting) → (beginning s).round * copies s ≡ 0
none_done s =
    ⊎_elim (λ h. rw h.1 (omega arith)) (λ h. rw h.0 (omega arith)) (eqb_tells (copies s) 0)

-- at the beginning no attempt has ended
none_ended : (s : Setting) (a : ℕ) → has_ended s (beginning s) a ≡ false
unfolding EndedFact
none_ended s a = by_value (has_ended s (beginning s) a) refl where
  none : (beginning s).round * copies s ≡ 0
  none = none_done s

  no_fact : EndedFact s (beginning s) a → ⊥
  no_fact f =
      ⊎_elim (λ (h : a < (beginning s).round * copies s). omega (arith, h, none))
      (λ h.
      let some : 0 < copies s = omega (arith, h.0, none, add-mul ((beginning s).round) 1 (copies s)) in
      let fresh : slot_at (beginning s).slots (a % copies s) ≡ Pending Loose =
      fresh_slots (copies s) (a % copies s) (mod_below a (copies s) some) in
      let over : is_ended (slot_at (beginning s).slots (a % copies s)) ≡ true = h.1 in
      let waits : is_ended (slot_at (beginning s).slots (a % copies s)) ≡ false = ap is_ended fresh in cc)
      f

  by_value : (b : Bool) → has_ended s (beginning s) a ≡ b → b ≡ false
  by_value false e = refl
  by_value true e = absurd (no_fact (ended_fact s (beginning s) a e))

-- an attempt was kept once where it has ended, and else never
pub kept_once : (s : Setting) (events : List Event) (m : Machine) (a : ℕ) → IsRun s events m →
    times_kept events a ≡ (if has_ended s m a then 1 else 0)
kept_once s events m a run =
    let all : 0 + times_kept events a ≡ (if has_ended s m a then 1 else 0) =
    subst (λ (b : Bool). (if b then 1 else 0) + times_kept events a ≡ (if has_ended s m a then 1 else 0))
    (none_ended s a)
    (number-runs s events (beginning s) m a (sound-beginning s) run) in
    omega arith
