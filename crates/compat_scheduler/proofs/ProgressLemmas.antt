-- Where nothing runs something may start, and the machine after a run is one.
use Rattle.std.proofs.Common.{◌≡◌, ℕ, ◌+◌, ◌*◌, ◌<◌, ◌≤◌, zero, suc, Bool, true, false, List, [], ◌∷◌, refl}
use Rattle.std.proofs.Common.{sym, ap, ◌∙◌, subst, ⊎_elim, arith}
use Rattle.std.specs.Prelude.{count_by, if◌then◌else◌}
use Rattle.std.specs.List.{list_all}
use Rattle.std.proofs.lemmas.List.Sums.{sum_by-cons}
use Rattle.std.proofs.lemmas.Bool.{cases_eq, cases_lt}
use Rattle.std.proofs.lemmas.List.{ext_get_or}
use Rattle.std.proofs.lemmas.Nat.{mod-mul-add}
use Rattle.seuss_base.specs.declared.level.Level.{Level}
use Rattle.compat_scheduler.specs.declared.slot.Slot.{Slot}
use Rattle.compat_scheduler.specs.declared.slot.Slot.TheVariants.{Pending, Running, Ended}
use Rattle.compat_scheduler.specs.declared.ticket.Ticket.{Ticket}
use Rattle.compat_scheduler.specs.Settings.{Setting, copies, action_of}
use Rattle.compat_scheduler.specs.Machines.{Machine, slot_at, slot_of, is_running, running_count}
use Rattle.compat_scheduler.specs.Starts.{IsAllowedBeside, MayStart, IsFirst, IsNext, RunsFrom}
use Rattle.compat_scheduler.specs.Finishes.{is_ended}
use Rattle.compat_scheduler.specs.Soundness.{IsSoundMachine}
use Rattle.compat_scheduler.specs.Runs.{Event, Leads, Runs}
use Rattle.compat_scheduler.specs.Runs.Event.{Start, Finish}
use Rattle.compat_scheduler.proofs.SoundLemmas.{within_slots}
use Rattle.compat_scheduler.proofs.OverlapLemmas.{same_ticket}

-- a slot that waits, before which all have ended
record Waiting (slots : List Slot) : Type 0 where
  at : ℕ
  mode : Level
  pending : slot_at slots at ≡ Pending mode
  ended : (j : ℕ) → j < at → is_ended (slot_at slots j) ≡ true

-- where nothing runs and not all have ended, a slot waits
first_waiting : (slots : List Slot) → count_by is_running slots ≡ 0 → list_all is_ended slots ≡ false →
    Waiting slots
first_waiting [] none some = absurd (cc)
first_waiting (Pending mode ∷ slots) none some = record {
  at = 0;
  mode = mode;
  pending = refl;
  ended =
      λ j h. absurd (omega arith);
}
first_waiting (Running pass mode clean ∷ slots) none some =
    absurd (let count : count_by is_running
    (Running pass mode clean ∷ slots) ≡ 1 + count_by is_running slots =
    sum_by-cons (λ (x : Slot). if is_running x then 1 else 0) (Running pass mode clean) slots in omega arith)
first_waiting (Ended ∷ slots) none some =
    let rest : Waiting slots = first_waiting slots none some in
    record {
      at = suc rest.at;
      mode = rest.mode;
      pending = rest.pending;
      ended =
          ended_before rest.at rest.ended;
    }
  where
    ended_before : (n : ℕ) → ((j : ℕ) → j < n → is_ended (slot_at slots j) ≡ true) → (j : ℕ) → j < suc n →
        is_ended (slot_at (Ended ∷ slots) j) ≡ true
    ended_before n before zero h = refl
    ended_before n before (suc j) h = before j (omega arith)

-- a slot that doesn't run bars nobody
allowed_beside_idle : (s : Setting) (i : ℕ) (x : Level) (j : ℕ) (slot : Slot) → is_running slot ≡ false →
    IsAllowedBeside s i x j slot
allowed_beside_idle s i x j Ended idle = tt
allowed_beside_idle s i x j (Pending mode) idle = tt
allowed_beside_idle s i x j (Running pass mode clean) idle = absurd (cc)

-- where none is counted none runs
pub none_runs : (slots : List Slot) (j : ℕ) → count_by is_running slots ≡ 0 →
    is_running (slot_at slots j) ≡ false
none_runs [] j none = refl
none_runs (Ended ∷ slots) zero none = refl
none_runs (Pending mode ∷ slots) zero none = refl
none_runs (Running pass mode clean ∷ slots) zero none =
    absurd (let count : count_by is_running
    (Running pass mode clean ∷ slots) ≡ 1 + count_by is_running slots =
    sum_by-cons (λ (x : Slot). if is_running x then 1 else 0) (Running pass mode clean) slots in omega arith)
none_runs (slot ∷ slots) (suc j) none =
    none_runs slots j (let count : count_by is_running (slot ∷ slots) ≡
    (if is_running slot then 1 else 0) + count_by is_running slots =
    sum_by-cons (λ (x : Slot). if is_running x then 1 else 0) slot slots in omega arith)

-- where nothing runs in a round that is left, something may start
pub may_start : (s : Setting) (m : Machine) → IsSoundMachine s m → running_count m ≡ 0 → m.stopped ≡ false →
    m.round < s.rounds →
    (t : Ticket) × IsNext s m t
may_start s m sound none going left =
    let waits : Waiting m.slots = first_waiting m.slots none (sound.unsettled going left) in
    let i : ℕ = waits.at in
    let within : i < copies s = omega (
      arith,
      sound.many,
      within_slots m.slots i
          (ap is_ended waits.pending),
    ) in
    let t : Ticket = record {
      pass = m.starts;
      attempt = m.round * copies s + i;
      action = action_of s i;
      mode = waits.mode;
    } in
    let at : slot_of s t ≡ i = mod-mul-add m.round (copies s) i within in
    let may : MayStart s m.slots i waits.mode = record {
      pending = waits.pending;
      allowed = λ j. allowed_beside_idle s i waits.mode j (slot_at m.slots j) (none_runs m.slots j none);
    } in
    let first : IsFirst s m.slots i waits.mode = record {
      may = may;
      first = λ j y before other.
          (let ended : is_ended (slot_at m.slots j) ≡ true = waits.ended j before in
          let open' : is_ended (slot_at m.slots j) ≡ false = ap is_ended other.pending in cc);
    } in (
      t,
      record {
        going = going;
        left = left;
        first = subst (λ (k : ℕ). IsFirst s m.slots k waits.mode) (sym at) first;
        pass = refl;
        attempt = ap (λ (k : ℕ). m.round * copies s + k) (sym at);
        action = ap (action_of s) (sym at);
      },
    )

-- the next ticket is one
pub next_is_one : (s : Setting) (m : Machine) (t u : Ticket) → IsNext s m t → IsNext s m u → t ≡ u
next_is_one s m t u next also =
    let one : slot_of s t ≡ slot_of s u =
    ⊎_elim (λ (h : slot_of s t < slot_of s u). absurd (also.first.first
    (slot_of s t) t.mode h next.first.may))
    (λ (h : slot_of s u ≤ slot_of s t).
    ⊎_elim (λ (e : slot_of s t ≡ slot_of s u). e)
    (λ (differ : slot_of s t ≡ slot_of s u → ⊥). absurd (next.first.first (slot_of s u) u.mode
    (omega arith) also.first.may))
    (cases_eq (slot_of s t) (slot_of s u)))
    (cases_lt (slot_of s t) (slot_of s u)) in
    let here : slot_at m.slots (slot_of s t) ≡ Pending t.mode = next.first.may.pending in
    let there : slot_at m.slots (slot_of s u) ≡ Pending u.mode = also.first.may.pending in
    let same : slot_at m.slots (slot_of s t) ≡ slot_at m.slots (slot_of s u) = ap (slot_at m.slots) one in
    same_ticket t u (next.pass ∙ sym also.pass) (omega (arith, next.attempt, also.attempt, one))
    (next.action ∙ ap (action_of s) one ∙ sym also.action) (cc)

-- two flags that say the same are one
same_flag : (a b : Bool) → (a ≡ true → b ≡ true) → (b ≡ true → a ≡ true) → a ≡ b
same_flag true b forth back = sym (forth refl)
same_flag false true forth back = absurd (let e : false ≡ true = back refl in cc)
same_flag false false forth back = refl

-- the slots after a start are determined
runs_from_one : (s : Setting) (old : List Slot) (i pass : ℕ) (mode : Level) (a b : List Slot) →
    RunsFrom s old i pass mode a → RunsFrom s old i pass mode b → a ≡ b
runs_from_one s old i pass mode a b one other =
    let flag : one.clean ≡ other.clean =
    same_flag one.clean other.clean (λ up. other.flag.1 (one.flag.0 up)) (λ up. one.flag.1
    (other.flag.0 up)) in
    ext_get_or Ended a b (one.many ∙ sym other.many)
    (λ j within. ⊎_elim
    (λ (e : j ≡ i). ap (slot_at a) e ∙ one.here ∙ ap (Running pass mode) flag ∙ sym (ap (slot_at b) e
    ∙ other.here))
    (λ (differ : j ≡ i → ⊥). one.others j differ ∙ sym (other.others j differ))
    (cases_eq j i))

-- machines with equal parts are one
same_machine : (a b : Machine) → a.round ≡ b.round → a.starts ≡ b.starts → a.stopped ≡ b.stopped →
    a.slots ≡ b.slots → a ≡ b
same_machine a b round starts stopped slots =
    let whole : Machine = record {
      round = a.round;
      starts = a.starts;
      stopped = a.stopped;
      slots =
          a.slots;
    } in
    let same : whole ≡ b = rw (round, starts, stopped, slots) refl in same

-- an event leads to one machine
leads_one : (s : Setting) (old : Machine) (event : Event) (a b : Machine) → Leads s old event a →
    Leads s old event b → a ≡ b
leads_one s old (Start t) a b one other =
    same_machine a b (one.round ∙ sym other.round) (one.starts ∙ sym other.starts) (one.stopped
    ∙ sym other.stopped)
    (runs_from_one s old.slots (slot_of s t) t.pass t.mode a.slots b.slots one.slots other.slots)
leads_one s old (Finish t end verdict) a b one other = one.after ∙ sym other.after

-- a run leads to one machine
pub runs_one : (s : Setting) (events : List Event) (old a b : Machine) → Runs s old events a →
    Runs s old events b → a ≡ b
runs_one s [] old a b one other = one ∙ sym other
runs_one s (event ∷ events) old a b one other =
    runs_one s events one.0 a b one.2
    (subst (λ (m : Machine). Runs s m events b) (sym
    (leads_one s old event one.0 other.0 one.1 other.1)) other.2)
