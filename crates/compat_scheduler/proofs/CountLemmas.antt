-- How many passes run: those that were started, less those that have finished.
use Rattle.std.proofs.Common.{◌≡◌, ℕ, ◌+◌, ◌*◌, ◌<◌, ◌≤◌, Bool, true, false, cond, List, [], ◌∷◌}
use Rattle.std.proofs.Common.{length, get_or, replicate, sym, ap, ◌∙◌, ⊎_elim, arith, refl}
use Rattle.std.specs.Prelude.{Contains}
use Rattle.std.specs.List.{list_all, sum_by, count_by}
use Rattle.std.proofs.lemmas.List.{get_or_default, get_or-set_same, get_or-set_other, length-set}
use Rattle.std.proofs.lemmas.List.Folds.{sum_by-replicate}
use Rattle.std.proofs.lemmas.List.Sums.{sum_by-le}
use Rattle.seuss_base.specs.declared.level.Level.{Level}
use Rattle.seuss_base.specs.declared.level.Level.TheVariants.{Never, Loose, Firm}
use Rattle.seuss_base.specs.declared.outcome.PassEnd.{PassEnd}
use Rattle.compat_scheduler.specs.declared.slot.Slot.{Slot}
use Rattle.compat_scheduler.specs.declared.slot.Slot.TheVariants.{Pending, Running, Ended}
use Rattle.compat_scheduler.specs.declared.ticket.Ticket.{Ticket}
use Rattle.compat_scheduler.specs.declared.ticket.FinishVerdict.{FinishVerdict}
use Rattle.compat_scheduler.specs.declared.ticket.FinishVerdict.TheVariants.{Kept, Void}
use Rattle.compat_scheduler.specs.Settings.{Setting, copies, beside}
use Rattle.compat_scheduler.specs.Machines.{Machine, slot_at, slot_of, beginning, is_running, running_count}
use Rattle.compat_scheduler.specs.Machines.{IsRunning, IsAllDone}
use Rattle.compat_scheduler.specs.Starts.{Starts, lowered}
use Rattle.compat_scheduler.specs.Finishes.{Finishes, is_ended, slot_after, slot_finished}
use Rattle.compat_scheduler.specs.Soundness.{IsSoundMachine}
use Rattle.compat_scheduler.specs.Runs.{Event, Runs, IsRun, started, finishes_in}
use Rattle.compat_scheduler.specs.Runs.Event.{Start, Finish}
use Rattle.compat_scheduler.proofs.Sums.{sum_by_one_more, each_ended}
use Rattle.compat_scheduler.proofs.SchedulerLemmas.{first_holds}
use Rattle.compat_scheduler.proofs.SoundLemmas.{within_slots}
use Rattle.compat_scheduler.proofs.RunLemmas.{settled_either}
use Rattle.compat_scheduler.proofs.OverlapLemmas.{HasFinished, runs_or_finished}
use Rattle.compat_scheduler.proofs.ProgressLemmas.{none_runs}

-- 1 where a pass runs in the slot
abbrev one : Slot → ℕ
one slot = cond (is_running slot) 1 0

-- a newcomer leaves running what runs
one-lowered : (level : Level) (slot : Slot) → one (lowered level slot) ≡ one slot
one-lowered Firm slot = refl
one-lowered Never Ended = refl
one-lowered Never (Pending mode) = refl
one-lowered Never (Running pass mode clean) = refl
one-lowered Loose Ended = refl
one-lowered Loose (Pending mode) = refl
one-lowered Loose (Running pass mode clean) = refl

-- a slot after a verdict doesn't run
one-after : (verdict : FinishVerdict) → one (slot_after verdict) ≡ 0
one-after Kept = refl
one-after Void = refl

-- a slot that has ended doesn't run
pub idle_ended : (slot : Slot) → is_ended slot ≡ true → is_running slot ≡ false
idle_ended Ended e = refl
idle_ended (Pending mode) e = refl
idle_ended (Running pass mode clean) e = absurd (cc)

-- where no slot runs none is counted
none_counted : (slots : List Slot) → ((i : ℕ) → i < length slots → is_running (slot_at slots i) ≡ false) →
    count_by is_running slots ≡ 0
none_counted slots idle =
    let none : sum_by one slots ≤ length slots * 0 =
    sum_by-le one 0 slots (λ k d h.
    let here : one (get_or slots k d) ≡ 0 = ap (λ (b : Bool). cond b 1 0)
    (ap is_running (get_or_default slots k d Ended h) ∙ idle k h) in
    omega (arith, here)) in
    omega (arith, none)

-- in a round that begins nothing runs
none_pending : (n : ℕ) → count_by is_running (replicate n (Pending Loose)) ≡ 0
none_pending n = omega (arith, sum_by-replicate one n (Pending Loose))

-- where no pass is counted this one doesn't run
pub none_runs_there : (s : Setting) (m : Machine) (t : Ticket) → running_count m ≡ 0 → ¬ IsRunning s m t
none_runs_there s m t quiet runs =
    let off : is_running (slot_at m.slots (slot_of s t)) ≡ false = none_runs m.slots (slot_of s t) quiet in
    let on : is_running (slot_at m.slots (slot_of s t)) ≡ true = ap is_running runs.slot in cc

-- where all rounds are done nothing runs
pub quiet_when_done : (s : Setting) (m : Machine) → IsSoundMachine s m → IsAllDone s m → running_count m ≡ 0
quiet_when_done s m sound done =
    none_counted m.slots (λ i h. ap is_running (sound.over done i (omega (arith, h, sound.many))))

-- a start makes one pass more run
count_start : (s : Setting) (old : Machine) (t : Ticket) (new : Machine) → Starts s old t new →
    running_count new ≡ running_count old + 1
count_start s old t new starts =
    let i : ℕ = slot_of s t in
    let here : one (slot_at new.slots i) ≡ 1 = ap one starts.slots.here in
    let there : one (slot_at old.slots i) ≡ 0 = ap one starts.next.first.may.pending in
    sum_by_one_more one Ended old.slots new.slots i starts.slots.many
    (within_slots old.slots i (ap is_ended starts.next.first.may.pending)) (omega (arith, here, there))
    (λ j differ. ap one (starts.slots.others j differ) ∙ one-lowered (beside s j i) (slot_at old.slots j))

-- a finish makes one pass fewer run
count_finish : (s : Setting) (old : Machine) (t : Ticket) (end : PassEnd) (verdict : FinishVerdict)
    (new : Machine) → Finishes s old t end verdict new → running_count old ≡ running_count new + 1
count_finish s old t end verdict new finishes =
    ⊎_elim
    (λ h.
    let mine : running_count m ≡ 0 = none_counted m.slots (λ j within. idle_ended (slot_at m.slots j)
    (each_ended m.slots j (first_holds (list_all is_ended m.slots) m.stopped h.0))) in
    let its : running_count new ≡ 0 = ap running_count (finishes.after ∙ h.1) ∙ none_pending (copies s) in
    omega (arith, mine, its, less))
    (λ h. let its : running_count new ≡ running_count m = ap running_count (finishes.after ∙ h.1) in
    omega (arith, its, less))
    (settled_either s m)
  where
    i : ℕ
    i = slot_of s t

    m : Machine
    m = slot_finished old i end verdict

    runs : slot_at old.slots i ≡ Running t.pass t.mode finishes.judged.running.clean
    runs = finishes.judged.running.slot

    within : i < length old.slots
    within = within_slots old.slots i (ap is_ended runs)

    less : running_count old ≡ running_count m + 1
    less =
        let here : one (slot_at old.slots i) ≡ 1 = ap one runs in
        let there : one (slot_at m.slots i) ≡ 0 =
        ap one (get_or-set_same old.slots i (slot_after verdict) Ended within) ∙ one-after verdict in
        let long : length m.slots ≡ length old.slots = length-set old.slots i (slot_after verdict) in
        sum_by_one_more one Ended m.slots old.slots i (sym long) (omega (arith, within, long))
        (omega (arith, here, there))
        (λ j differ. sym (ap one (get_or-set_other old.slots i j (slot_after verdict) Ended differ)))

-- and so events do
count_runs : (s : Setting) (events : List Event) (old new : Machine) → Runs s old events new →
    running_count old + length (started events) ≡ finishes_in events + running_count new
count_runs s [] old new run = omega (arith, ap running_count run)
count_runs s (Start t ∷ events) old new run =
    omega (arith, count_start s old t run.0 run.1, count_runs s events run.0 new run.2)
count_runs s (Finish t end verdict ∷ events) old new run =
    omega (arith, count_finish s old t end verdict run.0 run.1, count_runs s events run.0 new run.2)

-- as many passes were started as have finished or run
pub counted : (s : Setting) (events : List Event) (m : Machine) → IsRun s events m →
    length (started events) ≡ finishes_in events + running_count m
counted s events m run =
    let none : running_count (beginning s) ≡ 0 = none_pending (copies s) in
    omega (arith, none, count_runs s events (beginning s) m run)

-- where nothing runs, each pass that was started has finished
pub all_finished : (s : Setting) (events : List Event) (m : Machine) (t : Ticket) → IsRun s events m →
    running_count m ≡ 0 → Contains events (Start t) → HasFinished events t
all_finished s events m t run quiet opened =
    ⊎_elim (λ (on : IsRunning s m t). absurd (none_runs_there s m t quiet on))
    (λ (done : HasFinished events t). done)
    (runs_or_finished s events (beginning s) m t run opened)
