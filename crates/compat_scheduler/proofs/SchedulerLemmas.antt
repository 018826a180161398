-- What a start and a finish do to a whole scheduler.
use Rattle.std.proofs.Common.{◌≡◌, ◌≢◌, ℕ, ◌+◌, ◌*◌, ◌<◌, ◌≤◌, ◌^◌, Bool, true, false, ◌&&◌, ◌||◌, not}
use Rattle.std.proofs.Common.{List, ◌++◌, take, drop, replicate, length, get_or, refl, sym, ap, ◌∙◌, subst}
use Rattle.std.proofs.Common.{arith}
use Rattle.std.specs.List.{list_all, sum_by, slice_set}
use Rattle.std.proofs.Math.Nat.{add-mul, mul-le-mul_right}
use Rattle.std.proofs.lemmas.List.{get_or_default, get_or-set_other, take_at, length-set, length-replicate}
use Rattle.std.proofs.lemmas.List.Sums.{sum_by-le}
use Rattle.seuss_base.specs.declared.level.Level.{Level}
use Rattle.seuss_base.specs.declared.level.Level.TheVariants.{Never, Loose, Firm}
use Rattle.seuss_base.specs.declared.outcome.PassEnd.{PassEnd}
use Rattle.compat_scheduler.specs.declared.slot.Slot.{Slot}
use Rattle.compat_scheduler.specs.declared.slot.Slot.TheVariants.{Pending, Running, Ended}
use Rattle.compat_scheduler.specs.declared.ticket.Ticket.{Ticket}
use Rattle.compat_scheduler.specs.declared.ticket.FinishVerdict.{FinishVerdict}
use Rattle.compat_scheduler.specs.Settings.{Setting, copies, beside}
use Rattle.compat_scheduler.specs.Machines.{Machine, Scheduler, slot_at, slot_of, flag_of, beginning}
use Rattle.compat_scheduler.specs.Machines.{IsRunning}
use Rattle.compat_scheduler.specs.Starts.{IsNext, RunsFrom, Starts, lowered}
use Rattle.compat_scheduler.specs.Finishes.{is_ended, verdict_on, slot_after, stops, settled, slot_finished}
use Rattle.compat_scheduler.specs.Finishes.{IsVerdict, Finishes}
use Rattle.compat_scheduler.specs.Soundness.{passes_within, IsScheduler}
use Rattle.compat_scheduler.proofs.Sums.{one_not_ended}
use Rattle.compat_scheduler.proofs.SoundLemmas.{passes_within_most, sound-beginning, sound-starts}
use Rattle.compat_scheduler.proofs.SoundLemmas.{sound-finishes}

-- a start, by what is read and written of the slots
pub starts_written : (sched : Scheduler) (s : Setting) (old : Machine) (t : Ticket) (read new : List Slot)
    (i n : ℕ) →
    (let inside : Scheduler = record { setting = s; machine = old } in inside ≡ sched) →
    IsNext sched.setting sched.machine t →
    read ≡ old.slots → length read ≡ n → i ≡ slot_of s t → RunsFrom s read i t.pass t.mode new →
    Starts s old t (record {
      round = old.round;
      starts = old.starts + 1;
      stopped = old.stopped;
      slots =
          take n (new ++ drop (length new) old.slots);
    })
starts_written sched s old t read new i n view next same long at runs =
    let whole : take n (new ++ drop (length new) old.slots) ≡ new = take_at new (drop
    (length new) old.slots) n (runs.many ∙ long) in
    let here : IsNext s old t = subst (λ (v : Scheduler). IsNext v.setting v.machine t) (sym view) next in
    let from_old : RunsFrom s old.slots i t.pass t.mode new =
    subst (λ (slots : List Slot). RunsFrom s slots i t.pass t.mode new) same runs in
    let from_slot : RunsFrom s old.slots (slot_of s t) t.pass t.mode new =
    subst (λ (k : ℕ). RunsFrom s old.slots k t.pass t.mode new) at from_old in
    rw whole (record { next = here; slots = from_slot; starts = refl; round = refl; stopped = refl })

-- the passes that were started fit 64 bits, with one more
pub starts_fit : (s : Setting) (m : Machine) → IsScheduler s m → m.round < s.rounds → m.starts + 1 < 2 ^ 64
starts_fit s m scheduler left =
    let most : sum_by passes_within m.slots ≤ length m.slots * 2 =
    sum_by-le passes_within 2 m.slots (λ k d h. passes_within_most (get_or m.slots k d)) in
    let rounds : (m.round + 1) * copies s ≤ s.rounds * copies s =
    mul-le-mul_right (copies s) (omega arith) in
    omega (
      arith,
      most,
      rounds,
      add-mul m.round 1 (copies s),
      scheduler.few,
      scheduler.sound.counted,
      scheduler.sound.many,
    )

-- a start leaves a scheduler
pub scheduler-starts : (s : Setting) (old : Machine) (t : Ticket) (new : Machine) → IsScheduler s old →
    Starts s old t new → IsScheduler s new
scheduler-starts s old t new scheduler starts = record {
  sound = sound-starts s old t new scheduler.sound starts;
  few = scheduler.few;
  short = scheduler.short;
}

-- a finish leaves a scheduler
pub scheduler_after : (s : Setting) (old : Machine) (t : Ticket) (end : PassEnd) (verdict : FinishVerdict)
    (new : Machine) →
    IsScheduler s old → Finishes s old t end verdict new → IsScheduler s new
scheduler_after s old t end verdict new scheduler finishes =
    subst (IsScheduler s) (sym finishes.after)
    (record {
      sound = sound-finishes s old t end verdict scheduler.sound finishes.judged;
      few =
          scheduler.few;
      short = scheduler.short;
    })

-- whether the flag of a slot is up after a newcomer's start
still_up : Level → Bool → Bool
still_up Firm clean = clean
still_up Loose clean = false
still_up Never clean = false

lowered-running : (level : Level) (pass : ℕ) (mode : Level) (clean : Bool) →
    lowered level (Running pass mode clean) ≡ Running pass mode (still_up level clean)
unfolding still_up
lowered-running Firm pass mode clean = refl
lowered-running Loose pass mode clean = refl
lowered-running Never pass mode clean = refl

-- what runs goes on when another pass starts
pub running-starts : (s : Setting) (old : Machine) (t : Ticket) (new : Machine) (other : Ticket) →
    Starts s old t new →
    IsRunning s old other → IsRunning s new other
running-starts s old t new other starts running =
    let i : ℕ = slot_of s t in
    let j : ℕ = slot_of s other in
    let waits : slot_at old.slots i ≡ Pending t.mode = starts.next.first.may.pending in
    let runs : slot_at old.slots j ≡ Running other.pass other.mode running.clean = running.slot in
    let differ : j ≢ i = λ e. (let same : slot_at old.slots j ≡ slot_at old.slots i =
    ap (slot_at old.slots) e in cc) in
    record {
      clean = still_up (beside s j i) running.clean;
      slot = starts.slots.others j differ ∙ ap (lowered (beside s j i)) runs ∙ lowered-running
          (beside s j i) other.pass other.mode running.clean;
      attempt = rw starts.round running.attempt;
      action = running.action;
    }

-- the newcomer runs
pub running_newcomer : (s : Setting) (old : Machine) (t : Ticket) (new : Machine) → Starts s old t new →
    IsRunning s new t
running_newcomer s old t new starts = record {
  clean = starts.slots.clean;
  slot = starts.slots.here;
  attempt = rw starts.round starts.next.attempt;
  action = starts.next.action;
}

-- the round goes on while a slot hasn't ended
settled_stays : (s : Setting) (m : Machine) (j : ℕ) → is_ended (slot_at m.slots j) ≡ false → settled s m ≡ m
settled_stays s m j here = rw (one_not_ended m.slots j here) refl

-- where the first holds and not the second, the first holds
pub first_holds : (a b : Bool) → (a && not b) ≡ true → a ≡ true
first_holds true b e = refl
first_holds false b e = absurd (cc)

-- where the first holds and not the second, the second fails
pub second_fails : (a b : Bool) → (a && not b) ≡ true → b ≡ false
second_fails a false e = refl
second_fails true true e = absurd (cc)
second_fails false true e = absurd (cc)

-- what runs in another slot goes on when a pass finishes
pub running_elsewhere : (s : Setting) (old : Machine) (t : Ticket) (end : PassEnd)
    (verdict : FinishVerdict) (new : Machine) (other : Ticket) →
    Finishes s old t end verdict new → IsRunning s old other → slot_of s other ≢ slot_of s t →
    IsRunning s new other
running_elsewhere s old t end verdict new other finishes running differ =
    let i : ℕ = slot_of s t in
    let j : ℕ = slot_of s other in
    let goes_on : slot_at (slice_set old.slots i
    (slot_after verdict)) j ≡ Running other.pass other.mode running.clean =
    get_or-set_other old.slots i j (slot_after verdict) Ended differ ∙ running.slot in
    let stays : new ≡ slot_finished old i end verdict =
    finishes.after ∙ settled_stays s (slot_finished old i end verdict) j (ap is_ended goes_on) in
    subst (λ (m : Machine). IsRunning s m other) (sym stays)
    (record { clean = running.clean; slot = goes_on; attempt = running.attempt; action = running.action })

-- what runs goes on when another pass finishes
pub running-finishes : (s : Setting) (old : Machine) (t : Ticket) (end : PassEnd) (verdict : FinishVerdict)
    (new : Machine) (other : Ticket) →
    Finishes s old t end verdict new → IsRunning s old other → other.pass ≢ t.pass → IsRunning s new other
running-finishes s old t end verdict new other finishes running apart =
    let here : slot_at old.slots (slot_of s t) ≡ Running t.pass t.mode finishes.judged.running.clean =
    finishes.judged.running.slot in
    let runs : slot_at old.slots (slot_of s other) ≡ Running other.pass other.mode running.clean =
    running.slot in
    running_elsewhere s old t end verdict new other finishes running
    (λ e. apart (let same : slot_at old.slots (slot_of s other) ≡ slot_at old.slots (slot_of s t) =
    ap (slot_at old.slots) e in cc))

-- a finish that ends the round, by what is read and written of the slots
pub finishes_done : (sched : Scheduler) (s : Setting) (old : Machine) (t : Ticket) (end : PassEnd)
    (verdict : FinishVerdict)
    (i n : ℕ) (slot : Slot) (stopped done : Bool) (new : List Slot) →
    (let inside : Scheduler = record { setting = s; machine = old } in inside ≡ sched) →
    length old.slots ≡ copies s →
    IsVerdict sched.setting sched.machine t end verdict → i ≡ slot_of s t → slot ≡ slot_after verdict →
    stopped ≡ (old.stopped || stops end) → done ≡ (list_all is_ended
    (slice_set old.slots i slot) && not stopped) → done ≡ true →
    new ≡ replicate (length (slice_set old.slots i slot)) (Pending Loose) →
    length (slice_set old.slots i slot) ≡ n →
    Finishes s old t end verdict (record {
      round = old.round + 1;
      starts = old.starts;
      stopped = stopped;
      slots = take n (new ++ drop (length new) (slice_set old.slots i slot));
    })
finishes_done sched s old t end verdict i n slot stopped done new view many judged at after stop test over
    begun long =
    let here : IsVerdict s old t end verdict =
    subst (λ (v : Scheduler). IsVerdict v.setting v.machine t end verdict) (sym view) judged in
    let written : take n (new ++ drop (length new) (slice_set old.slots i slot)) ≡ new =
    take_at new (drop (length new) (slice_set old.slots i slot)) n (ap length begun ∙ length-replicate
    (length (slice_set old.slots i slot)) (Pending Loose) ∙ long) in
    let slots : new ≡ replicate (copies s) (Pending Loose) =
    begun ∙ ap (λ (k : ℕ). replicate k (Pending Loose)) (length-set old.slots i slot ∙ many) in
    let done' : (list_all is_ended (slot_finished old (slot_of s t) end verdict).slots && not
    (old.stopped || stops end)) ≡ true =
    rw (← at, ← after, ← stop, ← test) over in
    let going : stopped ≡ false = second_fails (list_all is_ended (slice_set old.slots i slot)) stopped
    (sym test ∙ over) in
    record {
      judged = here;
      after = rw (written, slots, going) (sym (rw done' refl));
    }

-- a finish that leaves the round going
pub finishes_going : (sched : Scheduler) (s : Setting) (old : Machine) (t : Ticket) (end : PassEnd)
    (verdict : FinishVerdict)
    (i : ℕ) (slot : Slot) (stopped done : Bool) →
    (let inside : Scheduler = record { setting = s; machine = old } in inside ≡ sched) →
    IsVerdict sched.setting sched.machine t end verdict → i ≡ slot_of s t → slot ≡ slot_after verdict →
    stopped ≡ (old.stopped || stops end) → done ≡ (list_all is_ended
    (slice_set old.slots i slot) && not stopped) → done ≡ false →
    Finishes s old t end verdict (record {
      round = old.round;
      starts = old.starts;
      stopped = stopped;
      slots = slice_set old.slots i slot;
    })
finishes_going sched s old t end verdict i slot stopped done view judged at after stop test over =
    let here : IsVerdict s old t end verdict =
    subst (λ (v : Scheduler). IsVerdict v.setting v.machine t end verdict) (sym view) judged in
    let done' : (list_all is_ended (slot_finished old (slot_of s t) end verdict).slots && not
    (old.stopped || stops end)) ≡ false =
    rw (← at, ← after, ← stop, ← test) over in
    record {
      judged = here;
      after = rw (at, after, stop) (sym (rw done' refl));
    }

-- a verdict, by what is read of the slots
pub verdict_read : (sched : Scheduler) (s : Setting) (m : Machine) (t : Ticket) (end : PassEnd)
    (verdict : FinishVerdict) (i : ℕ)
    (slot : Slot) (clean : Bool) → (let inside : Scheduler = record { setting = s; machine = m } in
    inside ≡ sched) → length m.slots ≡ copies s →
    IsRunning sched.setting sched.machine t → i ≡ slot_of s t → i < copies s →
    slot ≡ get_or m.slots i slot → clean ≡ flag_of slot →
    verdict ≡ verdict_on clean end → IsVerdict sched.setting sched.machine t end verdict
verdict_read sched s m t end verdict i slot clean view many running at within read up given =
    let here : IsRunning s m t = subst (λ (v : Scheduler). IsRunning v.setting v.machine t)
    (sym view) running in
    let whole : slot ≡ slot_at m.slots (slot_of s t) =
    read ∙ get_or_default m.slots i slot Ended (omega (arith, many, within)) ∙ ap (slot_at m.slots) at in
    let same : clean ≡ here.clean = up ∙ ap flag_of (whole ∙ here.slot) in
    let judged : IsVerdict s m t end verdict = record {
      running = here;
      given = given
          ∙ ap (λ (b : Bool). verdict_on b end) same;
    } in
    subst (λ (v : Scheduler). IsVerdict v.setting v.machine t end verdict) view judged

-- a scheduler at its beginning
pub scheduler-beginning : (s : Setting) → s.rounds * copies s ≤ 10000000 → copies s < 2 ^ 32 →
    IsScheduler s (beginning s)
scheduler-beginning s few short = record { sound = sound-beginning s; few = few; short = short }

-- what a scheduler runs goes on when another pass finishes
pub runs_on : (sched : Scheduler) (s : Setting) (old : Machine) (t : Ticket) (end : PassEnd)
    (verdict : FinishVerdict) (new : Machine) →
    (let inside : Scheduler = record { setting = s; machine = old } in inside ≡ sched) →
    Finishes s old t end verdict new → (other : Ticket) →
    IsRunning sched.setting sched.machine other → other.pass ≢ t.pass → IsRunning s new other
runs_on sched s old t end verdict new view finishes other running apart =
    running-finishes s old t end verdict new other finishes (subst (λ
    (v : Scheduler). IsRunning v.setting v.machine other) (sym view) running) apart
