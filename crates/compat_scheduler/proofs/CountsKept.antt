-- The counts of a scheduler stay those that its slots give from scratch.
use Rattle.std.proofs.Common.{◌≡◌, ℕ, ◌+◌, ◌*◌, ◌%◌, ◌<◌, ◌≤◌, Bool, true, false, List, length, replicate}
use Rattle.std.proofs.Common.{◌++◌, take, drop, get_or, refl, sym, ap, ◌∙◌, subst, ⊎_elim, arith}
use Rattle.std.specs.List.{slice_set, list_all}
use Rattle.std.proofs.Math.Nat.{mul-le-mul_right}
use Rattle.std.proofs.lemmas.Bool.{cases_lt}
use Rattle.std.proofs.lemmas.List.{length-replicate, length-set, get_or-replicate, get_or_default, take_at}
use Rattle.seuss_base.specs.declared.level.Level.{Level}
use Rattle.seuss_base.specs.declared.level.Level.TheVariants.{Never, Loose, Firm}
use Rattle.seuss_base.specs.declared.outcome.PassEnd.{PassEnd}
use Rattle.compat_scheduler.specs.declared.counting.BarCounts.{BarCounts}
use Rattle.compat_scheduler.specs.declared.slot.Slot.{Slot}
use Rattle.compat_scheduler.specs.declared.slot.Slot.TheVariants.{Pending, Running, Ended}
use Rattle.compat_scheduler.specs.declared.ticket.Ticket.{Ticket}
use Rattle.compat_scheduler.specs.declared.ticket.FinishVerdict.{FinishVerdict}
use Rattle.compat_scheduler.specs.declared.ticket.FinishVerdict.TheVariants.{Kept, Void}
use Rattle.compat_scheduler.specs.Settings.{Setting, action_of, copies}
use Rattle.compat_scheduler.specs.Machines.{IsRunning, Machine, Scheduler, slot_at, slot_of, is_running}
use Rattle.compat_scheduler.specs.Starts.{IsFirst, IsNext, MayStart, NoneStarts, RunsFrom, Starts}
use Rattle.compat_scheduler.specs.Finishes.{Finishes, is_ended, slot_after, slot_finished}
use Rattle.compat_scheduler.specs.Soundness.{IsScheduler, IsSoundSlot}
use Rattle.compat_scheduler.specs.Bars.{IsPending, barring_count}
use Rattle.compat_scheduler.specs.Counts.{AreCounts, DoCount, HasRoom, IsFirstFree, IsFree, count_in}
use Rattle.compat_scheduler.specs.Counts.{counts_at, counts_of, counts_with, no_counts}
use Rattle.compat_scheduler.proofs.Sums.{each_ended}
use Rattle.compat_scheduler.proofs.SoundLemmas.{fresh_slots, within_slots}
use Rattle.compat_scheduler.proofs.SlotLemmas.{slot_at_past}
use Rattle.compat_scheduler.proofs.CountLemmas.{idle_ended}
use Rattle.compat_scheduler.proofs.RunLemmas.{settled_either}
use Rattle.compat_scheduler.proofs.SchedulerLemmas.{first_holds}
use Rattle.compat_scheduler.proofs.BarLemmas.{allowed_of_none, none_of_allowed, none_where_idle}
use Rattle.compat_scheduler.proofs.BarLemmas.{count_of_newcomer, count_of_leaver, count_within}

-- counts with equal parts are one
same_counts : (a b : BarCounts) → a.loose ≡ b.loose → a.firm ≡ b.firm → a ≡ b
same_counts a b loose firm = λ i. record { loose = loose i; firm = firm i }

-- the count of a slot that is pending in a mode
pub count_is : (s : Setting) (slots : List Slot) (counts : List BarCounts) (i : ℕ) (x : Level) →
    AreCounts s slots counts → i < length slots → IsSoundSlot (Pending x) →
    count_in x (counts_at counts i) ≡ barring_count s slots i x
count_is s slots counts i Never are within sound = absurd sound
count_is s slots counts i Loose are within sound = ap (λ (c : BarCounts). c.loose) (are.right i within)
count_is s slots counts i Firm are within sound = ap (λ (c : BarCounts). c.firm) (are.right i within)

-- a free slot may start
pub may_start_free : (s : Setting) (slots : List Slot) (counts : List BarCounts) (i : ℕ) (x : Level) →
    AreCounts s slots counts → IsSoundSlot (slot_at slots i) →
    IsFree (slot_at slots i) (counts_at counts i) x → MayStart s slots i x
may_start_free s slots counts i x are sound free =
    let within : i < length slots = within_slots slots i (ap is_ended free.pending) in
    let is : count_in x (counts_at counts i) ≡ barring_count s slots i x =
    count_is s slots counts i x are within (subst IsSoundSlot free.pending sound) in
    record { pending = free.pending; allowed = allowed_of_none s slots i x (sym is ∙ free.none) }

-- a slot that may start is free
pub free_to_start : (s : Setting) (slots : List Slot) (counts : List BarCounts) (i : ℕ) (x : Level) →
    AreCounts s slots counts → IsSoundSlot (slot_at slots i) → MayStart s slots i x →
    IsFree (slot_at slots i) (counts_at counts i) x
free_to_start s slots counts i x are sound may =
    let within : i < length slots = within_slots slots i (ap is_ended may.pending) in
    let is : count_in x (counts_at counts i) ≡ barring_count s slots i x =
    count_is s slots counts i x are within (subst IsSoundSlot may.pending sound) in
    record { pending = may.pending; none = is ∙ none_of_allowed s slots i x may.allowed }

-- each count has room for one more, where there are few slots
pub counts_have_room : (s : Setting) (slots : List Slot) (counts : List BarCounts) (i : ℕ) →
    AreCounts s slots counts → i < length slots → length slots ≤ 10000000 → HasRoom (counts_at counts i)
counts_have_room s slots counts i are within few =
    let is : counts_at counts i ≡ counts_of s slots i = are.right i within in
    record {
      loose = omega (arith, ap (λ (c : BarCounts). c.loose) is, count_within s slots i Loose, few);
      firm = omega (arith, ap (λ (c : BarCounts). c.firm) is, count_within s slots i Firm, few);
    }

-- there are few slots while a round is left
pub slots_few : (s : Setting) (round : ℕ) → round < s.rounds → s.rounds * copies s ≤ 10000000 →
    copies s ≤ 10000000
slots_few s round left few =
    let once : 1 * copies s ≤ s.rounds * copies s = mul-le-mul_right (copies s) (omega arith) in
    omega (arith, once, few)

-- a slot that runs is counted at each slot that it bars
pub counts_do_count : (s : Setting) (slots : List Slot) (counts : List BarCounts) (i j pass : ℕ) (y : Level)
    (clean : Bool) → AreCounts s slots counts → i < length slots → j < length slots →
    slot_at slots j ≡ Running pass y clean → DoCount s i j y (counts_at counts i)
counts_do_count s slots counts i j pass y clean are within there runs =
    let is : counts_at counts i ≡ counts_of s slots i = are.right i within in
    record {
      loose = omega (
        arith,
        ap (λ (c : BarCounts). c.loose) is,
        count_of_leaver s slots j pass y clean Ended there runs refl i Loose,
      );
      firm = omega (
        arith,
        ap (λ (c : BarCounts). c.firm) is,
        count_of_leaver s slots j pass y clean Ended there runs refl i Firm,
      );
    }

-- the counts after a start
pub counts_after_start : (s : Setting) (old new : List Slot) (counts after : List BarCounts) (j pass : ℕ)
    (y : Level) → AreCounts s old counts → j < length old → is_running (slot_at old j) ≡ false →
    RunsFrom s old j pass y new → length after ≡ length counts →
    ((i : ℕ) → i < length old → counts_at after i ≡ counts_with s i j y (counts_at counts i)) →
    AreCounts s new after
counts_after_start s old new counts after j pass y are within idle runs long each = record {
  many = long ∙ are.many ∙ sym runs.many;
  right = λ i h.
      let here : i < length old = omega (arith, h, runs.many) in
      each i here ∙ ap (counts_with s i j y) (are.right i here)
      ∙ same_counts (counts_with s i j y (counts_of s old i)) (counts_of s new i)
      (sym (count_of_newcomer s old new j pass y within idle runs i Loose))
      (sym (count_of_newcomer s old new j pass y within idle runs i Firm));
}

-- the counts after a slot has ended or is pending again
pub counts_after_finish : (s : Setting) (old : List Slot) (counts after : List BarCounts) (j pass : ℕ)
    (y : Level) (clean : Bool) (slot : Slot) → AreCounts s old counts → j < length old →
    slot_at old j ≡ Running pass y clean → is_running slot ≡ false → length after ≡ length counts →
    ((i : ℕ) → i < length old → counts_with s i j y (counts_at after i) ≡ counts_at counts i) →
    AreCounts s (slice_set old j slot) after
counts_after_finish s old counts after j pass y clean slot are within runs idle long each = record {
  many = long ∙ are.many ∙ sym (length-set old j slot);
  right = λ i h.
      let here : i < length old = omega (arith, h, length-set old j slot) in
      let is : counts_with s i j y (counts_at after i) ≡ counts_of s old i =
      each i here ∙ are.right i here in
      same_counts (counts_at after i) (counts_of s (slice_set old j slot) i)
      (omega (
        arith,
        ap (λ (c : BarCounts). c.loose) is,
        count_of_leaver s old j pass y clean slot within runs idle i Loose,
      ))
      (omega (
        arith,
        ap (λ (c : BarCounts). c.firm) is,
        count_of_leaver s old j pass y clean slot within runs idle i Firm,
      ));
}

-- in a round that begins no slot runs
fresh_idle : (n i : ℕ) → is_running (slot_at (replicate n (Pending Loose)) i) ≡ false
fresh_idle n i =
    ⊎_elim (λ (h : i < n). ap is_running (fresh_slots n i h))
    (λ (h : n ≤ i). ap is_running (slot_at_past (replicate n (Pending Loose)) i (omega (
      arith,
      length-replicate n (Pending Loose),
    ))))
    (cases_lt i n)

-- where no slot runs nothing is counted
counts_where_idle : (s : Setting) (slots : List Slot) (i : ℕ) →
    ((j : ℕ) → is_running (slot_at slots j) ≡ false) → counts_of s slots i ≡ no_counts
counts_where_idle s slots i idle =
    same_counts (counts_of s slots i) no_counts (none_where_idle s slots i Loose idle)
    (none_where_idle s slots i Firm idle)

-- the counts of a round in which all slots have ended are those of the next one
pub counts_of_next : (s : Setting) (slots : List Slot) (counts : List BarCounts) (n : ℕ) →
    AreCounts s slots counts → length slots ≡ n → list_all is_ended slots ≡ true →
    AreCounts s (replicate n (Pending Loose)) counts
counts_of_next s slots counts n are long ended = record {
  many = are.many ∙ long ∙ sym (length-replicate n (Pending Loose));
  right = λ i h.
      let here : i < length slots = omega (arith, h, long, length-replicate n (Pending Loose)) in
      are.right i here
      ∙ counts_where_idle s slots i (λ j. idle_ended (slot_at slots j) (each_ended slots j ended))
      ∙ sym (counts_where_idle s (replicate n (Pending Loose)) i (fresh_idle n));
}

-- the counts at the beginning
pub counts_at_beginning : (s : Setting) (n : ℕ) →
    AreCounts s (replicate n (Pending Loose)) (replicate n no_counts)
counts_at_beginning s n = record {
  many = length-replicate n no_counts ∙ sym (length-replicate n (Pending Loose));
  right = λ i h.
      get_or-replicate n i no_counts no_counts (omega (arith, h, length-replicate n (Pending Loose)))
      ∙ sym (counts_where_idle s (replicate n (Pending Loose)) i (fresh_idle n));
}

-- the first free slot is the first that may start
pub first_by_counts : (s : Setting) (slots : List Slot) (counts : List BarCounts) (i : ℕ) (x : Level) →
    AreCounts s slots counts → ((j : ℕ) → IsSoundSlot (slot_at slots j)) → IsFirstFree slots counts i x →
    IsFirst s slots i x
first_by_counts s slots counts i x are sound first = record {
  may = may_start_free s slots counts i x are (sound i) first.free;
  first = λ j y before may. first.first j y before (free_to_start s slots counts j y are (sound j) may);
}

-- where no slot is free none may start
pub none_by_counts : (s : Setting) (slots : List Slot) (counts : List BarCounts) → AreCounts s slots counts →
    ((j : ℕ) → IsSoundSlot (slot_at slots j)) →
    ((i : ℕ) (x : Level) → ¬ IsFree (slot_at slots i) (counts_at counts i) x) →
    (i : ℕ) (x : Level) → ¬ MayStart s slots i x
none_by_counts s slots counts are sound none i x may =
    none i x (free_to_start s slots counts i x are (sound i) may)

-- the next ticket, by the counts
pub next_by_counts : (sched : Scheduler) (s : Setting) (m : Machine) (counts read : List BarCounts)
    (slots : List Slot) (slot attempt action : ℕ) (mode : Level) →
    (let inside : Scheduler = record { setting = s; machine = m } in inside ≡ sched) →
    IsScheduler s m → AreCounts s m.slots counts → slots ≡ m.slots → read ≡ counts →
    IsFirstFree slots read slot mode → m.stopped ≡ false → (m.round ≡ s.rounds → ⊥) →
    attempt ≡ m.round * copies s + slot → attempt % copies s ≡ slot → action ≡ action_of s slot →
    IsNext sched.setting sched.machine
    (record { pass = m.starts; attempt = attempt; action = action; mode = mode })
next_by_counts sched s m counts read slots slot attempt action mode view scheduler are same also first going
    left number place named =
    let free : IsFirstFree m.slots counts slot mode =
    subst (λ (c : List BarCounts). IsFirstFree m.slots c slot mode) also
    (subst (λ (xs : List Slot). IsFirstFree xs read slot mode) same first) in
    let t : Ticket = record { pass = m.starts; attempt = attempt; action = action; mode = mode } in
    let next : IsNext s m t = record {
      going = going;
      left = omega (arith, left, scheduler.sound.within);
      first = subst (λ (k : ℕ). IsFirst s m.slots k mode) (sym place)
          (first_by_counts s m.slots counts slot mode are scheduler.sound.lawful free);
      pass = refl;
      attempt = number ∙ ap (λ (k : ℕ). m.round * copies s + k) (sym place);
      action = named ∙ ap (action_of s) (sym place);
    } in
    subst (λ (v : Scheduler). IsNext v.setting v.machine t) view next

-- no ticket is next, by the counts
pub none_starts_by_counts : (sched : Scheduler) (s : Setting) (m : Machine) (counts read : List BarCounts)
    (slots : List Slot) →
    (let inside : Scheduler = record { setting = s; machine = m } in inside ≡ sched) →
    IsScheduler s m → AreCounts s m.slots counts → slots ≡ m.slots → read ≡ counts →
    ((i : ℕ) (x : Level) → ¬ IsFree (slot_at slots i) (counts_at read i) x) →
    NoneStarts sched.setting sched.machine
none_starts_by_counts sched s m counts read slots view scheduler are same also none =
    let here : (i : ℕ) (x : Level) → ¬ IsFree (slot_at m.slots i) (counts_at counts i) x =
    λ i x free. none i x (rw (same, also) free) in
    let nothing : NoneStarts s m = λ t next. none_by_counts s m.slots counts are scheduler.sound.lawful here
    (slot_of s t) t.mode next.first.may in
    subst (λ (v : Scheduler). NoneStarts v.setting v.machine) view nothing

-- how many bar a slot that is pending, by its count
pub barred_by_counts : (sched : Scheduler) (s : Setting) (m : Machine) (counts : List BarCounts) (i read : ℕ)
    (slot : Slot) (found : BarCounts) (x : Level) →
    (let inside : Scheduler = record { setting = s; machine = m } in inside ≡ sched) →
    IsScheduler s m → AreCounts s m.slots counts → IsPending sched.machine.slots i →
    slot ≡ get_or m.slots i slot → slot ≡ Pending x → found ≡ get_or counts i found →
    read ≡ count_in x found → (y : Level) → slot_at sched.machine.slots i ≡ Pending y →
    read ≡ barring_count sched.setting sched.machine.slots i y
barred_by_counts sched s m counts i read slot found x view scheduler are pending at is there given y here =
    let before : IsPending m.slots i =
    subst (λ (v : Scheduler). IsPending v.machine.slots i) (sym view) pending in
    let within : i < length m.slots = within_slots m.slots i (ap is_ended before.1) in
    let waits : slot_at m.slots i ≡ Pending x =
    sym (get_or_default m.slots i slot Ended within) ∙ sym at ∙ is in
    let also : slot_at m.slots i ≡ Pending y =
    subst (λ (v : Scheduler). slot_at v.machine.slots i ≡ Pending y) (sym view) here in
    let one : x ≡ y = (let e : Pending x ≡ Pending y = sym waits ∙ also in cc) in
    let counted : found ≡ counts_at counts i =
    there ∙ get_or_default counts i found no_counts (omega (arith, within, are.many)) in
    let value : read ≡ barring_count s m.slots i x =
    given ∙ ap (count_in x) counted
    ∙ count_is s m.slots counts i x are within (subst IsSoundSlot waits (scheduler.sound.lawful i)) in
    subst (λ (v : Scheduler). read ≡ barring_count v.setting v.machine.slots i y) view
    (value ∙ ap (barring_count s m.slots i) one)

-- while a ticket is next each count has room for one more
pub start_has_room : (sched : Scheduler) (s : Setting) (m : Machine) (t : Ticket)
    (counts read : List BarCounts) →
    (let inside : Scheduler = record { setting = s; machine = m } in inside ≡ sched) →
    IsScheduler s m → AreCounts s m.slots counts → IsNext sched.setting sched.machine t → read ≡ counts →
    (i : ℕ) → i < copies s → HasRoom (counts_at read i)
start_has_room sched s m t counts read view scheduler are next same i within =
    let here : IsNext s m t = subst (λ (v : Scheduler). IsNext v.setting v.machine t) (sym view) next in
    let few : copies s ≤ 10000000 = slots_few s m.round here.left scheduler.few in
    let many : length m.slots ≡ copies s = scheduler.sound.many in
    subst (λ (c : List BarCounts). HasRoom (counts_at c i)) (sym same)
    (counts_have_room s m.slots counts i are (omega (arith, many, within)) (omega (arith, many, few)))

-- what is written of the counts at a start are the counts after it
pub start_counts : (s : Setting) (old : Machine) (t : Ticket) (new : Machine)
    (counts read after : List BarCounts) (i n : ℕ) → IsScheduler s old → AreCounts s old.slots counts →
    Starts s old t new → read ≡ counts → length read ≡ n → i ≡ slot_of s t → length after ≡ length read →
    ((k : ℕ) → k < copies s → counts_at after k ≡ counts_with s k i t.mode (counts_at read k)) →
    AreCounts s new.slots (take n (after ++ drop (length after) counts))
start_counts s old t new counts read after i n scheduler are starts same long at kept each =
    let written : take n (after ++ drop (length after) counts) ≡ after =
    take_at after (drop (length after) counts) n (kept ∙ long) in
    let waits : slot_at old.slots (slot_of s t) ≡ Pending t.mode = starts.next.first.may.pending in
    let many : length old.slots ≡ copies s = scheduler.sound.many in
    subst (AreCounts s new.slots) (sym written)
    (counts_after_start s old.slots new.slots counts after (slot_of s t) t.pass t.mode are
    (within_slots old.slots (slot_of s t) (ap is_ended waits)) (ap is_running waits) starts.slots
    (kept ∙ ap length same)
    (λ k h. subst (λ (c : List BarCounts). counts_at after k ≡ counts_with s k (slot_of s t) t.mode
    (counts_at c k)) same
    (subst (λ (j : ℕ). counts_at after k ≡ counts_with s k j t.mode (counts_at read k)) at
    (each k (omega (arith, h, many))))))

-- a pass that runs is counted at each slot that it bars
pub finish_is_counted : (sched : Scheduler) (s : Setting) (m : Machine) (t : Ticket)
    (counts read : List BarCounts) (j : ℕ) →
    (let inside : Scheduler = record { setting = s; machine = m } in inside ≡ sched) →
    IsScheduler s m → AreCounts s m.slots counts → IsRunning sched.setting sched.machine t → read ≡ counts →
    j ≡ slot_of s t → (i : ℕ) → i < copies s → DoCount s i j t.mode (counts_at read i)
finish_is_counted sched s m t counts read j view scheduler are running same at i within =
    let here : IsRunning s m t =
    subst (λ (v : Scheduler). IsRunning v.setting v.machine t) (sym view) running in
    let there : slot_of s t < length m.slots = within_slots m.slots (slot_of s t) (ap is_ended here.slot) in
    let many : length m.slots ≡ copies s = scheduler.sound.many in
    subst (λ (c : List BarCounts). DoCount s i j t.mode (counts_at c i)) (sym same)
    (subst (λ (k : ℕ). DoCount s i k t.mode (counts_at counts i)) (sym at)
    (counts_do_count s m.slots counts i (slot_of s t) t.pass t.mode here.clean are
    (omega (arith, many, within)) there here.slot))

-- what follows on a verdict doesn't run
idle_after : (verdict : FinishVerdict) → is_running (slot_after verdict) ≡ false
idle_after Kept = refl
idle_after Void = refl

-- what is written of the counts at a finish are the counts after it, before the round is settled
finish_counts_here : (s : Setting) (old : Machine) (t : Ticket) (verdict : FinishVerdict)
    (counts read after : List BarCounts) (j n : ℕ) → IsScheduler s old → AreCounts s old.slots counts →
    IsRunning s old t → read ≡ counts → length read ≡ n → j ≡ slot_of s t → length after ≡ length read →
    ((k : ℕ) → k < copies s → counts_with s k j t.mode (counts_at after k) ≡ counts_at read k) →
    AreCounts s (slice_set old.slots (slot_of s t) (slot_after verdict))
    (take n (after ++ drop (length after) counts))
finish_counts_here s old t verdict counts read after j n scheduler are running same long at kept each =
    let written : take n (after ++ drop (length after) counts) ≡ after =
    take_at after (drop (length after) counts) n (kept ∙ long) in
    let many : length old.slots ≡ copies s = scheduler.sound.many in
    subst (AreCounts s (slice_set old.slots (slot_of s t) (slot_after verdict))) (sym written)
    (counts_after_finish s old.slots counts after (slot_of s t) t.pass t.mode running.clean
    (slot_after verdict) are (within_slots old.slots (slot_of s t) (ap is_ended running.slot)) running.slot
    (idle_after verdict) (kept ∙ ap length same)
    (λ k h. subst (λ (i : ℕ). counts_with s k i t.mode (counts_at after k) ≡ counts_at counts k) at
    (each k (omega (arith, h, many)) ∙ ap (λ (c : List BarCounts). counts_at c k) same)))

-- what is written of the counts at a finish are the counts after it
pub finish_counts : (s : Setting) (old : Machine) (t : Ticket) (end : PassEnd) (verdict : FinishVerdict)
    (new : Machine) (counts read after : List BarCounts) (j n : ℕ) → IsScheduler s old →
    AreCounts s old.slots counts → Finishes s old t end verdict new → read ≡ counts → length read ≡ n →
    j ≡ slot_of s t → length after ≡ length read →
    ((k : ℕ) → k < copies s → counts_with s k j t.mode (counts_at after k) ≡ counts_at read k) →
    AreCounts s new.slots (take n (after ++ drop (length after) counts))
finish_counts s old t end verdict new counts read after j n scheduler are finishes same long at kept each =
    let m : Machine = slot_finished old (slot_of s t) end verdict in
    let here : AreCounts s m.slots (take n (after ++ drop (length after) counts)) =
    finish_counts_here s old t verdict counts read after j n scheduler are finishes.judged.running same long
    at kept each in
    subst (λ (k : Machine). AreCounts s k.slots (take n (after ++ drop (length after) counts)))
    (sym finishes.after)
    (⊎_elim
    (λ h. subst (λ (k : Machine). AreCounts s k.slots (take n (after ++ drop (length after) counts)))
    (sym h.1) (counts_of_next s m.slots (take n (after ++ drop (length after) counts)) (copies s) here
    (length-set old.slots (slot_of s t) (slot_after verdict) ∙ scheduler.sound.many)
    (first_holds (list_all is_ended m.slots) m.stopped h.0)))
    (λ h. subst (λ (k : Machine). AreCounts s k.slots (take n (after ++ drop (length after) counts)))
    (sym h.1) here)
    (settled_either s m))
