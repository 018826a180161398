-- A machine stays sound.
use Rattle.std.proofs.Common.{◌≡◌, ℕ, ◌+◌, ◌*◌, ◌<◌, ◌≤◌, Bool, true, false, ◌&&◌, not, IsTrue, List}
use Rattle.std.proofs.Common.{length, get_or, replicate, refl, sym, ap, ◌∙◌, subst, ⊎_elim, arith}
use Rattle.std.specs.List.{list_all, sum_by, slice_set}
use Rattle.std.proofs.lemmas.Bool.{cases_eq, cases_lt}
use Rattle.std.proofs.lemmas.Bool.Decides.{nat_tests}
use Rattle.std.specs.Prelude.{◌==◌, if◌then◌else◌}
use Rattle.std.proofs.Math.Nat.{add-mul}
use Rattle.std.proofs.lemmas.List.{length-replicate, get_or-replicate, get_or-set_same, get_or-set_other}
use Rattle.std.proofs.lemmas.List.{length-set}
use Rattle.std.proofs.lemmas.List.Sums.{sum_by-le, sum_by-set}
use Rattle.seuss_base.specs.Levels.{IsAtLeast}
use Rattle.seuss_base.specs.declared.level.Level.{Level}
use Rattle.seuss_base.specs.declared.level.Level.TheVariants.{Never, Loose, Firm}
use Rattle.seuss_base.specs.declared.outcome.PassEnd.{PassEnd}
use Rattle.seuss_base.specs.declared.outcome.PassEnd.TheVariants.{Accepted, PlainRejected, Rejected}
use Rattle.seuss_base.specs.declared.outcome.PassEnd.TheVariants.{Trapped, Spent}
use Rattle.compat_scheduler.specs.declared.slot.Slot.{Slot}
use Rattle.compat_scheduler.specs.declared.slot.Slot.TheVariants.{Pending, Running, Ended}
use Rattle.compat_scheduler.specs.declared.ticket.Ticket.{Ticket}
use Rattle.compat_scheduler.specs.declared.ticket.FinishVerdict.{FinishVerdict}
use Rattle.compat_scheduler.specs.declared.ticket.FinishVerdict.TheVariants.{Kept, Void}
use Rattle.compat_scheduler.specs.Settings.{Setting, copies, beside}
use Rattle.compat_scheduler.specs.Machines.{Machine, slot_at, slot_of, round_begun, beginning}
use Rattle.compat_scheduler.specs.Starts.{IsAllowedBeside, IsFirmBeside, IsFirmBesideAll, MayStart}
use Rattle.compat_scheduler.specs.Starts.{RunsFrom, Starts, lowered}
use Rattle.compat_scheduler.specs.Finishes.{is_ended, verdict_on, slot_after, settled, slot_finished}
use Rattle.compat_scheduler.specs.Finishes.{IsVerdict}
use Rattle.compat_scheduler.specs.Soundness.{IsSoundSlot, passes_within, IsSoundMachine}
use Rattle.compat_scheduler.proofs.SlotLemmas.{slot_at_past}
use Rattle.compat_scheduler.proofs.Sums.{sum_by_one_more, one_not_ended}

-- a slot that hasn't ended is within the list
pub within_slots : (slots : List Slot) (i : ℕ) → is_ended (slot_at slots i) ≡ false → i < length slots
within_slots slots i here =
    ⊎_elim (λ (h : i < length slots). h)
    (λ (h : length slots ≤ i). absurd (let e : is_ended (slot_at slots i) ≡ true =
    ap is_ended (slot_at_past slots i h) in cc))
    (cases_lt i (length slots))

-- each slot of a round that begins is pending in mode loose
pub fresh_slots : (n i : ℕ) → i < n → slot_at (replicate n (Pending Loose)) i ≡ Pending Loose
fresh_slots n i h = get_or-replicate n i (Pending Loose) Ended h

lawful_fresh : (n i : ℕ) → IsSoundSlot (slot_at (replicate n (Pending Loose)) i)
lawful_fresh n i =
    ⊎_elim (λ (h : i < n). subst IsSoundSlot (sym (fresh_slots n i h)) tt)
    (λ (h : n ≤ i). subst IsSoundSlot (sym (slot_at_past (replicate n (Pending Loose)) i (omega (
      arith,
      length-replicate n (Pending Loose),
    )))) tt)
    (cases_lt i n)

-- a round that begins is sound, where all rounds are done or there is a slot
pub sound-round_begun : (s : Setting) (round starts : ℕ) → round ≤ s.rounds → (round < s.rounds →
    0 < copies s) →
    starts ≤ 2 * (round * copies s) → IsSoundMachine s (round_begun s round starts)
sound-round_begun s round starts within some few = record {
  many = length-replicate (copies s) (Pending Loose);
  lawful = lawful_fresh (copies s);
  within = within;
  over = λ e i h. fresh_slots (copies s) i h;
  left = λ e. absurd (cc);
  unsettled = λ e h. one_not_ended (replicate (copies s) (Pending Loose)) 0 (ap is_ended (fresh_slots
      (copies s) 0 (some h)));
  counted = omega arith;
}

-- the beginning is sound
pub sound-beginning : (s : Setting) → IsSoundMachine s (beginning s)
sound-beginning s = by_test (copies s == 0) (λ e. grind (arith, nat_tests)) (λ e. grind (
  arith,
  nat_tests,
)) where
  by_test : (b : Bool) → (b ≡ true → copies s ≡ 0) → (b ≡ false → 0 < copies s) →
      IsSoundMachine s (round_begun s (if b then s.rounds else 0) 0)
  by_test true none some = sound-round_begun s s.rounds 0 (omega arith) (λ h. absurd (omega arith))
      (omega arith)
  by_test false none some = sound-round_begun s 0 0 (omega arith) (λ _. some refl) (omega arith)

-- a level that is at least firm is firm
pub firm_at_least : (level : Level) → IsAtLeast level Firm → level ≡ Firm
firm_at_least Never h = absurd (omega arith)
firm_at_least Loose h = absurd (omega arith)
firm_at_least Firm h = refl

-- a newcomer that is allowed in mode firm is firm-safe beside each slot
pub firm_newcomer : (s : Setting) (i j : ℕ) (slot : Slot) → IsAllowedBeside s i Firm j slot →
    IsFirmBeside (beside s i j) slot
firm_newcomer s i j Ended h = tt
firm_newcomer s i j (Pending mode) h = tt
firm_newcomer s i j (Running pass mode clean) h = firm_at_least (beside s i j) h.0

-- the newcomer's slot is lawful
lawful_newcomer : (s : Setting) (slots : List Slot) (i pass : ℕ) (mode : Level) (clean : Bool) →
    MayStart s slots i mode → IsSoundSlot (Pending mode) → (IsFirmBesideAll s slots i → IsTrue clean) →
    IsSoundSlot (Running pass mode clean)
lawful_newcomer s slots i pass Never clean may lawful flag = lawful
lawful_newcomer s slots i pass Loose clean may lawful flag = tt
lawful_newcomer s slots i pass Firm true may lawful flag = tt
lawful_newcomer s slots i pass Firm false may lawful flag =
    absurd (let up : IsTrue false = flag (λ j. firm_newcomer s i j (slot_at slots j) (may.allowed j)) in cc)

-- a slot beside a newcomer that is allowed beside it stays lawful
lawful-lowered : (s : Setting) (i j : ℕ) (x : Level) (slot : Slot) → IsAllowedBeside s i x j slot →
    IsSoundSlot slot →
    IsSoundSlot (lowered (beside s j i) slot)
lawful-lowered s i j x slot h lawful = by_level (beside s j i) refl slot h lawful where
  by_level : (level : Level) → beside s j i ≡ level → (slot : Slot) → IsAllowedBeside s i x j slot →
      IsSoundSlot slot → IsSoundSlot (lowered level slot)
  by_level Firm e slot h lawful = lawful
  by_level Loose e Ended h lawful = tt
  by_level Loose e (Pending mode) h lawful = lawful
  by_level Loose e (Running pass Never clean) h lawful = lawful
  by_level Loose e (Running pass Loose clean) h lawful = tt
  by_level Loose e (Running pass Firm clean) h lawful = absurd (let firm : beside s j i ≡ Firm =
      firm_at_least (beside s j i) h.1 in cc)
  by_level Never e Ended h lawful = tt
  by_level Never e (Pending mode) h lawful = lawful
  by_level Never e (Running pass Never clean) h lawful = lawful
  by_level Never e (Running pass Loose clean) h lawful = tt
  by_level Never e (Running pass Firm clean) h lawful = absurd (let firm : beside s j i ≡ Firm =
      firm_at_least (beside s j i) h.1 in cc)

-- flags don't count as passes
pub passes_within-lowered : (level : Level) (slot : Slot) →
    passes_within (lowered level slot) ≡ passes_within slot
passes_within-lowered Firm slot = refl
passes_within-lowered Loose Ended = refl
passes_within-lowered Loose (Pending mode) = refl
passes_within-lowered Loose (Running pass Never clean) = refl
passes_within-lowered Loose (Running pass Loose clean) = refl
passes_within-lowered Loose (Running pass Firm clean) = refl
passes_within-lowered Never Ended = refl
passes_within-lowered Never (Pending mode) = refl
passes_within-lowered Never (Running pass Never clean) = refl
passes_within-lowered Never (Running pass Loose clean) = refl
passes_within-lowered Never (Running pass Firm clean) = refl

-- a start is one pass more
passes_within_started : (pass : ℕ) (mode : Level) (clean : Bool) → IsSoundSlot (Pending mode) →
    passes_within (Running pass mode clean) ≡ passes_within (Pending mode) + 1
passes_within_started pass Never clean lawful = absurd lawful
passes_within_started pass Loose clean lawful = refl
passes_within_started pass Firm clean lawful = refl

-- the slots after a start have room for one pass more
pub passes_within_runs : (s : Setting) (old new : List Slot) (i pass : ℕ) (mode : Level) →
    RunsFrom s old i pass mode new →
    slot_at old i ≡ Pending mode → IsSoundSlot (Pending mode) →
    sum_by passes_within new ≡ sum_by passes_within old + 1
passes_within_runs s old new i pass mode runs pending lawful =
    sum_by_one_more passes_within Ended old new i runs.many (within_slots old i (ap is_ended pending))
    (ap passes_within runs.here ∙ passes_within_started pass mode runs.clean lawful ∙ ap (λ n. n + 1) (sym
    (ap passes_within pending)))
    (λ j differ. ap passes_within (runs.others j differ) ∙ passes_within-lowered (beside s j i)
    (slot_at old j))

-- a start keeps a machine sound
pub sound-starts : (s : Setting) (old : Machine) (t : Ticket) (new : Machine) → IsSoundMachine s old →
    Starts s old t new → IsSoundMachine s new
sound-starts s old t new sound starts =
    let i : ℕ = slot_of s t in
    let pending : slot_at old.slots i ≡ Pending t.mode = starts.next.first.may.pending in
    let lawful : IsSoundSlot (Pending t.mode) = subst IsSoundSlot pending (sound.lawful i) in
    let left : old.round < s.rounds = starts.next.left in
    record {
      many = starts.slots.many ∙ sound.many;
      lawful = λ j. ⊎_elim
          (λ (e : j ≡ i). subst (λ k. IsSoundSlot (slot_at new.slots k)) (sym e) (subst IsSoundSlot
          (sym starts.slots.here)
          (lawful_newcomer s old.slots i t.pass t.mode starts.slots.clean starts.next.first.may lawful
          starts.slots.flag.1)))
          (λ (differ : j ≡ i → ⊥). subst IsSoundSlot (sym (starts.slots.others j differ))
          (lawful-lowered s i j t.mode (slot_at old.slots j) (starts.next.first.may.allowed j)
          (sound.lawful j)))
          (cases_eq j i);
      within = omega (arith, starts.round, left);
      over = λ e. absurd (omega (arith, starts.round, left));
      left = λ e. omega (arith, starts.round, left);
      unsettled = λ _ _. one_not_ended new.slots i (ap is_ended starts.slots.here);
      counted = rw starts.round (omega (
        arith,
        starts.starts,
        sound.counted,
        passes_within_runs s old.slots new.slots i t.pass t.mode starts.slots pending lawful,
      ));
    }

-- an attempt has at most two passes
pub passes_within_most : (slot : Slot) → passes_within slot ≤ 2
passes_within_most Ended = omega arith
passes_within_most (Pending Never) = omega arith
passes_within_most (Pending Loose) = omega arith
passes_within_most (Pending Firm) = omega arith
passes_within_most (Running pass Never clean) = omega arith
passes_within_most (Running pass Loose clean) = omega arith
passes_within_most (Running pass Firm clean) = omega arith

-- a slot has room for no fewer passes after a finish
passes_within_finished : (pass : ℕ) (mode : Level) (clean : Bool) (end : PassEnd) →
    IsSoundSlot (Running pass mode clean) →
    passes_within (Running pass mode clean) ≤ passes_within (slot_after (verdict_on clean end))
passes_within_finished pass Loose false PlainRejected lawful = omega arith
passes_within_finished pass Firm false PlainRejected lawful = absurd lawful
passes_within_finished pass Never false PlainRejected lawful = absurd lawful
passes_within_finished pass mode true PlainRejected lawful = passes_within_most (Running pass mode true)
passes_within_finished pass mode clean Accepted lawful = passes_within_most (Running pass mode clean)
passes_within_finished pass mode clean Rejected lawful = passes_within_most (Running pass mode clean)
passes_within_finished pass mode clean (Trapped trap) lawful = passes_within_most (Running pass mode clean)
passes_within_finished pass mode clean Spent lawful = passes_within_most (Running pass mode clean)

lawful_after : (verdict : FinishVerdict) → IsSoundSlot (slot_after verdict)
lawful_after Kept = tt
lawful_after Void = tt

-- where a pass runs a round is left
pub left_while_running : (s : Setting) (m : Machine) (i pass : ℕ) (mode : Level) (clean : Bool) →
    IsSoundMachine s m →
    slot_at m.slots i ≡ Running pass mode clean → m.round < s.rounds
left_while_running s m i pass mode clean sound here =
    let within : i < length m.slots = within_slots m.slots i (ap is_ended here) in
    ⊎_elim (λ (e : m.round ≡ s.rounds). absurd (let fresh : slot_at m.slots i ≡ Pending Loose =
    sound.over e i (omega (arith, sound.many)) in cc))
    (λ (differ : m.round ≡ s.rounds → ⊥). omega (arith, sound.within)) (cases_eq m.round s.rounds)

-- not both, of which the second holds
first_fails : (a b : Bool) → (a && not b) ≡ false → b ≡ false → a ≡ false
first_fails true false e f = e
first_fails true true e f = absurd (cc)
first_fails false b e f = refl

-- a machine whose round may be done is sound once that is settled
pub sound-settled : (s : Setting) (m : Machine) → length m.slots ≡ copies s → ((i : ℕ) →
    IsSoundSlot (slot_at m.slots i)) →
    m.round < s.rounds → 0 < copies s →
    m.starts ≤ 2 * (m.round * copies s) + sum_by passes_within m.slots → IsSoundMachine s (settled s m)
sound-settled s m many lawful left some counted =
    by_test (list_all is_ended m.slots && not m.stopped) refl where
      by_test : (b : Bool) → (list_all is_ended m.slots && not m.stopped) ≡ b →
          IsSoundMachine s (if b then round_begun s (m.round + 1) m.starts else m)
      by_test true e =
          let most : sum_by passes_within m.slots ≤ length m.slots * 2 = sum_by-le passes_within 2 m.slots
          (λ k d h. passes_within_most (get_or m.slots k d)) in
          let more : (m.round + 1) * copies s ≡ m.round * copies s + copies s = omega (
            arith,
            add-mul m.round 1
                (copies s),
          ) in
          sound-round_begun s (m.round + 1) m.starts (omega arith) (λ _. some) (omega arith)
      by_test false e = record {
        many = many;
        lawful = lawful;
        within = omega arith;
        over = λ e'. absurd (omega arith);
        left = λ _. left;
        unsettled = λ going _. first_fails (list_all is_ended m.slots) m.stopped e going;
        counted = counted;
      }

-- a finish keeps a machine sound
pub sound-finishes : (s : Setting) (old : Machine) (t : Ticket) (end : PassEnd) (verdict : FinishVerdict) →
    IsSoundMachine s old → IsVerdict s old t end verdict →
    IsSoundMachine s (settled s (slot_finished old (slot_of s t) end verdict))
sound-finishes s old t end verdict sound judged =
    let i : ℕ = slot_of s t in
    let clean : Bool = judged.running.clean in
    let here : slot_at old.slots i ≡ Running t.pass t.mode clean = judged.running.slot in
    let within : i < length old.slots = within_slots old.slots i (ap is_ended here) in
    let lawful : IsSoundSlot (Running t.pass t.mode clean) = subst IsSoundSlot here (sound.lawful i) in
    let room : passes_within (slot_at old.slots i) ≤ passes_within (slot_after verdict) =
    rw (here, judged.given) (passes_within_finished t.pass t.mode clean end lawful) in
    sound-settled s (slot_finished old i end verdict)
    (length-set old.slots i (slot_after verdict) ∙ sound.many)
    (λ j. ⊎_elim
    (λ (e : j ≡ i). subst (λ k. IsSoundSlot (slot_at (slice_set old.slots i (slot_after verdict)) k)) (sym e)
    (subst IsSoundSlot (sym (get_or-set_same old.slots i (slot_after verdict) Ended within))
    (lawful_after verdict)))
    (λ (differ : j ≡ i → ⊥). subst IsSoundSlot (sym (get_or-set_other old.slots i j
    (slot_after verdict) Ended differ)) (sound.lawful j))
    (cases_eq j i))
    (left_while_running s old i t.pass t.mode clean sound here)
    (omega (arith, sound.many))
    (omega (
      arith,
      sound.counted,
      room,
      sum_by-set passes_within old.slots i
          (slot_after verdict) Ended within,
    ))
