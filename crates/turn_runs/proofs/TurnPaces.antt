-- That turns come to an end.
use Rattle.std.proofs.Common.{◌≡◌, ℕ, zero, suc, ◌+◌, ◌-◌, ◌*◌, ◌%◌, ◌<◌, ◌≤◌, ◌⊎◌, inl, inr, List, [], ◌∷◌}
use Rattle.std.proofs.Common.{length, slice_get, Some, None, refl, sym, subst, ap, ◌∙◌, arith, map, Bool, true}
use Rattle.std.proofs.Common.{false, cond}
use Rattle.std.specs.Prelude.{Option, slice_set, slice_index_or, nat_lt, count_by, Contains, if◌then◌else◌}
use Rattle.std.proofs.lemmas.Bool.{cases_lt, le-ltb}
use Rattle.std.proofs.lemmas.List.Sums.{sum_by-cons}
use Rattle.std.proofs.lemmas.Nat.{mod-mul-add}
use Rattle.std.proofs.lemmas.Option.{slice_get_within, get_or_from_slice_get}
use Rattle.compat_scheduler.specs.declared.ticket.Ticket.{Ticket}
use Rattle.compat_scheduler.specs.declared.slot.Slot.{Slot}
use Rattle.compat_scheduler.specs.declared.slot.Slot.TheVariants.{Pending, Running, Ended}
use Rattle.compat_scheduler.specs.Settings.{copies, action_of}
use Rattle.compat_scheduler.specs.Machines.{is_running, running_count, slot_at}
use Rattle.compat_scheduler.specs.Starts.{NoneStarts}
use Rattle.compat_scheduler.specs.Runs.{Event, IsOpen, started}
use Rattle.compat_scheduler.specs.Runs.Event.{Start, Finish}
use Rattle.loose_records.specs.declared.record.PassRecord.{PassRecord}
use Rattle.loose_records.specs.declared.record.SchedEntry.TheVariants as S
use Rattle.loose_records.specs.Entries.{event_of, events_of}
use Rattle.loose_records.specs.Settings.{RunSetting}
use Rattle.loose_records.specs.LooseRecords.{IsOver, IsPass}
use Rattle.loose_records.specs.Growing.{Status, Finished, IsGrowing}
use Rattle.loose_records.specs.Stamps.{events_in}
use Rattle.loose_records.specs.Turns.{worker_of}
use Rattle.turn_runs.specs.declared.hand.Hand.{Hand}
use Rattle.turn_runs.specs.declared.run.Run.{Run}
use Rattle.turn_runs.specs.RunStates.{AreHands, AreIdle, IsInOrder, IsOnPace}
use Rattle.turn_runs.proofs.ListLemmas.{at-map, at-contains, at-within, map-at, place_of, set-here, set-other}
use Rattle.turn_runs.proofs.TurnSteps.{TurnFacts, Idled, Went}

-- what a test counts
abbrev counted : Bool → ℕ
counted b = cond b 1 0

-- a count of none
count_none : (p : Slot → Bool) (xs : List Slot) → ((k : ℕ) (x : Slot) → slice_get xs k ≡ Some x →
    p x ≡ false) → count_by p xs ≡ 0
count_none p [] none = refl
count_none p (x ∷ xs) none =
    let a : counted (p x) ≡ 0 = ap counted (none 0 x refl) in
    let b = count_none p xs (λ k. none (suc k)) in
    omega (arith, a, b, sum_by-cons (λ (y : Slot). counted (p y)) x xs)

-- a start among events is one of those that were started
started_at : (es : List Event) (k : ℕ) (t : Ticket) → slice_get es k ≡ Some (Start t) →
    (j : ℕ) × (slice_get (started es) j ≡ Some t)
started_at [] k t at = cc at
started_at (Start u ∷ es) zero t at = let e : u ≡ t = cc at in (0, ap Some e)
started_at (Start u ∷ es) (suc k) t at = let j = started_at es k t at in (suc j.0, j.1)
started_at (Finish u end verdict ∷ es) zero t at = cc at
started_at (Finish u end verdict ∷ es) (suc k) t at = started_at es k t at

module _ (s : RunSetting) (facts : TurnFacts s) (run : Run) (hands : List (Option Hand))
    (statuses : List Status) (g : IsGrowing s run.made statuses run.core.machine)
    (hold : AreHands run.made statuses hands) where
  -- no worker has a pass
  abbrev pub AllFree : Type 0
  AllFree = (v : ℕ) → v < length hands → slice_get hands v ≡ Some None

  -- then no pass is open
  none_open : AllFree → (t : Ticket) → IsOpen (events_of run.made) t → ⊥
  none_open free t opened =
      let k = place_of (events_of run.made) (Start t) opened.opened in
      let j = started_at (events_of run.made) k.0 t k.1 in
      let there : slice_get (map (λ (p : PassRecord). p.ticket) run.made.passes) j.0 ≡ Some t =
      subst (λ (ts : List Ticket). slice_get ts j.0 ≡ Some t) (sym g.tickets) j.1 in
      let p = map-at (λ (p : PassRecord). p.ticket) run.made.passes j.0 t there in
      let l = slice_get_within run.made.passes j.0 p.0 p.1 in
      let each = g.each in
      let x = at-within statuses j.0 (omega (arith, l, each)) in
      by p.0 x.0 p.1 p.2 x.1 (hold.all j.0 x.0 x.1)
    where
      by : {j : ℕ} (p : PassRecord) (status : Status) → slice_get run.made.passes j ≡ Some p →
          p.ticket ≡ t → slice_get statuses j ≡ Some status →
          (status ≡ Finished) ⊎ ((v : ℕ) × (hand : Hand) × (slice_get hands v ≡ Some (Some hand))
          × (hand.ticket.pass ≡ j)) → ⊥
      by {j} p status there is at (inl finished) =
          let pass : IsPass s run.made p = g.passes j p Finished there (at ∙ ap Some finished) in
          let i = place_of run.made.sched (S.Finish p.ticket p.end p.verdict pass.finish) pass.finished in
          opened.unfinished p.end p.verdict
          (subst (λ (u : Ticket). Contains (events_of run.made) (Finish u p.end p.verdict)) is
          (at-contains (events_of run.made) i.0 (Finish p.ticket p.end p.verdict)
          (at-map event_of run.made.sched i.0 (S.Finish p.ticket p.end p.verdict pass.finish) i.1)))
      by p status there is at (inr held) =
          let within = slice_get_within hands held.0 (Some held.1) held.2 in
          let none = free held.0 within in
          let some = held.2 in
          cc (none, some)

  -- and nothing runs
  quiet : AllFree → running_count run.core.machine ≡ 0
  quiet free = count_none is_running run.core.machine.slots (λ k slot at. by slot k at)
    where
      by : (slot : Slot) (k : ℕ) → slice_get run.core.machine.slots k ≡ Some slot → is_running slot ≡ false
      by (Pending mode) k at = refl
      by Ended k at = refl
      by (Running pass mode clean) k at =
          let within = slice_get_within run.core.machine.slots k (Running pass mode clean) at in
          let many = (facts.sound (events_of run.made) run.core.machine g.run).many in
          let slot : (run.core.machine.round * copies s.scheduler + k) % copies s.scheduler ≡ k =
          mod-mul-add run.core.machine.round (copies s.scheduler) k (omega (arith, within, many)) in
          let t : Ticket = record {
            pass = pass;
            attempt = run.core.machine.round * copies s.scheduler + k;
            action = action_of s.scheduler k;
            mode = mode;
          } in
          absurd (none_open free t (facts.opened (events_of run.made) run.core.machine t g.run (record {
            clean = clean;
            slot = ap (slot_at run.core.machine.slots) slot
                ∙ get_or_from_slice_get run.core.machine.slots k (Running pass mode clean) Ended at;
            attempt = ap (λ (n : ℕ). run.core.machine.round * copies s.scheduler + n) (sym slot);
            action = ap (action_of s.scheduler) (sym slot);
          })))

  -- so something may start, or all is over
  pub not_stuck : AllFree → NoneStarts s.scheduler run.core.machine → (IsOver s run.core.machine → ⊥) → ⊥
  not_stuck free none going = by run.core.machine.stopped refl
    where
      by : (b : Bool) → run.core.machine.stopped ≡ b → ⊥
      by true stopped = going (record { quiet = quiet free; over = inl stopped })
      by false stopped = at (cases_lt run.core.machine.round s.scheduler.rounds)
        where
          at : (run.core.machine.round < s.scheduler.rounds) ⊎ (s.scheduler.rounds ≤ run.core.machine.round)
              → ⊥
          at (inl left) =
              let next = facts.may_start (events_of run.made) run.core.machine g.run (quiet free) stopped left
              in none next.0 next.1
          at (inr done) =
              let within = (facts.sound (events_of run.made) run.core.machine g.run).within in
              let all : run.core.machine.round ≡ s.scheduler.rounds = omega (arith, done, within) in
              going (record { quiet = quiet free; over = inr all })

-- the worker of a turn in order
worker_is : (width : ℕ) (digits : List ℕ) (turns rounds workers : ℕ) →
    turns ≡ length digits + (rounds * width + workers) → workers < width →
    worker_of width digits turns ≡ workers
worker_is width digits turns rounds workers is within =
    let past : nat_lt turns (length digits) ≡ false = le-ltb turns (length digits) (omega (arith, is)) in
    let e : turns - length digits ≡ rounds * width + workers = omega (arith, is) in
    ap (λ (b : Bool). if b then slice_index_or digits turns 0 else (turns - length digits) % width) past
    ∙ (ap (λ (n : ℕ). n % width) e ∙ mod-mul-add rounds width workers within)

module _ (s : RunSetting) (width : ℕ) (digits : List ℕ) (turns : ℕ) (old new : Run)
    (hands : List (Option Hand)) (after : Option Hand) (some : 0 < width) (many : length hands ≡ width)
    (going : ((v : ℕ) → v < length hands → slice_get hands v ≡ Some None) →
    NoneStarts s.scheduler old.core.machine → ⊥)
    (went : Went s old new hands (worker_of width digits turns) after) where
  -- a whole round of the workers
  round_over : (rounds : ℕ) → turns + 1 ≡ length digits + (rounds * width + 0) → rounds ≤ events_in new.made →
      IsInOrder s width (length digits) (turns + 1) new (slice_set hands (worker_of width digits turns) after)
  round_over rounds is made = record {
    rounds = rounds;
    workers = 0;
    is = is;
    within = some;
    made = made;
    last = inr (record { free = λ v l. absurd (omega (arith, l)); none = λ l. absurd (omega (arith, l)) });
  }

  -- after an event in this round
  eventful : (rounds workers : ℕ) → turns ≡ length digits + (rounds * width + workers) → workers < width →
      rounds < events_in new.made →
      IsInOrder s width (length digits) (turns + 1) new (slice_set hands (worker_of width digits turns) after)
  eventful rounds workers is within more = by (cases_lt (workers + 1) width)
    where
      by : (workers + 1 < width) ⊎ (width ≤ workers + 1) →
          IsInOrder s width (length digits) (turns + 1) new
          (slice_set hands (worker_of width digits turns) after)
      by (inl l) = record {
        rounds = rounds;
        workers = workers + 1;
        is = omega (arith, is);
        within = l;
        made = omega (arith, more);
        last = inl more;
      }
      by (inr l) = round_over (rounds + 1) (omega (arith, is, l, within)) (omega (arith, more))

  -- after an idle turn in a round without events
  idle_on : (rounds workers : ℕ) → turns ≡ length digits + (rounds * width + workers) → workers < width →
      rounds ≤ events_in new.made → AreIdle s old hands workers →
      Idled s old new hands (worker_of width digits turns) after →
      IsInOrder s width (length digits) (turns + 1) new (slice_set hands (worker_of width digits turns) after)
  idle_on rounds workers is within made idle x = by (cases_lt (workers + 1) width)
    where
      w : worker_of width digits turns ≡ workers
      w = worker_is width digits turns rounds workers is within

      here : slice_get hands workers ≡ Some None
      here = subst (λ (v : ℕ). slice_get hands v ≡ Some None) w x.was

      free : (v : ℕ) → v < workers + 1 → slice_get hands v ≡ Some None
      free v l = at (cases_lt v workers)
        where
          at : (v < workers) ⊎ (workers ≤ v) → slice_get hands v ≡ Some None
          at (inl low) = idle.free v low
          at (inr high) =
              let e : workers ≡ v = omega (arith, l, high) in
              subst (λ (k : ℕ). slice_get hands k ≡ Some None) e here

      still : (v : ℕ) → v < workers + 1 →
          slice_get (slice_set hands (worker_of width digits turns) after) v ≡ Some None
      still v l = at (cases_lt v workers)
        where
          at : (v < workers) ⊎ (workers ≤ v) →
              slice_get (slice_set hands (worker_of width digits turns) after) v ≡ Some None
          at (inl low) =
              set-other hands (worker_of width digits turns) v after (λ e. absurd (omega (arith, e, w, low)))
              ∙ idle.free v low
          at (inr high) =
              let e : worker_of width digits turns ≡ v = omega (arith, l, high, w) in
              subst (λ (k : ℕ). slice_get (slice_set hands (worker_of width digits turns) after) k
              ≡ Some None) e
              (set-here hands (worker_of width digits turns) None after x.was ∙ ap Some x.free)

      by : (workers + 1 < width) ⊎ (width ≤ workers + 1) →
          IsInOrder s width (length digits) (turns + 1) new
          (slice_set hands (worker_of width digits turns) after)
      by (inl l) = record {
        rounds = rounds;
        workers = workers + 1;
        is = omega (arith, is);
        within = l;
        made = made;
        last = inr (record { free = still; none = λ l. x.after });
      }
      by (inr l) = absurd (going (λ v k. free v (omega (arith, k, l, many))) x.none)

  -- turns in order go on
  in_order : IsInOrder s width (length digits) turns old hands →
      IsInOrder s width (length digits) (turns + 1) new (slice_set hands (worker_of width digits turns) after)
  in_order o = by went o.last
    where
      by : Went s old new hands (worker_of width digits turns) after →
          (o.rounds < events_in old.made) ⊎ AreIdle s old hands o.workers →
          IsInOrder s width (length digits) (turns + 1) new
          (slice_set hands (worker_of width digits turns) after)
      by (inl event) last =
          let made = o.made in
          eventful o.rounds o.workers o.is o.within (omega (arith, event, made))
      by (inr x) (inl more) =
          let e = x.same in eventful o.rounds o.workers o.is o.within (omega (arith, e, more))
      by (inr x) (inr idle) =
          let made = o.made in let e = x.same in
          idle_on o.rounds o.workers o.is o.within (omega (arith, e, made)) idle x

  -- each turn keeps the pace
  pub paced : IsOnPace s width (length digits) turns old hands →
      IsOnPace s width (length digits) (turns + 1) new (slice_set hands (worker_of width digits turns) after)
  paced (inr o) = inr (in_order o)
  paced (inl early) = by (cases_lt turns (length digits))
    where
      by : (turns < length digits) ⊎ (length digits ≤ turns) →
          IsOnPace s width (length digits) (turns + 1) new
          (slice_set hands (worker_of width digits turns) after)
      by (inl l) = inl (omega (arith, l))
      by (inr l) = inr (in_order (record {
        rounds = 0;
        workers = 0;
        is = omega (arith, early, l);
        within = some;
        made = omega arith;
        last = inr (record {
          free = λ v l. absurd (omega (arith, l));
          none = λ l. absurd (omega (arith, l));
        });
      }))
