-- The commit order is lawful.
use Rattle.std.proofs.Common.{◌≡◌, ◌≢◌, ℕ, ◌*◌, ◌<◌, ◌≤◌, ◌⊎◌, inl, inr, List, [], ◌∷◌, Bool, true, false}
use Rattle.std.proofs.Common.{if◌then◌else◌, sym, subst, ap, refl, length, slice_get, Some, arith, ◌∙◌, map}
use Rattle.std.specs.Prelude.{Contains, All, AllPairs, IsTrue, ◌/◌, ◌%◌}
use Rattle.std.specs.List.{AllByRecursion, filter}
use Rattle.std.proofs.lemmas.Bool.{cases_lt}
use Rattle.std.proofs.lemmas.Option.{slice_get_within, get_or_from_slice_get}
use Rattle.seuss_base.specs.declared.outcome.PassEnd.{PassEnd}
use Rattle.seuss_base.specs.declared.outcome.PassEnd.TheVariants as P
use Rattle.seuss_base.specs.declared.outcome.PassEnd.TheVariants.{PlainRejected}
use Rattle.seuss_program.specs.declared.order.Placed.{Placed}
use Rattle.seuss_program.specs.Orders.{stops, attempts_of, action_of, IsStopped, IsWhole, IsLawful}
use Rattle.method_code.specs.Chains.{outcome_of}
use Rattle.compat_scheduler.specs.declared.ticket.Ticket.{Ticket}
use Rattle.compat_scheduler.specs.declared.ticket.FinishVerdict.{FinishVerdict}
use Rattle.compat_scheduler.specs.declared.ticket.FinishVerdict.TheVariants.{Kept, Void}
use Rattle.compat_scheduler.specs.Settings.{copies}
use Rattle.compat_scheduler.specs.Finishes.{stops as stops_pass}
use Rattle.compat_scheduler.specs.Runs.{Event, started, stops_it, times_kept, has_ended}
use Rattle.compat_scheduler.specs.Runs.Event.{Start, Finish}
use Rattle.loose_records.specs.declared.record.SchedEntry.TheVariants as S
use Rattle.loose_records.specs.declared.record.PassRecord.{PassRecord}
use Rattle.loose_records.specs.declared.record.Record.{Record}
use Rattle.loose_records.specs.Entries.{event_of, events_of, stamp_of}
use Rattle.loose_records.specs.Orders.{is_kept, is_kept_by, comes_before, placed_of, commit_order}
use Rattle.loose_records.specs.Settings.{RunSetting}
use Rattle.loose_core.proofs.lists.Places.{some_same, at-contains, at-map, map-at, rising_places, pairs-all}
use Rattle.loose_core.proofs.lists.Places.{each-all}
use Rattle.loose_core.proofs.lists.Rising.{In-get, get-In, All-from_In, filter-In, sort-In}
use Rattle.loose_core.proofs.MadeEntries.{Facts}
use Rattle.loose_core.proofs.Overlaps.{finish_once, started_before}
use Rattle.loose_core.proofs.InvertedEntries.{PassInfo, pass_info, SchedPlaces, sched_places}
use Rattle.loose_core.proofs.TightRuns.{kept_order, in_order, is_kept_true, Pairs-map, order_pairs}
use Rattle.loose_core.proofs.TightRuns.{before_stamp}
use Rattle.loose_core.proofs.KeptAttempts.{rounds_between, kept_some, kept_twice, kept_found, in_started}
use Rattle.loose_core.proofs.KeptAttempts.{any_at, any_found, done_ended, ended_by_now}
use Rattle.loose_core.proofs.lists.Words.{In}

-- a pass of the order
record Ordered (s : RunSetting) (r : Record) (g : Facts s r) (p : PassRecord) : Type 0 where
  place : ℕ
  info : PassInfo s r place p
  kept : p.verdict ≡ Kept
  at : SchedPlaces s r g p info.is
  starts : slice_get (events_of r) at.start ≡ Some (Start p.ticket)
  finishes : slice_get (events_of r) at.finish ≡ Some (Finish p.ticket p.end Kept)

-- an outcome stops the run where the end of the pass stops the machine
stops_is : (e : PassEnd) → stops (outcome_of e) ≡ stops_pass e
stops_is P.Accepted = refl
stops_is P.PlainRejected = refl
stops_is P.Rejected = refl
stops_is (P.Trapped t) = refl
stops_is P.Spent = refl

-- what holds of each image holds of the map
All-map : {A B : Type 0} (f : A → B) (P : B → Type 0) (xs : List A) → AllByRecursion (λ x. P (f x)) xs →
    AllByRecursion P (map f xs)
All-map f P [] all = tt
All-map f P (x ∷ xs) all = (all.0, All-map f P xs all.1)

module _ (s : RunSetting) (r : Record) (g : Facts s r) where
  -- each pass of the order has this
  ordered : (p : PassRecord) → In p (kept_order r) → Ordered s r g p
  ordered p i =
      let k = in_order r p i in
      let info = pass_info s r g k.0 p k.1 in
      let at = sched_places s r g p info.is in
      let kept = is_kept_true p k.2 in
      record {
        place = k.0;
        info = info;
        kept = kept;
        at = at;
        starts = at-map event_of r.sched at.start (S.Start p.ticket info.is.start) at.starts;
        finishes =
            at-map event_of r.sched at.finish (S.Finish p.ticket p.end p.verdict info.is.finish) at.finishes
            ∙ ap (λ (v : FinishVerdict). Some (Finish p.ticket p.end v)) kept;
      }

  -- what holds of each kept pass holds along the order
  each : (P : Placed → Type 0) → ((p : PassRecord) → Ordered s r g p → P (placed_of p)) →
      All P (commit_order r)
  each P f =
      each-all P (commit_order r) (All-map placed_of P (kept_order r) (All-from_In (λ p. P (placed_of p))
      (kept_order r) (λ p i. f p (ordered p i))))

  -- what holds of each two kept passes in order holds of each two of the order
  two : (R : Placed → Placed → Type 0) → ((p q : PassRecord) → Ordered s r g p → Ordered s r g q →
      comes_before p q ≡ true → (q.ticket.pass ≡ p.ticket.pass → ⊥) → R (placed_of p) (placed_of q)) →
      AllPairs R (commit_order r)
  two R f = pairs-all R (commit_order r)
      (Pairs-map placed_of (λ p. Ordered s r g p) (λ p q. (comes_before p q ≡ true) × (q.ticket.pass
      ≡ p.ticket.pass → ⊥)) R (λ p q o n h. f p q o n h.0 h.1) (kept_order r)
      (All-from_In (λ p. Ordered s r g p) (kept_order r) (λ p i. ordered p i)) (order_pairs s r g))

  -- a pass of the order was started
  starting : (p : PassRecord) (o : Ordered s r g p) → Contains (events_of r) (Start p.ticket)
  starting p o = at-contains (events_of r) o.at.start (Start p.ticket) o.starts

  -- rounds never fall along the order
  rises : (p q : PassRecord) → Ordered s r g p → Ordered s r g q → comes_before p q ≡ true →
      p.ticket.attempt / copies s.scheduler ≤ q.ticket.attempt / copies s.scheduler
  rises p q o n h = go (cases_lt o.info.is.start n.info.is.finish)
    where
      go : (o.info.is.start < n.info.is.finish) ⊎ (n.info.is.finish ≤ o.info.is.start) →
          p.ticket.attempt / copies s.scheduler ≤ q.ticket.attempt / copies s.scheduler
      go (inl l) =
          let k = rising_places stamp_of r.sched g.loose.times.rising o.at.start n.at.finish
          (S.Start p.ticket o.info.is.start) (S.Finish q.ticket q.end q.verdict n.info.is.finish)
          o.at.starts n.at.finishes l in
          rounds_between s.scheduler 0 (events_of r) (g.sched.rounds (events_of r) g.loose.end g.loose.run)
          o.at.start n.at.finish (Start p.ticket) (Finish q.ticket q.end Kept) o.starts n.finishes k
      go (inr l) =
          let b = before_stamp p q h in
          absurd (omega (arith, b, l, o.info.stamp, n.info.stamp, o.info.after, n.info.before))

  -- the attempt of a pass of the order has ended
  times : (p : PassRecord) (o : Ordered s r g p) → has_ended s.scheduler g.loose.end p.ticket.attempt ≡ true
  times p o = go (has_ended s.scheduler g.loose.end p.ticket.attempt) refl
    where
      go : (b : Bool) → has_ended s.scheduler g.loose.end p.ticket.attempt ≡ b →
          has_ended s.scheduler g.loose.end p.ticket.attempt ≡ true
      go true e = e
      go false e =
          let k = kept_some (events_of r) o.at.finish p.ticket p.end o.finishes in
          let z : times_kept (events_of r) p.ticket.attempt ≡ 0 =
          g.sched.once (events_of r) g.loose.end p.ticket.attempt g.loose.run
          ∙ ap (λ (b : Bool). if b then 1 else 0) e in
          absurd (omega (arith, k, z))

  -- two passes of the order are of different attempts
  apart : (p q : PassRecord) → Ordered s r g p → Ordered s r g q → (q.ticket.pass ≡ p.ticket.pass → ⊥) →
      p.ticket.attempt ≢ q.ticket.attempt
  apart p q o n d same = go (cases_lt o.at.finish n.at.finish) (cases_lt n.at.finish o.at.finish)
    where
      one : (k : ℕ) → 2 ≤ times_kept (events_of r) k → ⊥
      one k h =
          by (has_ended s.scheduler g.loose.end k) (g.sched.once (events_of r) g.loose.end k g.loose.run)
        where
          by : (b : Bool) → times_kept (events_of r) k ≡ (if b then 1 else 0) → ⊥
          by true e = omega (arith, h, e)
          by false e = omega (arith, h, e)

      go : (o.at.finish < n.at.finish) ⊎ (n.at.finish ≤ o.at.finish) →
          (n.at.finish < o.at.finish) ⊎ (o.at.finish ≤ n.at.finish) → ⊥
      go (inl l) x =
          one p.ticket.attempt (kept_twice (events_of r) o.at.finish n.at.finish p.ticket q.ticket p.end
          q.end l o.finishes n.finishes same)
      go (inr l) (inl k) =
          one q.ticket.attempt (kept_twice (events_of r) n.at.finish o.at.finish q.ticket p.ticket q.end
          p.end k n.finishes o.finishes (sym same))
      go (inr l) (inr k) =
          let e : o.at.finish ≡ n.at.finish = omega (arith, l, k) in
          let x : Finish p.ticket p.end Kept ≡ Finish q.ticket q.end Kept =
          some_same _ _ (slice_get (events_of r) n.at.finish) (subst (λ i. slice_get (events_of r) i
          ≡ Some (Finish p.ticket p.end Kept)) e o.finishes) n.finishes in
          let t : q.ticket ≡ p.ticket = cc x in
          d (ap (λ (t : Ticket). t.pass) t)

  -- a finish that is kept is that of a pass of the order
  kept_pass : (i : ℕ) (t : Ticket) (e : PassEnd) → slice_get (events_of r) i ≡ Some (Finish t e Kept) →
      (p : PassRecord) × In p (kept_order r) × (p.ticket ≡ t) × (p.end ≡ e)
  kept_pass i t e at =
      let b = started_before s.scheduler g.sched (events_of r) g.loose.end g.loose.run i t e Kept at in
      let k = In-get t (started (events_of r)) (in_started (events_of r) b.0 t b.1) in
      let m = map-at (λ (p : PassRecord). p.ticket) r.passes k.0 t (subst (λ ts. slice_get ts k.0 ≡ Some t)
      (sym g.loose.tickets) k.1) in
      let p = m.0 in
      let is = g.loose.passes k.0 p m.1 in
      let x = sched_places s r g p is in
      let here : slice_get (events_of r) x.finish ≡ Some (Finish p.ticket p.end p.verdict) =
      at-map event_of r.sched x.finish (S.Finish p.ticket p.end p.verdict is.finish) x.finishes in
      let there : slice_get (events_of r) x.finish ≡ Some (Finish t p.end p.verdict) =
      subst (λ (u : Ticket). slice_get (events_of r) x.finish ≡ Some (Finish u p.end p.verdict)) m.2 here in
      let j : x.finish ≡ i = finish_once s.scheduler g.sched (events_of r) g.loose.end g.loose.run x.finish
      i t p.end e p.verdict Kept there at in
      let same : Finish t p.end p.verdict ≡ Finish t e Kept = some_same _ _ (slice_get (events_of r) i)
      (subst (λ j. slice_get (events_of r) j ≡ Some (Finish t p.end p.verdict)) j there) at in
      let v : p.verdict ≡ Kept = cc same in
      let q : p.end ≡ e = cc same in (
        p,
        sort-In comes_before p (filter is_kept r.passes) (filter-In is_kept p r.passes
            (get-In p r.passes k.0 m.1) (ap is_kept_by v)),
        m.2,
        q,
      )

  -- the attempt of a pass of the order stands in it
  attempt_in : (p : PassRecord) → In p (kept_order r) →
      Contains (attempts_of (commit_order r)) p.ticket.attempt
  attempt_in p i =
      let k = In-get p (kept_order r) i in
      at-contains (attempts_of (commit_order r)) k.0 p.ticket.attempt
      (at-map (λ (x : Placed). x.attempt) (commit_order r) k.0 (placed_of p)
      (at-map placed_of (kept_order r) k.0 p k.1))

  -- each attempt that has ended is in the order
  done_attempt : (k : ℕ) → has_ended s.scheduler g.loose.end k ≡ true →
      Contains (attempts_of (commit_order r)) k
  done_attempt k h =
      let once : times_kept (events_of r) k ≡ 1 =
      g.sched.once (events_of r) g.loose.end k g.loose.run ∙ ap (λ (b : Bool). if b then 1 else 0) h in
      let f = kept_found (events_of r) k (omega (arith, once)) in
      let p = kept_pass f.0 f.1 f.2 f.3 in
      subst (Contains (attempts_of (commit_order r))) (ap (λ (t : Ticket). t.attempt) p.2 ∙ f.4)
      (attempt_in p.0 p.1)

  -- each attempt of a round that is done stands in the order
  below_done : (k : ℕ) → k < g.loose.end.round * copies s.scheduler →
      Contains (attempts_of (commit_order r)) k
  below_done k h = done_attempt k (done_ended s.scheduler g.loose.end k h)

  -- a pass of the order that stops the run has stopped the machine
  stopping : (p : PassRecord) (o : Ordered s r g p) → stops (outcome_of p.end) ≡ true →
      g.loose.end.stopped ≡ true
  stopping p o on = g.sched.stopped (events_of r) g.loose.end g.loose.run
      ∙ any_at stops_it (events_of r) o.at.finish (Finish p.ticket p.end Kept) o.finishes
      (sym (stops_is p.end) ∙ on)

  -- and it is of the last round
  in_last : (p : PassRecord) (o : Ordered s r g p) → stops (outcome_of p.end) ≡ true →
      p.ticket.attempt / copies s.scheduler ≡ g.loose.end.round
  in_last p o on = g.sched.last_round (events_of r) g.loose.end (Finish p.ticket p.end Kept) g.loose.run
      (at-contains (events_of r) o.at.finish (Finish p.ticket p.end Kept) o.finishes) (sym (stops_is p.end)
      ∙ on)

  -- a finish that stops the machine is kept
  stopper : (i : ℕ) (x : Event) → slice_get (events_of r) i ≡ Some x → stops_it x ≡ true →
      (p : PassRecord) × In p (kept_order r) × (stops (outcome_of p.end) ≡ true)
  stopper i (Start t) at on = cc on
  stopper i (Finish t e Kept) at on =
      let p = kept_pass i t e at in (p.0, p.1, stops_is p.0.end ∙ (ap stops_pass p.3 ∙ on))
  stopper i (Finish t e Void) at on =
      let plain : e ≡ PlainRejected = g.sched.void_plain (events_of r) g.loose.end t e g.loose.run
      (at-contains (events_of r) i (Finish t e Void) at) in
      let z : stops_pass PlainRejected ≡ true =
      subst (λ (e : PassEnd). stops_pass e ≡ true) plain on in cc z

  -- where the machine has not stopped the order is whole
  whole : g.loose.end.stopped ≡ false → IsWhole (copies s.scheduler) s.scheduler.rounds (commit_order r)
  whole off = record {
    none = each (λ x. stops x.outcome ≡ false) (λ p o. good p o (stops (outcome_of p.end)) refl);
    all = λ k h. below_done k (subst (λ n. k < n * copies s.scheduler) (sym over) h);
  }
    where
      over : g.loose.end.round ≡ s.scheduler.rounds
      over = elim g.loose.over.over [ inl on ↦ cc (on, off) | inr e ↦ e ]

      good : (p : PassRecord) → Ordered s r g p → (b : Bool) → stops (outcome_of p.end) ≡ b →
          stops (outcome_of p.end) ≡ false
      good p o false e = e
      good p o true e = let z = stopping p o e in cc (z, off)

  -- where it has stopped so has the order, in the last round
  cut : g.loose.end.stopped ≡ true → IsStopped (copies s.scheduler) g.loose.end.round (commit_order r)
  cut on =
      let f = any_found stops_it (events_of r) (sym (g.sched.stopped (events_of r) g.loose.end g.loose.run)
      ∙ on) in
      let p = stopper f.0 f.1 f.2 f.3 in
      let k = In-get p.0 (kept_order r) p.1 in
      let at = at-map placed_of (kept_order r) k.0 p.0 k.1 in
      record {
        some = (
          k.0,
          placed_of p.0,
          slice_get_within (commit_order r) k.0 (placed_of p.0) at,
          get_or_from_slice_get (commit_order r) k.0 (placed_of p.0) (placed_of p.0) at,
          p.2,
        );
        there = each (λ x. IsTrue (stops x.outcome) → x.attempt / copies s.scheduler ≡ g.loose.end.round)
            (λ p o h. in_last p o h);
        last = each (λ x. x.attempt / copies s.scheduler ≤ g.loose.end.round)
            (λ p o. ended_by_now s.scheduler g.loose.end p.ticket.attempt (times p o));
        earlier = λ k h. below_done k h;
      }

  -- the commit order is lawful
  pub lawful : IsLawful s.scheduler.actions s.scheduler.rounds (commit_order r)
  lawful = record {
    within = each (λ x. x.attempt < s.scheduler.rounds * length s.scheduler.actions)
        (λ p o. g.sched.within (events_of r) g.loose.end p.ticket g.loose.run (starting p o));
    actions =
        each (λ x. x.action ≡ action_of s.scheduler.actions (x.attempt % length s.scheduler.actions))
        (λ p o. g.sched.of_slot (events_of r) g.loose.end p.ticket g.loose.run (starting p o));
    rising = two (λ x y. x.attempt / length s.scheduler.actions ≤ y.attempt / length s.scheduler.actions)
        (λ p q o n h d. rises p q o n h);
    once = two (λ x y. x.attempt ≢ y.attempt) (λ p q o n h d. apart p q o n d);
    end = ends g.loose.end.stopped refl;
  }
    where
      ends : (b : Bool) → g.loose.end.stopped ≡ b →
          IsWhole (length s.scheduler.actions) s.scheduler.rounds (commit_order r)
          ⊎ ((round : ℕ) × IsStopped (length s.scheduler.actions) round (commit_order r))
      ends false off = inl (whole off)
      ends true on = inr (g.loose.end.round, cut on)
