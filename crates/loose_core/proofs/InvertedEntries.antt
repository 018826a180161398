-- What a loose record says of its entries, and that inverted entries of kept passes may change places.
use Rattle.std.proofs.Common.{◌≡◌, ℕ, zero, suc, ◌<◌, ◌≤◌, ◌⊎◌, inl, inr, List, [], ◌∷◌, ◌++◌, true, sym}
use Rattle.std.proofs.Common.{subst, ap, refl, slice_get, Some, arith, ◌∙◌, map}
use Rattle.std.specs.Prelude.{option_map}
use Rattle.std.specs.List.{AllByRecursion}
use Rattle.std.proofs.lemmas.Bool.{cases_lt}
use Rattle.std.proofs.lemmas.Option.{get_or_from_slice_get}
use Rattle.seuss_base.specs.Levels.{IsAtLeast}
use Rattle.seuss_base.specs.declared.level.Level.{Level}
use Rattle.seuss_base.specs.declared.level.Level.TheVariants.{Loose, Firm}
use Rattle.seuss_base.specs.declared.outcome.PassEnd.TheVariants.{PlainRejected}
use Rattle.method_code.specs.Codes.{compiled}
use Rattle.method_code.specs.Beside.{OfPass}
use Rattle.method_code.specs.Kinds.{Early, Commit, kind_of, is_late, calls_early, rejects_plainly}
use Rattle.method_code.specs.Records.{Recorded}
use Rattle.compat_scheduler.specs.declared.ticket.Ticket.{Ticket}
use Rattle.compat_scheduler.specs.declared.ticket.FinishVerdict.TheVariants.{Kept}
use Rattle.compat_scheduler.specs.Settings.{level}
use Rattle.compat_scheduler.specs.Runs.{started}
use Rattle.compat_scheduler.specs.Runs.Event.{Start}
use Rattle.loose_records.specs.declared.record.BoxEntry.{BoxEntry}
use Rattle.loose_records.specs.declared.record.SchedEntry.TheVariants as S
use Rattle.loose_records.specs.declared.record.Claim.{Claim}
use Rattle.loose_records.specs.declared.record.PassRecord.{PassRecord}
use Rattle.loose_records.specs.declared.record.Record.{Record}
use Rattle.loose_records.specs.Entries.{journal, claim_stamps, event_of, events_of, stamp_of}
use Rattle.loose_records.specs.Orders.{commit_stamp}
use Rattle.loose_records.specs.Settings.{RunSetting}
use Rattle.loose_records.specs.LooseRecords.{IsPass}
use Rattle.loose_core.proofs.lists.Words.{Exchanges, RisesFrom, In}
use Rattle.loose_core.proofs.lists.Places.{some_same, place_of, at-contains, at-map, rising_places}
use Rattle.loose_core.proofs.lists.Rising.{In-get, get-In, All-In, All-from_In}
use Rattle.loose_core.proofs.ClaimedEntries.{entries_of, claim_within, claims_ordered, steps_are, number_at}
use Rattle.loose_core.proofs.SafeSteps.{acts, IsMade, recorded, begins, may_exchange}
use Rattle.loose_core.proofs.CommitPhases.{Phases, phases, kind_at, kind_before, kind_after, commit_place}
use Rattle.loose_core.proofs.CommitPhases.{late_is}
use Rattle.loose_core.proofs.MadeEntries.{Facts, Standing, standing, entry_stands, all_made, pass_rises}
use Rattle.loose_core.proofs.MadeEntries.{pass_chain}
use Rattle.loose_core.proofs.Overlaps.{allowed}

-- the entry of the commit step
commit_entry : (s : RunSetting) (r : Record) (p : PassRecord) → IsPass s r p →
    (y : ℕ × BoxEntry) × (slice_get (entries_of r p) p.commit ≡ Some y) × (kind_at s.program y ≡ Commit)
commit_entry s r p is = go (entries_of r p) p.commit
    (subst (λ es. option_map (λ (e : Recorded). kind_of (compiled s.program) e.before e.end)
    (slice_get es p.commit) ≡ Some Commit) (steps_are r p.claims) is.commit)
  where
    go : (xs : List (ℕ × BoxEntry)) (k : ℕ) →
        option_map (λ (e : Recorded). kind_of (compiled s.program) e.before e.end)
        (slice_get (map recorded xs) k) ≡ Some Commit →
        (y : ℕ × BoxEntry) × (slice_get xs k ≡ Some y) × (kind_at s.program y ≡ Commit)
    go [] k h = cc h
    go (x ∷ xs) zero h = (x, refl, let q : kind_at s.program x ≡ Commit = cc h in q)
    go (x ∷ xs) (suc k) h = go xs k h

-- a pass of a loose record, with what follows from its chain
pub record PassInfo (s : RunSetting) (r : Record) (i : ℕ) (p : PassRecord) : Type 0 where
  pub is : IsPass s r p
  pub number : p.ticket.pass ≡ i
  pub phases : Phases s.program is.action (entries_of r p) p.end
  pub commit_is : p.commit ≡ phases.early
  pub commit : Claim
  pub at_commit : slice_get p.claims p.commit ≡ Some commit
  pub stamp : commit_stamp p ≡ commit.stamp
  pub after : is.start < commit.stamp
  pub before : commit.stamp < is.finish

module _ (s : RunSetting) (r : Record) (g : Facts s r) where
  -- each pass of a loose record has this
  pub pass_info : (i : ℕ) (p : PassRecord) → slice_get r.passes i ≡ Some p → PassInfo s r i p
  pass_info i p h =
      let is = g.loose.passes i p h in
      let ticket : slice_get (started (events_of r)) i ≡ Some p.ticket =
      subst (λ ts. slice_get ts i ≡ Some p.ticket) g.loose.tickets (at-map (λ (p : PassRecord). p.ticket)
      r.passes i p h) in
      let numbers = g.sched.numbered (events_of r) g.loose.end g.loose.run in
      let n = number_at 0 g.loose.end.starts i p.ticket.pass (subst (λ ns. slice_get ns i
      ≡ Some p.ticket.pass) numbers (at-map (λ (t : Ticket). t.pass) (started (events_of r)) i p.ticket
      ticket)) in
      let made : AllByRecursion (IsMade s.program) (entries_of r p) =
      All-from_In (IsMade s.program) (entries_of r p) (λ y at_y. made_at is y
      (In-get y (entries_of r p) at_y)) in
      let ph = phases s.program g.steps is.action (g.steps.is_action p.ticket.action is.action is.there)
      s.budget (entries_of r p) p.end (pass_chain s r p is) made in
      let c = commit_entry s r p is in
      let k = entry_stands s r g p is p.commit c.0 c.1 in
      let w = claim_within p.claims is.start is.finish (pass_rises s r p is) p.commit k.0 k.1 in
      let kind : slice_get (map (kind_at s.program) (entries_of r p)) p.commit ≡ Some Commit =
      at-map (kind_at s.program) (entries_of r p) p.commit c.0 c.1 ∙ ap Some c.2 in
      record {
        is = is;
        number = omega (arith, n);
        phases = ph;
        commit_is =
            commit_place ph.early ph.late p.commit (subst (λ ks. slice_get ks p.commit ≡ Some Commit)
            ph.kinds kind);
        commit = k.0;
        at_commit = k.1;
        stamp = get_or_from_slice_get (claim_stamps p) p.commit k.0.stamp 0 (at-map (λ (c : Claim). c.stamp)
            p.claims p.commit k.0 k.1);
        after = w.0;
        before = w.1;
      }
    where
      made_at : IsPass s r p → (y : ℕ × BoxEntry) → (k : ℕ) × (slice_get (entries_of r p) k ≡ Some y) →
          IsMade s.program y
      made_at is y at_y = all_made s r g y.0 y.1 (entry_stands s r g p is at_y.0 y at_y.1).2

  -- an entry of box b with its pass
  pub record EntryInfo (b : ℕ) (e : BoxEntry) : Type 0 where
    pub at : Standing s r g b e
    pub info : PassInfo s r e.pass at.pass

  -- each entry of a loose record has this
  pub entry_info : (b : ℕ) (e : BoxEntry) → In e (journal r b) → EntryInfo b e
  entry_info b e i = let at = standing s r g b e i in record {
    at = at;
    info = pass_info e.pass at.pass at.at_pass;
  }

  -- the places of a pass in the scheduler's journal
  pub record SchedPlaces (p : PassRecord) (is : IsPass s r p) : Type 0 where
    pub start : ℕ
    pub starts : slice_get r.sched start ≡ Some (S.Start p.ticket is.start)
    pub finish : ℕ
    pub finishes : slice_get r.sched finish ≡ Some (S.Finish p.ticket p.end p.verdict is.finish)

  -- the places of its start and finish
  pub sched_places : (p : PassRecord) (is : IsPass s r p) → SchedPlaces p is
  sched_places p is =
      let a = place_of r.sched (S.Start p.ticket is.start) is.started in
      let b = place_of r.sched (S.Finish p.ticket p.end p.verdict is.finish) is.finished in
      record { start = a.0; starts = a.1; finish = b.0; finishes = b.1 }

  -- passes that overlap by their stamps
  pub overlapping : (p q : PassRecord) (pi : IsPass s r p) (qi : IsPass s r q) → (p.ticket ≡ q.ticket → ⊥) →
      pi.start < pi.finish → pi.start < qi.finish → qi.start < pi.finish →
      IsAtLeast (level s.scheduler p.ticket.action q.ticket.action) p.ticket.mode
      × (p.end ≡ PlainRejected → p.verdict ≡ Kept → level s.scheduler p.ticket.action q.ticket.action
      ≡ Firm)
  overlapping p q pi qi ne own a b =
      let x = sched_places p pi in
      let y = sched_places q qi in
      let rising = g.loose.times.rising in
      allowed s.scheduler g.sched (events_of r) g.loose.end g.loose.run p.ticket q.ticket p.end q.end
      p.verdict q.verdict x.start x.finish y.start y.finish ne
      (at-map event_of r.sched x.start (S.Start p.ticket pi.start) x.starts)
      (at-map event_of r.sched x.finish (S.Finish p.ticket p.end p.verdict pi.finish) x.finishes)
      (at-map event_of r.sched y.start (S.Start q.ticket qi.start) y.starts)
      (at-map event_of r.sched y.finish (S.Finish q.ticket q.end q.verdict qi.finish) y.finishes)
      (rising_places stamp_of r.sched rising x.start x.finish (S.Start p.ticket pi.start)
      (S.Finish p.ticket p.end p.verdict pi.finish) x.starts x.finishes own)
      (rising_places stamp_of r.sched rising x.start y.finish (S.Start p.ticket pi.start)
      (S.Finish q.ticket q.end q.verdict qi.finish) x.starts y.finishes a)
      (rising_places stamp_of r.sched rising y.start x.finish (S.Start q.ticket qi.start)
      (S.Finish p.ticket p.end p.verdict pi.finish) y.starts x.finishes b)

  mode_up : (l m : Level) → IsAtLeast l m → (m ≡ Loose) ⊎ (m ≡ Firm) → IsAtLeast l Loose
  mode_up l m h (inl e) = subst (IsAtLeast l) e h
  mode_up l m h (inr e) = let k : IsAtLeast l Firm = subst (IsAtLeast l) e h in omega (arith, k)

  -- e stands before f in a journal, and f's pass commits no later: they may change places
  pub inverted : (b : ℕ) (e f : BoxEntry) (ei : EntryInfo b e) (fi : EntryInfo b f) →
      ei.at.pass.verdict ≡ Kept → e.stamp < f.stamp → (e.pass ≡ f.pass → ⊥) →
      commit_stamp fi.at.pass ≤ commit_stamp ei.at.pass → Exchanges (acts s.program b) e f
  inverted b e f ei fi kept below differ order =
      let p = ei.at.pass in let q = fi.at.pass in
      let pi = ei.info.is in let qi = fi.info.is in
      let we = claim_within p.claims pi.start pi.finish (pass_rises s r p pi) e.number ei.at.claim
      ei.at.at_claim in
      let wf = claim_within q.claims qi.start qi.finish (pass_rises s r q qi) f.number fi.at.claim
      fi.at.at_claim in
      let a1 : pi.start < pi.finish = omega (arith, we.0, we.1) in
      let a3 : pi.start < qi.finish = omega (arith, we.0, wf.1, ei.at.stamp, fi.at.stamp, below) in
      let a4 : qi.start < pi.finish =
      omega (arith, ei.info.stamp, fi.info.stamp, ei.info.before, fi.info.after, order) in
      let ne : p.ticket ≡ q.ticket → ⊥ =
      λ h. differ (sym ei.info.number ∙ (ap (λ (t : Ticket). t.pass) h ∙ fi.info.number)) in
      let ok = overlapping p q pi qi ne a1 a3 a4 in
      let x = sched_places p pi in
      may_exchange s.program g.steps pi.action qi.action (level s.scheduler p.ticket.action q.ticket.action)
      (λ wanted h n. g.setting.safe p.ticket.action q.ticket.action pi.action qi.action wanted pi.there
      qi.there h n) b e f
      (All-In (λ x. OfPass s.program pi.action x.0 (begins x.1)) (entries_of r p) (b, e)
      ei.info.phases.may (get-In (b, e) (entries_of r p) e.number ei.at.at_entry))
      (All-In (λ x. OfPass s.program qi.action x.0 (begins x.1)) (entries_of r q) (b, f)
      fi.info.phases.may (get-In (b, f) (entries_of r q) f.number fi.at.at_entry))
      (mode_up (level s.scheduler p.ticket.action q.ticket.action) p.ticket.mode ok.0
      (g.sched.modes (events_of r) g.loose.end p.ticket g.loose.run (at-contains (events_of r) x.start
      (Start p.ticket) (at-map event_of r.sched x.start (S.Start p.ticket pi.start) x.starts))))
      (λ h. ok.1 (All-In (λ x. rejects_plainly x.1.end ≡ true → p.end ≡ PlainRejected) (entries_of r p)
      (b, e) ei.info.phases.plain (get-In (b, e) (entries_of r p) e.number ei.at.at_entry) h) kept)
      (phase (cases_lt e.number p.commit) (cases_lt q.commit f.number))
    where
      phase : (e.number < ei.at.pass.commit) ⊎ (ei.at.pass.commit ≤ e.number) →
          (fi.at.pass.commit < f.number) ⊎ (f.number ≤ fi.at.pass.commit) →
          (kind_of (compiled s.program) e.before e.end ≡ Early) ⊎ (is_late (compiled s.program) f.before
          ≡ true)
      phase (inl h) y =
          let early = kind_before ei.info.phases.early ei.info.phases.late e.number
          (omega (arith, h, ei.info.commit_is)) in
          let here = at-map (kind_at s.program) (entries_of r ei.at.pass) e.number (b, e) ei.at.at_entry in
          inl (some_same (kind_at s.program (b, e)) Early
          (slice_get (map (kind_at s.program) (entries_of r ei.at.pass)) e.number) here
          (subst (λ ks. slice_get ks e.number ≡ Some Early) (sym ei.info.phases.kinds) early))
      phase (inr h) (inl k) =
          let here = at-map (kind_at s.program) (entries_of r fi.at.pass) f.number (b, f) fi.at.at_entry in
          let late = kind_after fi.info.phases.early fi.info.phases.late f.number
          (kind_at s.program (b, f)) (omega (arith, k, fi.info.commit_is))
          (subst (λ ks. slice_get ks f.number ≡ Some (kind_at s.program (b, f))) fi.info.phases.kinds
          here) in
          inr (late_is (is_late (compiled s.program) f.before) (calls_early f.end) late)
      phase (inr h) (inr k) =
          let le : ei.info.commit.stamp ≤ ei.at.claim.stamp = not_after ei.at.pass.claims ei.info.is.start
          ei.info.is.finish (pass_rises s r ei.at.pass ei.info.is) ei.at.pass.commit e.number ei.info.commit
          ei.at.claim h ei.info.at_commit ei.at.at_claim in
          let lf : fi.at.claim.stamp ≤ fi.info.commit.stamp = not_after fi.at.pass.claims fi.info.is.start
          fi.info.is.finish (pass_rises s r fi.at.pass fi.info.is) f.number fi.at.pass.commit fi.at.claim
          fi.info.commit k fi.at.at_claim fi.info.at_commit in
          absurd (omega (
            arith,
            le,
            lf,
            ei.at.stamp,
            fi.at.stamp,
            below,
            order,
            ei.info.stamp,
            fi.info.stamp,
          ))
        where
          not_after : (cs : List Claim) (a z : ℕ) → RisesFrom (λ s. s) a (map
              (λ (x : Claim). x.stamp) cs ++ (z ∷ [])) → (j k : ℕ) (x y : Claim) → j ≤ k →
              slice_get cs j ≡ Some x → slice_get cs k ≡ Some y → x.stamp ≤ y.stamp
          not_after cs a z rises j k x y h hx hy = go (cases_lt j k)
            where
              go : (j < k) ⊎ (k ≤ j) → x.stamp ≤ y.stamp
              go (inl lt) =
                  let z : x.stamp < y.stamp = claims_ordered cs a z rises j k x y lt hx hy in omega arith
              go (inr ge) =
                  let jk : j ≡ k = omega arith in
                  let same : x ≡ y =
                  some_same x y (slice_get cs k) (subst (λ j. slice_get cs j ≡ Some x) jk hx) hy in
                  let st : x.stamp ≡ y.stamp = ap (λ (c : Claim). c.stamp) same in omega arith
