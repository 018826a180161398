-- Each event keeps what holds of a record in the making.
use Rattle.std.proofs.Common.{◌≡◌, ℕ, zero, suc, ◌+◌, ◌<◌, ◌⊎◌, inl, inr, List, [], ◌∷◌, ◌++◌, sym, subst}
use Rattle.std.proofs.Common.{ap, refl, length, slice_get, Option, Some, None, arith, ◌∙◌, map, take, drop}
use Rattle.std.specs.Prelude.{Contains, All, option_map, slice_set}
use Rattle.std.specs.List.{filter_map, range_with_len, cons_option}
use Rattle.std.proofs.lemmas.Option.{slice_get_within}
use Rattle.std.proofs.lemmas.Bool.{cases_eq}
use Rattle.std.proofs.lemmas.List.{map-append, length-set, length-append, get_or-set_same, get_or-set_other}
use Rattle.std.proofs.lemmas.List.Elements.{Contains-append_left, Contains-push, filter_map-append}
use Rattle.seuss_base.specs.declared.outcome.PassEnd.{PassEnd}
use Rattle.seuss_program.specs.declared.program.Program.{Program}
use Rattle.seuss_program.specs.declared.program.ActionInfo.{ActionInfo}
use Rattle.seuss_program.specs.declared.state.Value.{Value}
use Rattle.seuss_program.specs.declared.state.Vars.{Vars}
use Rattle.seuss_program.specs.Programs.{vars_of}
use Rattle.method_code.specs.declared.activation.Activation.{Activation}
use Rattle.method_code.specs.Codes.{compiled}
use Rattle.method_code.specs.Chains.{begun, Turned, Next, Over, turned, with_vars}
use Rattle.method_code.specs.Kinds.{Commit, kind_of}
use Rattle.method_code.specs.Records.{Recorded, ChainsTo, LeadsTo, IsStepFrom}
use Rattle.compat_scheduler.specs.declared.ticket.Ticket.{Ticket}
use Rattle.compat_scheduler.specs.declared.ticket.FinishVerdict.{FinishVerdict}
use Rattle.compat_scheduler.specs.Settings.{Setting}
use Rattle.compat_scheduler.specs.Machines.{Machine, running_count}
use Rattle.compat_scheduler.specs.Starts.{Starts}
use Rattle.compat_scheduler.specs.Finishes.{Finishes}
use Rattle.compat_scheduler.specs.Runs.{Event, Leads, IsRun, started, IsOpen}
use Rattle.compat_scheduler.specs.Runs.Event.{Start, Finish}
use Rattle.step_journal.specs.Histories.{IsLegal}
use Rattle.loose_records.specs.declared.record.BoxEntry.{BoxEntry}
use Rattle.loose_records.specs.declared.record.SchedEntry.{SchedEntry}
use Rattle.loose_records.specs.declared.record.SchedEntry.TheVariants as S
use Rattle.loose_records.specs.declared.record.Claim.{Claim}
use Rattle.loose_records.specs.declared.record.PassRecord.{PassRecord}
use Rattle.loose_records.specs.declared.record.Record.{Record}
use Rattle.loose_records.specs.Entries.{gives, step_of, event_of, events_of, stamp_of, AreRising, AreStamps}
use Rattle.loose_records.specs.Entries.{journal, claimed, steps_of, claim_stamps}
use Rattle.loose_records.specs.Settings.{RunSetting}
use Rattle.loose_records.specs.LooseRecords.{NamesEntry, IsClaimed, IsPass, IsOver, IsLoose}
use Rattle.loose_records.specs.Growing.{Status, Going, Through, Finished, ComesTo, IsOpenPass, IsPassAt}
use Rattle.loose_records.specs.Growing.{IsGrowing, AddsStart, AddsStep, AddsFinish, pass_begun, status_of}
use Rattle.loose_records.specs.Growing.{with_claim}
use Rattle.loose_records.proofs.Lists.{at-append, at-push, push-cases, set-here, set-other, set-map, at-map}
use Rattle.loose_records.proofs.Lists.{at-within, number_at, rising_push, stamps_push}
use Rattle.loose_records.proofs.Lists.{legal_push, around, take-before, place_of, at-contains}
use Rattle.loose_records.proofs.Lists.{contains-push}
use Rattle.std.proofs.lemmas.List.FromFn.{length-range_with_len}

-- a record that has all that another one has
record Extends (old new : Record) : Type 0 where
  entries : (b k : ℕ) (e : BoxEntry) → slice_get (journal old b) k ≡ Some e →
      slice_get (journal new b) k ≡ Some e
  scheds : (x : SchedEntry) → Contains old.sched x → Contains new.sched x
  claims : (j : ℕ) (p : PassRecord) → slice_get old.passes j ≡ Some p →
      (q : PassRecord) × (slice_get new.passes j ≡ Some q)
      × ((n : ℕ) (c : Claim) → slice_get p.claims n ≡ Some c → slice_get q.claims n ≡ Some c)

module _ (old new : Record) (x : Extends old new) where
  -- a claim that named an entry still names it
  names_still : (p q : PassRecord) → q.ticket ≡ p.ticket → (k : ℕ) (c : Claim) → NamesEntry old p k c →
      NamesEntry new q k c
  names_still p q same k c n = record {
    entry = n.entry;
    there = x.entries c.box_number c.place n.entry n.there;
    own = n.own ∙ ap (λ (t : Ticket). t.pass) (sym same);
    at = n.at;
    when = n.when;
  }

  -- claims name the steps that they named
  steps_still : (cs : List Claim) → ((k : ℕ) (c : Claim) → slice_get cs k ≡ Some c →
      (e : BoxEntry) × (slice_get (journal old c.box_number) c.place ≡ Some e)) →
      filter_map (claimed new) cs ≡ filter_map (claimed old) cs
  steps_still [] named = refl
  steps_still (c ∷ cs) named =
      let n = named 0 c refl in
      rw (n.1, x.entries c.box_number c.place n.0 n.1) (ap (λ (es : List Recorded). step_of c.box_number
      n.0 ∷ es) (steps_still cs (λ k. named (suc k))))

  -- a pass has the steps that it had
  pass_steps : (s : RunSetting) (p : PassRecord) → ((k : ℕ) (c : Claim) → slice_get p.claims k ≡ Some c →
      NamesEntry old p k c) → steps_of new p ≡ steps_of old p
  pass_steps s p named = steps_still p.claims (λ k c h. let n = named k c h in (n.entry, n.there))

  -- the same steps come to the same
  comes_still : (s : RunSetting) (p : PassRecord) (a : ActionInfo) (status : Status) →
      steps_of new p ≡ steps_of old p → ComesTo s a (steps_of old p) status →
      ComesTo s a (steps_of new p) status
  comes_still s p a status e h = subst (λ es. ComesTo s a es status) (sym e) h

  -- the pass has no finish that it had not before
  abbrev StaysOpen : PassRecord → Type 0
  StaysOpen p =
      (end : PassEnd) (v : FinishVerdict) → Contains (events_of new) (Finish p.ticket end v) →
      Contains (events_of old) (Finish p.ticket end v)

  -- a pass that was open is so still
  open_still : (s : RunSetting) (p : PassRecord) (status : Status) → StaysOpen p →
      IsOpenPass s old p status → IsOpenPass s new p status
  open_still s p status stays is = record {
    action = is.action;
    there = is.there;
    start = is.start;
    started = x.scheds (S.Start p.ticket is.start) is.started;
    rising = is.rising;
    claims = λ k c h. names_still p p refl k c (is.claims k c h);
    comes = comes_still s p is.action status (pass_steps s p is.claims) is.comes;
    unfinished = λ end v h. is.unfinished end v (stays end v h);
  }

  -- a pass that has finished is so still
  pass_still : (s : RunSetting) (p : PassRecord) → IsPass s old p → IsPass s new p
  pass_still s p is = record {
    action = is.action;
    there = is.there;
    start = is.start;
    started = x.scheds (S.Start p.ticket is.start) is.started;
    finish = is.finish;
    finished = x.scheds (S.Finish p.ticket p.end p.verdict is.finish) is.finished;
    rising = is.rising;
    claims = λ k c h. names_still p p refl k c (is.claims k c h);
    chain = subst (λ es. ChainsTo s.program (begun s.program is.action) s.budget es p.end)
        (sym (pass_steps s p is.claims)) is.chain;
    commit = subst (λ es. option_map (λ (e : Recorded). kind_of (compiled s.program) e.before e.end)
        (slice_get es p.commit) ≡ Some Commit) (sym (pass_steps s p is.claims)) is.commit;
  }

  -- a pass is as far as it was
  at_still : (s : RunSetting) (p : PassRecord) (status : Status) → StaysOpen p → IsPassAt s old p status →
      IsPassAt s new p status
  at_still s p (Going at left) stays is = open_still s p (Going at left) stays is
  at_still s p (Through end) stays is = open_still s p (Through end) stays is
  at_still s p Finished stays is = pass_still s p is

  -- an entry that was claimed is so still
  claimed_still : (b k : ℕ) (e : BoxEntry) → IsClaimed old b k e → IsClaimed new b k e
  claimed_still b k e c =
      let q = x.claims e.pass c.pass c.there in
      record {
        pass = q.0;
        there = q.1;
        claim = c.claim;
        here = q.2 e.number c.claim c.here;
        on = c.on;
        at = c.at;
      }

-- each pass is as far as its status says
abbrev pub PassesAt : RunSetting → Record → List Status → Type 0
PassesAt s r statuses =
    (i : ℕ) (p : PassRecord) (status : Status) → slice_get r.passes i ≡ Some p →
    slice_get statuses i ≡ Some status → IsPassAt s r p status

-- a start at the end
started-append : (es : List Event) (t : Ticket) → started (es ++ Start t ∷ []) ≡ started es ++ t ∷ []
started-append [] t = refl
started-append (Start u ∷ es) t = ap (λ (ts : List Ticket). u ∷ ts) (started-append es t)
started-append (Finish u e v ∷ es) t = started-append es t

-- a finish at the end starts nothing
started-finish : (es : List Event) (t : Ticket) (end : PassEnd) (v : FinishVerdict) →
    started (es ++ Finish t end v ∷ []) ≡ started es
started-finish [] t end v = refl
started-finish (Start u ∷ es) t end v = ap (λ (ts : List Ticket). u ∷ ts) (started-finish es t end v)
started-finish (Finish u e w ∷ es) t end v = started-finish es t end v

-- the laws of the scheduler that are used
pub record RunLaws (s : Setting) : Type 0 where
  pub more : (events : List Event) (m n : Machine) (event : Event) → IsRun s events m → Leads s m event n →
      IsRun s (events ++ event ∷ []) n
  pub numbered : (events : List Event) (m : Machine) → IsRun s events m →
      map (λ (t : Ticket). t.pass) (started events) ≡ range_with_len 0 m.starts
  pub finishes : (front rest : List Event) (m : Machine) (t : Ticket) (end : PassEnd)
      (verdict : FinishVerdict) → IsRun s (front ++ Finish t end verdict ∷ rest) m → IsOpen front t
  pub all : (events : List Event) (m : Machine) (t : Ticket) → IsRun s events m → running_count m ≡ 0 →
      Contains events (Start t) →
      (end : PassEnd) × (verdict : FinishVerdict) × Contains events (Finish t end verdict)

-- the number of a pass is its place
number_of_pass : (s : RunSetting) → RunLaws s.scheduler →
    (r : Record) (statuses : List Status) (m : Machine) → IsGrowing s r statuses m →
    (i : ℕ) (p : PassRecord) → slice_get r.passes i ≡ Some p → p.ticket.pass ≡ i
number_of_pass s laws r statuses m g i p h =
    let t : slice_get (started (events_of r)) i ≡ Some p.ticket =
    subst (λ (ts : List Ticket). slice_get ts i ≡ Some p.ticket) g.tickets
    (at-map (λ (p : PassRecord). p.ticket) r.passes i p h) in
    let n = number_at 0 m.starts i p.ticket.pass (subst (λ (ns : List ℕ). slice_get ns i
    ≡ Some p.ticket.pass) (laws.numbered (events_of r) m g.run) (at-map (λ (t : Ticket). t.pass)
    (started (events_of r)) i p.ticket t)) in
    omega (arith, n)

-- a start in the events is one of the started
start_place : (es : List Event) (i : ℕ) (t : Ticket) → slice_get es i ≡ Some (Start t) →
    (k : ℕ) × (slice_get (started es) k ≡ Some t)
start_place [] i t h = cc h
start_place (Start u ∷ es) zero t h = let q : u ≡ t = cc h in (0, ap Some q)
start_place (Finish u e v ∷ es) zero t h = cc h
start_place (Start u ∷ es) (suc i) t h = let r = start_place es i t h in (suc r.0, r.1)
start_place (Finish u e v ∷ es) (suc i) t h = start_place es i t h

-- no pass with the next number has finished
unfinished_yet : (s : Setting) → RunLaws s → (es : List Event) (m : Machine) → IsRun s es m → (t : Ticket) →
    t.pass ≡ m.starts → (end : PassEnd) (v : FinishVerdict) → ¬ Contains es (Finish t end v)
unfinished_yet s laws es m run t next end v h =
    let k = place_of es (Finish t end v) h in
    let o = laws.finishes (take k.0 es) (drop (suc k.0) es) m t end v (subst (λ xs. IsRun s xs m)
    (around es k.0 (Finish t end v) k.1) run) in
    let p = place_of (take k.0 es) (Start t) o.opened in
    let q = start_place es p.0 t (take-before es k.0 p.0 (Start t) p.1) in
    let numbers = laws.numbered es m run in
    let here : slice_get (range_with_len 0 m.starts) q.0 ≡ Some t.pass =
    subst (λ (ns : List ℕ). slice_get ns q.0 ≡ Some t.pass) numbers (at-map (λ (t : Ticket). t.pass)
    (started es) q.0 t q.1) in
    let n = number_at 0 m.starts q.0 t.pass here in
    let w = slice_get_within (range_with_len 0 m.starts) q.0 t.pass here in
    omega (arith, n, w, length-range_with_len 0 m.starts, next)

-- A START
pub starts : (s : RunSetting) → RunLaws s.scheduler →
    (old new : Record) (before after : List Status) (m n : Machine) (t : Ticket) (stamp : ℕ) →
    IsGrowing s old before m → Starts s.scheduler m t n →
    AddsStart s old before t stamp new after → IsGrowing s new after n
starts s laws old new before after m n t stamp g start a =
    subst (λ (r : Record). IsGrowing s r after n) (sym a.is)
    (subst (λ (xs : List Status). IsGrowing s new' xs n) (sym a.status) grown)
  where
    new' : Record
    new' = record old {
      sched = old.sched ++ S.Start t stamp ∷ [];
      passes = old.passes ++ (pass_begun t) ∷ [];
    }

    extends : Extends old new'
    extends = record {
      entries = λ b k e h. h;
      scheds = λ x h. Contains-append_left old.sched (S.Start t stamp ∷ []) x h;
      claims = λ j p h. (p, at-append old.passes ((pass_begun t) ∷ []) j p h, λ k c e. e);
    }

    stays : (end : PassEnd) (v : FinishVerdict) (p : PassRecord) →
        Contains (events_of new') (Finish p.ticket end v) → Contains (events_of old) (Finish p.ticket end v)
    stays end v p h =
        by (contains-push (events_of old) (Start t) (Finish p.ticket end v)
        (subst (λ (es : List Event). Contains es (Finish p.ticket end v)) (map-append event_of old.sched
        (S.Start t stamp ∷ [])) h))
      where
        by : Contains (events_of old) (Finish p.ticket end v) ⊎ (Start t ≡ Finish p.ticket end v) →
            Contains (events_of old) (Finish p.ticket end v)
        by (inl x) = x
        by (inr x) = cc x

    passes : PassesAt s new' (before ++ Going (begun s.program a.action) s.budget ∷ [])
    passes i p status h k =
        go (push-cases old.passes (pass_begun t) p i h) (push-cases before (Going (begun s.program a.action)
        s.budget) status i k)
      where
        go : (slice_get old.passes i ≡ Some p) ⊎ ((i ≡ length old.passes) × ((pass_begun t) ≡ p)) →
            (slice_get before i ≡ Some status) ⊎ ((i ≡ length before)
            × (Going (begun s.program a.action) s.budget ≡ status)) → IsPassAt s new' p status
        go (inl b) (inl c) =
            at_still old new' extends s p status (λ end v h. stays end v p h) (g.passes i p status b c)
        go (inl b) (inr c) =
            let w = slice_get_within old.passes i p b in absurd (omega (arith, w, c.0, g.each))
        go (inr b) (inl c) =
            let w = slice_get_within before i status c in absurd (omega (arith, w, b.0, g.each))
        go (inr b) (inr c) =
            subst (λ (p : PassRecord). IsPassAt s new' p status) b.1
            (subst (λ (x : Status). IsPassAt s new' (pass_begun t) x) c.1 fresh)
          where
            empty : steps_of new' (pass_begun t) ≡ []
            empty = refl

            fresh : IsOpenPass s new' (pass_begun t) (Going (begun s.program a.action) s.budget)
            fresh = record {
              action = a.action;
              there = a.there;
              start = stamp;
              started = Contains-push old.sched (S.Start t stamp);
              rising = λ i j d l w. absurd (omega arith);
              claims = λ k c e. let z : None ≡ Some c = e in cc z;
              comes = subst (λ es. ComesTo s a.action es (Going (begun s.program a.action) s.budget))
                  (sym empty) (refl, refl);
              unfinished = λ end v h. unfinished_yet s.scheduler laws (events_of old) m g.run t
                  start.next.pass end v (stays end v (pass_begun t) h);
            }

    grown : IsGrowing s new' (before ++ Going (begun s.program a.action) s.budget ∷ []) n
    grown = record {
      first = g.first;
      last = g.last;
      many = g.many;
      legal = g.legal;
      stamps = g.stamps;
      run = subst (λ es. IsRun s.scheduler es n)
          (sym (map-append event_of old.sched (S.Start t stamp ∷ []))) (laws.more (events_of old) m n
          (Start t) g.run start);
      times = subst AreStamps (sym (map-append stamp_of old.sched (S.Start t stamp ∷ [])))
          (stamps_push (map stamp_of old.sched) stamp g.times a.time);
      tickets = map-append (λ (p : PassRecord). p.ticket) old.passes ((pass_begun t) ∷ [])
          ∙ (ap (λ (ts : List Ticket). ts ++ t ∷ []) g.tickets ∙ (refl
          ∙ (sym (started-append (events_of old) t) ∙ ap started
          (sym (map-append event_of old.sched (S.Start t stamp ∷ []))))));
      each = length-append before (Going (begun s.program a.action) s.budget ∷ [])
          ∙ (ap (λ k. k + 1) g.each ∙ sym (length-append old.passes ((pass_begun t) ∷ [])));
      passes = passes;
      claimed = λ b k e h. claimed_still old new' extends b k e (g.claimed b k e h);
    }

-- A FINISH
pub finishes : (s : RunSetting) → RunLaws s.scheduler →
    (old new : Record) (before after : List Status) (m n : Machine) (i : ℕ) (t : Ticket) (end : PassEnd)
    (verdict : FinishVerdict) (stamp : ℕ) → IsGrowing s old before m →
    Finishes s.scheduler m t end verdict n →
    AddsFinish s old before i t end verdict stamp new after → IsGrowing s new after n
finishes s laws old new before after m n i t end verdict stamp g finish a =
    subst (λ (r : Record). IsGrowing s r after n) (sym a.is)
    (subst (λ (xs : List Status). IsGrowing s new' xs n) (sym a.status) grown)
  where
    done : PassRecord
    done = record a.pass { commit = a.commit; end = end; verdict = verdict }

    new' : Record
    new' = record old {
      sched = old.sched ++ S.Finish t end verdict stamp ∷ [];
      passes = slice_set old.passes i done;
    }

    extends : Extends old new'
    extends = record {
      entries = λ b k e h. h;
      scheds = λ x h. Contains-append_left old.sched (S.Finish t end verdict stamp ∷ []) x h;
      claims = λ j p h. claims j p h (cases_eq j i);
    }
      where
        claims : (j : ℕ) (p : PassRecord) → slice_get old.passes j ≡ Some p → (j ≡ i) ⊎ (j ≡ i → ⊥) →
            (q : PassRecord) × (slice_get (slice_set old.passes i done) j ≡ Some q)
            × ((n : ℕ) (c : Claim) → slice_get p.claims n ≡ Some c → slice_get q.claims n ≡ Some c)
        claims j p h (inl same) =
            let e : slice_get old.passes i ≡ Some p = subst (λ j. slice_get old.passes j ≡ Some p) same h in
            let q : p ≡ a.pass = let z = a.there in cc (e, z) in (
              done,
              subst (λ j. slice_get (slice_set old.passes i done) j ≡ Some done) (sym same)
                  (set-here old.passes i a.pass done a.there),
              λ k c u. subst (λ (p : PassRecord). slice_get p.claims k ≡ Some c) q u,
            )
        claims j p h (inr other) = (p, set-other old.passes i j done other ∙ h, λ k c e. e)

    opened : IsOpenPass s old a.pass (Through end)
    opened = g.passes i a.pass (Through end) a.there a.through

    finished : IsPass s new' done
    finished = record {
      action = opened.action;
      there = opened.there;
      start = opened.start;
      started = extends.scheds (S.Start a.pass.ticket opened.start) opened.started;
      finish = stamp;
      finished =
          subst (λ (u : Ticket). Contains new'.sched (S.Finish u end verdict stamp)) (sym a.ticket)
          (Contains-push old.sched (S.Finish t end verdict stamp));
      rising = rising_push (opened.start ∷ claim_stamps a.pass) stamp opened.rising above;
      claims = λ k c h. names_still old new' extends a.pass done refl k c (opened.claims k c h);
      chain = subst (λ es. ChainsTo s.program (begun s.program opened.action) s.budget es end)
          (sym (pass_steps old new' extends s a.pass opened.claims)) opened.comes;
      commit = subst (λ es. option_map (λ (e : Recorded). kind_of (compiled s.program) e.before e.end)
          (slice_get es a.commit) ≡ Some Commit)
          (sym (pass_steps old new' extends s a.pass opened.claims)) a.committed;
    }
      where
        above : All (λ (x : ℕ). x < stamp) (opened.start ∷ claim_stamps a.pass)
        above zero d l = a.later opened.start opened.started
        above (suc k) d l = a.higher k d (omega (arith, l))

    passes : PassesAt s new' (slice_set before i Finished)
    passes j p status h k = go (cases_eq j i)
      where
        go : (j ≡ i) ⊎ (j ≡ i → ⊥) → IsPassAt s new' p status
        go (inl same) =
            let e : slice_get (slice_set old.passes i done) i ≡ Some p =
            subst (λ j. slice_get (slice_set old.passes i done) j ≡ Some p) same h in
            let f : slice_get (slice_set before i Finished) i ≡ Some status =
            subst (λ j. slice_get (slice_set before i Finished) j ≡ Some status) same k in
            let q : done ≡ p = let z = set-here old.passes i a.pass done a.there in cc (e, z) in
            let u : Finished ≡ status =
            let z = set-here before i (Through end) Finished a.through in cc (f, z) in
            subst (λ (p : PassRecord). IsPassAt s new' p status) q
            (subst (λ (x : Status). IsPassAt s new' done x) u finished)
        go (inr other) =
            let at = sym (set-other old.passes i j done other) ∙ h in
            at_still old new' extends s p status (λ end' v x. stays end' v (contains-push (events_of old)
            (Finish t end verdict) (Finish p.ticket end' v)
            (subst (λ (es : List Event). Contains es (Finish p.ticket end' v))
            (map-append event_of old.sched (S.Finish t end verdict stamp ∷ [])) x)))
            (g.passes j p status at (sym (set-other before i j Finished other) ∙ k))
          where
            stays : (end' : PassEnd) (v : FinishVerdict) →
                Contains (events_of old) (Finish p.ticket end' v) ⊎ (Finish t end verdict
                ≡ Finish p.ticket end' v) → Contains (events_of old) (Finish p.ticket end' v)
            stays end' v (inl x) = x
            stays end' v (inr x) =
                let same : t ≡ p.ticket = cc x in
                let mine = number_of_pass s laws old before m g i a.pass a.there in
                let its = number_of_pass s laws old before m g j p
                (sym (set-other old.passes i j done other) ∙ h) in
                absurd (other (sym its ∙ (ap (λ (u : Ticket). u.pass) (sym same)
                ∙ (ap (λ (u : Ticket). u.pass) (sym a.ticket) ∙ mine))))

    grown : IsGrowing s new' (slice_set before i Finished) n
    grown = record {
      first = g.first;
      last = g.last;
      many = g.many;
      legal = g.legal;
      stamps = g.stamps;
      run = subst (λ es. IsRun s.scheduler es n)
          (sym (map-append event_of old.sched (S.Finish t end verdict stamp ∷ [])))
          (laws.more (events_of old) m n (Finish t end verdict) g.run finish);
      times = subst AreStamps (sym (map-append stamp_of old.sched (S.Finish t end verdict stamp ∷ [])))
          (stamps_push (map stamp_of old.sched) stamp g.times a.time);
      tickets = set-map (λ (p : PassRecord). p.ticket) old.passes i a.pass done a.there refl
          ∙ (g.tickets ∙ (sym (started-finish (events_of old) t end verdict) ∙ ap started
          (sym (map-append event_of old.sched (S.Finish t end verdict stamp ∷ [])))));
      each = length-set before i Finished ∙ (g.each ∙ sym (length-set old.passes i done));
      passes = passes;
      claimed = λ b k e h. claimed_still old new' extends b k e (g.claimed b k e h);
    }

-- THE END
pub loose : (s : RunSetting) → RunLaws s.scheduler → (r : Record) (statuses : List Status) (m : Machine) →
    IsGrowing s r statuses m → IsOver s m → IsLoose s r
loose s laws r statuses m g over = record {
  first = g.first;
  last = g.last;
  many = g.many;
  legal = g.legal;
  stamps = g.stamps;
  end = m;
  run = g.run;
  over = over;
  times = g.times;
  tickets = g.tickets;
  passes = λ i p h. passes i p h;
  claimed = g.claimed;
}
  where
    not_open : (p : PassRecord) (status : Status) → IsOpenPass s r p status → ⊥
    not_open p status is =
        let k = place_of r.sched (S.Start p.ticket is.start) is.started in
        let f = laws.all (events_of r) m p.ticket g.run over.quiet (at-contains (events_of r) k.0
        (Start p.ticket) (at-map event_of r.sched k.0 (S.Start p.ticket is.start) k.1)) in
        is.unfinished f.0 f.1 f.2

    closed : (p : PassRecord) (status : Status) → IsPassAt s r p status → IsPass s r p
    closed p (Going at left) is = absurd (not_open p (Going at left) is)
    closed p (Through end) is = absurd (not_open p (Through end) is)
    closed p Finished is = is

    passes : (i : ℕ) (p : PassRecord) → slice_get r.passes i ≡ Some p → IsPass s r p
    passes i p h =
        let w = slice_get_within r.passes i p h in
        let x = at-within statuses i (omega (arith, w, g.each)) in
        closed p x.0 (g.passes i p x.0 h x.1)

-- what the step law says of an open pass
pub record GoesOn (p : Program) : Type 0 where
  pub on : (a b next : Activation) (budget left : ℕ) (es : List Recorded) (e : Recorded) →
      LeadsTo p a budget es b left → IsStepFrom b left e →
      turned p (record b { frame = e.after }) e.end ≡ Next next →
      LeadsTo p a budget (es ++ e ∷ []) next e.budget_after
  pub over : (a b : Activation) (budget left : ℕ) (es : List Recorded) (e : Recorded) (end : PassEnd) →
      LeadsTo p a budget es b left → IsStepFrom b left e →
      turned p (record b { frame = e.after }) e.end ≡ Over end → ChainsTo p a budget (es ++ e ∷ []) end

-- A STEP
module _ (s : RunSetting) (goes : GoesOn s.program)
    (laws : RunLaws s.scheduler)
    (old : Record) (before after : List Status) (m : Machine) (i : ℕ) (e : BoxEntry)
    (g : IsGrowing s old before m) (new : Record) (a : AddsStep s old before i e new after) where
  -- the box of the step
  abbrev b : ℕ
  b = a.at.box_number

  -- the journal of that box before the step
  abbrev front : List BoxEntry
  front = journal old b

  -- the pass with the claim of the step
  abbrev longer : PassRecord
  longer = with_claim a.pass a.claim

  -- the record with the step
  abbrev grown_record : Record
  grown_record = record old {
    last = with_vars old.last b a.vars;
    boxes = slice_set old.boxes b (front ++ e ∷ []);
    passes = slice_set old.passes i longer;
  }

  -- how far the pass is then
  abbrev next_status : Status
  next_status = status_of (turned s.program (record a.at { frame = e.after }) e.end) e.budget_after

  -- the journal of that box has the entry at its end
  journal_here : journal grown_record b ≡ front ++ e ∷ []
  journal_here = get_or-set_same old.boxes b (front ++ e ∷ []) [] a.box

  -- the journals of the other boxes stay
  journal_other : (c : ℕ) → (c ≡ b → ⊥) → journal grown_record c ≡ journal old c
  journal_other c h = get_or-set_other old.boxes b c (front ++ e ∷ []) [] h

  -- the entry stands in its journal
  there : slice_get (journal grown_record b) (length front) ≡ Some e
  there = subst (λ (es : List BoxEntry). slice_get es (length front) ≡ Some e) (sym journal_here)
      (at-push front e)

  -- the record with the step extends the one before it
  extends : Extends old grown_record
  extends = record {
    entries = λ c k x h. entries c k x h (cases_eq c b);
    scheds = λ x h. h;
    claims = λ j p h. claims j p h (cases_eq j i);
  }
    where
      entries : (c k : ℕ) (x : BoxEntry) → slice_get (journal old c) k ≡ Some x → (c ≡ b) ⊎ (c ≡ b → ⊥) →
          slice_get (journal grown_record c) k ≡ Some x
      entries c k x h (inl same) =
          let h' : slice_get front k ≡ Some x = subst (λ c. slice_get (journal old c) k ≡ Some x) same h in
          subst (λ c. slice_get (journal grown_record c) k ≡ Some x) (sym same)
          (subst (λ (es : List BoxEntry). slice_get es k ≡ Some x) (sym journal_here)
          (at-append front (e ∷ []) k x h'))
      entries c k x h (inr other) =
          subst (λ (es : List BoxEntry). slice_get es k ≡ Some x) (sym (journal_other c other)) h

      claims : (j : ℕ) (p : PassRecord) → slice_get old.passes j ≡ Some p → (j ≡ i) ⊎ (j ≡ i → ⊥) →
          (q : PassRecord) × (slice_get (slice_set old.passes i longer) j ≡ Some q)
          × ((n : ℕ) (c : Claim) → slice_get p.claims n ≡ Some c → slice_get q.claims n ≡ Some c)
      claims j p h (inl same) =
          let x : slice_get old.passes i ≡ Some p = subst (λ j. slice_get old.passes j ≡ Some p) same h in
          let q : p ≡ a.pass = let z = a.there in cc (x, z) in (
            longer,
            subst (λ j. slice_get (slice_set old.passes i longer) j ≡ Some longer) (sym same)
                (set-here old.passes i a.pass longer a.there),
            λ k c u. at-append a.pass.claims (a.claim ∷ []) k c
                (subst (λ (p : PassRecord). slice_get p.claims k ≡ Some c) q u),
          )
      claims j p h (inr other) = (p, set-other old.passes i j longer other ∙ h, λ k c u. u)

  -- the pass is open
  opened : IsOpenPass s old a.pass (Going a.at a.left)
  opened = g.passes i a.pass (Going a.at a.left) a.there a.going

  -- its number is its place
  number_is : a.pass.ticket.pass ≡ i
  number_is = number_of_pass s laws old before m g i a.pass a.there

  -- the claim of the entry
  abbrev claim_is : Claim
  claim_is = record { box_number = b; place = length front; stamp = e.stamp }

  -- the pass has one step more
  new_steps : steps_of grown_record longer ≡ steps_of old a.pass ++ step_of b e ∷ []
  new_steps =
      filter_map-append (claimed grown_record) a.pass.claims (a.claim ∷ [])
      ∙ (ap (λ (xs : List Recorded). xs ++ filter_map (claimed grown_record) (a.claim ∷ []))
      (pass_steps old grown_record extends s a.pass opened.claims)
      ∙ ap (λ (xs : List Recorded). steps_of old a.pass ++ xs)
      (ap (λ (c : Claim). filter_map (claimed grown_record) (c ∷ [])) a.names
      ∙ ap (λ (o : Option BoxEntry). cons_option (option_map (step_of b) o) []) there))

  -- each of its claims names an entry
  new_claims : (k : ℕ) (c : Claim) → slice_get longer.claims k ≡ Some c → NamesEntry grown_record longer k c
  new_claims k c h = go (push-cases a.pass.claims a.claim c k h)
    where
      named : NamesEntry grown_record longer (length a.pass.claims) claim_is
      named = record { entry = e; there = there; own = a.own; at = a.number; when = refl }

      go : (slice_get a.pass.claims k ≡ Some c) ⊎ ((k ≡ length a.pass.claims) × (a.claim ≡ c)) →
          NamesEntry grown_record longer k c
      go (inl x) = names_still old grown_record extends a.pass longer refl k c (opened.claims k c x)
      go (inr x) =
          subst (λ k. NamesEntry grown_record longer k c) (sym x.0)
          (subst (λ (c : Claim). NamesEntry grown_record longer (length a.pass.claims) c) (sym a.names
          ∙ x.1) named)

  -- the pass is open still, with what its steps come to
  opened_still : (status : Status) → ComesTo s opened.action (steps_of grown_record longer) status →
      IsOpenPass s grown_record longer status
  opened_still status comes = record {
    action = opened.action;
    there = opened.there;
    start = opened.start;
    started = opened.started;
    rising = subst (λ (xs : List ℕ). AreRising (opened.start ∷ xs)) (sym stamps_are)
        (rising_push (opened.start ∷ claim_stamps a.pass) e.stamp opened.rising above);
    claims = new_claims;
    comes = comes;
    unfinished = opened.unfinished;
  }
    where
      stamps_are : claim_stamps longer ≡ claim_stamps a.pass ++ e.stamp ∷ []
      stamps_are =
          map-append (λ (c : Claim). c.stamp) a.pass.claims (a.claim ∷ [])
          ∙ ap (λ (c : Claim). claim_stamps a.pass ++ c.stamp ∷ []) a.names

      above : All (λ (x : ℕ). x < e.stamp) (opened.start ∷ claim_stamps a.pass)
      above zero d l = a.later opened.start opened.started
      above (suc k) d l = a.higher k d (omega (arith, l))

  -- the pass is as far as its next status says
  moved : IsPassAt s grown_record longer next_status
  moved = by (turned s.program (record a.at { frame = e.after }) e.end) refl
    where
      from : IsStepFrom a.at a.left (step_of b e)
      from = record { box = refl; before = a.before; budget_before = a.budget }

      by : (x : Turned) → turned s.program (record a.at { frame = e.after }) e.end ≡ x →
          IsPassAt s grown_record longer (status_of x e.budget_after)
      by (Next next) h = opened_still (Going next e.budget_after)
          (subst (λ (es : List Recorded). LeadsTo s.program (begun s.program opened.action) s.budget es next
          e.budget_after) (sym new_steps)
          (goes.on (begun s.program opened.action) a.at next s.budget a.left (steps_of old a.pass)
          (step_of b e) opened.comes from h))
      by (Over end) h = opened_still (Through end)
          (subst (λ (es : List Recorded). ChainsTo s.program (begun s.program opened.action) s.budget es
          end) (sym new_steps)
          (goes.over (begun s.program opened.action) a.at s.budget a.left (steps_of old a.pass)
          (step_of b e) end opened.comes from h))

  -- so is each pass
  passes : PassesAt s grown_record (slice_set before i next_status)
  passes j p status h k = go (cases_eq j i)
    where
      go : (j ≡ i) ⊎ (j ≡ i → ⊥) → IsPassAt s grown_record p status
      go (inl same) =
          let x : slice_get (slice_set old.passes i longer) i ≡ Some p =
          subst (λ j. slice_get (slice_set old.passes i longer) j ≡ Some p) same h in
          let y : slice_get (slice_set before i next_status) i ≡ Some status =
          subst (λ j. slice_get (slice_set before i next_status) j ≡ Some status) same k in
          let q : longer ≡ p = let z = set-here old.passes i a.pass longer a.there in cc (x, z) in
          let u : next_status ≡ status =
          let z = set-here before i (Going a.at a.left) next_status a.going in cc (y, z) in
          subst (λ (p : PassRecord). IsPassAt s grown_record p status) q
          (subst (λ (x : Status). IsPassAt s grown_record longer x) u moved)
      go (inr other) =
          at_still old grown_record extends s p status (λ end v x. x)
          (g.passes j p status (sym (set-other old.passes i j longer other) ∙ h)
          (sym (set-other before i j next_status other) ∙ k))

  -- the journal of each box is a legal history
  legal_now : (c : ℕ) → c < length old.boxes → (c ≡ b) ⊎ (c ≡ b → ⊥) →
      IsLegal (gives (compiled s.program) c) (vars_of old.first c) (journal grown_record c)
      (vars_of grown_record.last c)
  legal_now c l (inl same) =
      let vars_here : vars_of grown_record.last b ≡ a.vars =
      ap (λ (v : Vars). v.values) (get_or-set_same old.last.boxes b (record { values = a.vars })
      (record { values = [] }) (omega (arith, a.box, g.last, g.many))) in
      subst (λ c. IsLegal (gives (compiled s.program) c) (vars_of old.first c) (journal grown_record c)
      (vars_of grown_record.last c)) (sym same)
      (subst (λ (vs : List Value). IsLegal (gives (compiled s.program) b) (vars_of old.first b)
      (journal grown_record b) vs) (sym vars_here)
      (subst (λ (es : List BoxEntry). IsLegal (gives (compiled s.program) b) (vars_of old.first b) es
      a.vars) (sym journal_here)
      (legal_push (gives (compiled s.program) b) (vars_of old.first b) (vars_of old.last b) a.vars
      front e (g.legal b a.box) a.gives)))
  legal_now c l (inr other) =
      let vars_there : vars_of grown_record.last c ≡ vars_of old.last c =
      ap (λ (v : Vars). v.values) (get_or-set_other old.last.boxes b c (record { values = a.vars })
      (record { values = [] }) other) in
      subst (λ (vs : List Value). IsLegal (gives (compiled s.program) c) (vars_of old.first c)
      (journal grown_record c) vs) (sym vars_there)
      (subst (λ (es : List BoxEntry). IsLegal (gives (compiled s.program) c) (vars_of old.first c) es
      (vars_of old.last c)) (sym (journal_other c other)) (g.legal c l))

  -- the stamps of each journal rise
  stamps_now : (c : ℕ) → c < length old.boxes → (c ≡ b) ⊎ (c ≡ b → ⊥) →
      AreStamps (map (λ (x : BoxEntry). x.stamp) (journal grown_record c))
  stamps_now c l (inl same) =
      subst (λ c. AreStamps (map (λ (x : BoxEntry). x.stamp) (journal grown_record c))) (sym same)
      (subst (λ (es : List BoxEntry). AreStamps (map (λ (x : BoxEntry). x.stamp) es)) (sym journal_here)
      (subst AreStamps (sym (map-append (λ (x : BoxEntry). x.stamp) front (e ∷ [])))
      (stamps_push (map (λ (x : BoxEntry). x.stamp) front) e.stamp (g.stamps b a.box) a.time)))
  stamps_now c l (inr other) =
      subst (λ (es : List BoxEntry). AreStamps (map (λ (x : BoxEntry). x.stamp) es))
      (sym (journal_other c other)) (g.stamps c l)

  -- each entry is claimed
  claimed_now : (c k : ℕ) (x : BoxEntry) → slice_get (journal grown_record c) k ≡ Some x →
      (c ≡ b) ⊎ (c ≡ b → ⊥) → IsClaimed grown_record c k x
  claimed_now c k x h (inr other) =
      claimed_still old grown_record extends c k x
      (g.claimed c k x (subst (λ (es : List BoxEntry). slice_get es k ≡ Some x) (journal_other c other)
      h))
  claimed_now c k x h (inl same) = subst (λ c. IsClaimed grown_record c k x) (sym same)
      (go (push-cases front e x k (subst (λ (es : List BoxEntry). slice_get es k ≡ Some x) journal_here
      (subst (λ c. slice_get (journal grown_record c) k ≡ Some x) same h))))
    where
      own : IsClaimed grown_record b (length front) e
      own = record {
        pass = longer;
        there = subst (λ j. slice_get (slice_set old.passes i longer) j ≡ Some longer)
            (sym (a.own ∙ number_is)) (set-here old.passes i a.pass longer a.there);
        claim = a.claim;
        here = subst (λ j. slice_get longer.claims j ≡ Some a.claim) (sym a.number)
            (at-push a.pass.claims a.claim);
        on = ap (λ (c : Claim). c.box_number) a.names;
        at = ap (λ (c : Claim). c.place) a.names;
      }

      go : (slice_get front k ≡ Some x) ⊎ ((k ≡ length front) × (e ≡ x)) → IsClaimed grown_record b k x
      go (inl y) = claimed_still old grown_record extends b k x (g.claimed b k x y)
      go (inr y) =
          subst (λ k. IsClaimed grown_record b k x) (sym y.0)
          (subst (λ (x : BoxEntry). IsClaimed grown_record b (length front) x) y.1 own)

  -- the record with the step is one in the making
  grows : IsGrowing s grown_record (slice_set before i next_status) m
  grows = record {
    first = g.first;
    last = length-set old.last.boxes b (record { values = a.vars }) ∙ g.last;
    many = length-set old.boxes b (front ++ e ∷ []) ∙ g.many;
    legal = λ c l. legal_now c (omega (arith, l, length-set old.boxes b (front ++ e ∷ [])))
        (cases_eq c b);
    stamps = λ c l. stamps_now c (omega (arith, l, length-set old.boxes b (front ++ e ∷ [])))
        (cases_eq c b);
    run = g.run;
    times = g.times;
    tickets = set-map (λ (p : PassRecord). p.ticket) old.passes i a.pass longer a.there refl ∙ g.tickets;
    each = length-set before i next_status ∙ (g.each ∙ sym (length-set old.passes i longer));
    passes = passes;
    claimed = λ c k x h. claimed_now c k x h (cases_eq c b);
  }

  -- a step keeps a record in the making
  pub steps : IsGrowing s new after m
  steps = subst (λ (r : Record). IsGrowing s r after m) (sym a.is)
      (subst (λ (xs : List Status). IsGrowing s grown_record xs m) (sym a.status) grows)
