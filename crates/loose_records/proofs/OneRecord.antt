-- The record of turns is one.
use Rattle.std.proofs.Common.{◌≡◌, ℕ, zero, suc, ◌+◌, List, [], ◌∷◌, ◌++◌, sym}
use Rattle.std.proofs.Common.{subst, ap, refl, length, slice_get, Option, Some, None, ◌∙◌, map}
use Rattle.std.specs.Prelude.{Contains, max, option_map, slice_set}
use Rattle.std.specs.List.{range_with_len}
use Rattle.seuss_base.specs.declared.outcome.PassEnd.{PassEnd}
use Rattle.seuss_program.specs.declared.program.ActionInfo.{ActionInfo}
use Rattle.seuss_program.specs.Programs.{vars_of}
use Rattle.method_code.specs.declared.activation.Activation.{Activation}
use Rattle.method_code.specs.Codes.{compiled}
use Rattle.method_code.specs.Steps.{Stepped, step}
use Rattle.method_code.specs.Chains.{begun, turned, with_vars}
use Rattle.compat_scheduler.specs.declared.slot.Slot.TheVariants.{Running}
use Rattle.compat_scheduler.specs.declared.ticket.Ticket.{Ticket}
use Rattle.compat_scheduler.specs.declared.ticket.FinishVerdict.{FinishVerdict}
use Rattle.compat_scheduler.specs.Machines.{Machine, slot_at, slot_of}
use Rattle.compat_scheduler.specs.Starts.{Starts, IsNext}
use Rattle.compat_scheduler.specs.Finishes.{Finishes, verdict_on}
use Rattle.compat_scheduler.specs.Runs.{Event, IsRun}
use Rattle.compat_scheduler.specs.Runs.Event.{Start, Finish}
use Rattle.loose_records.specs.declared.record.BoxEntry.{BoxEntry}
use Rattle.loose_records.specs.declared.record.SchedEntry.TheVariants as S
use Rattle.loose_records.specs.declared.record.PassRecord.{PassRecord}
use Rattle.loose_records.specs.declared.record.Record.{Record}
use Rattle.loose_records.specs.Entries.{event_of, events_of, stamp_of, journal, claim_stamps, steps_of}
use Rattle.method_code.specs.Kinds.{Commit, kind_of}
use Rattle.method_code.specs.Records.{Recorded}
use Rattle.loose_records.specs.Settings.{RunSetting}
use Rattle.loose_records.specs.LooseRecords.{IsOver}
use Rattle.loose_records.specs.Growing.{Status, Going, Through, Finished, IsGrowing, AddsStart, AddsStep}
use Rattle.loose_records.specs.Growing.{AddsFinish, CommitsAt, pass_begun, status_of, with_claim}
use Rattle.loose_records.specs.Turns.{Turning, IsTurn, Waits, Begins, Moves, Ends, AreTurns, IsClock}
use Rattle.loose_records.specs.Turns.{clock_of}
use Rattle.loose_records.proofs.Lists.{at-map, place_of}
use Rattle.loose_records.proofs.GrowingSteps.{RunLaws}
use Rattle.loose_records.proofs.GrowingTurns.{Grows, GrowsNow, turn_grows}

-- the laws that the record of turns is one by
pub record TurnLaws (s : RunSetting) : Type 0 where
  pub grows : Grows s
  pub runs : RunLaws s.scheduler
  pub next : (m : Machine) (t u : Ticket) → IsNext s.scheduler m t → IsNext s.scheduler m u → t ≡ u
  pub one : (events : List Event) (m n : Machine) → IsRun s.scheduler events m →
      IsRun s.scheduler events n → m ≡ n
  pub starts_once : (events : List Event) (m : Machine) (i j : ℕ) (t u : Ticket) →
      IsRun s.scheduler events m → slice_get events i ≡ Some (Start t) →
      slice_get events j ≡ Some (Start u) → t.pass ≡ u.pass → i ≡ j
  pub commits : (r : Record) (statuses : List Status) (m : Machine) (i : ℕ) (pass : PassRecord)
      (end : PassEnd) → IsGrowing s r statuses m →
      slice_get r.passes i ≡ Some pass → slice_get statuses i ≡ Some (Through end) → CommitsAt s r pass

-- the step with this number is the commit step
abbrev pub Told : RunSetting → Record → PassRecord → ℕ → Type 0
Told s r p k =
    option_map (λ (e : Recorded). kind_of (compiled s.program) e.before e.end) (slice_get (steps_of r p) k)
    ≡ Some Commit

-- an option has one value
same_some : {A : Type 0} (x y : A) (o : Option A) → o ≡ Some x → o ≡ Some y → x ≡ y
same_some x y o p q = cc (p, q)

module _ (s : RunSetting) (laws : TurnLaws s) where
  -- a ticket starts at one stamp
  start_once : (r : Record) (m : Machine) → IsRun s.scheduler (events_of r) m → (t : Ticket) (a b : ℕ) →
      Contains r.sched (S.Start t a) → Contains r.sched (S.Start t b) → a ≡ b
  start_once r m run t a b p q =
      let i = place_of r.sched (S.Start t a) p in
      let j = place_of r.sched (S.Start t b) q in
      let e : i.0 ≡ j.0 = laws.starts_once (events_of r) m i.0 j.0 t t run
      (at-map event_of r.sched i.0 (S.Start t a) i.1) (at-map event_of r.sched j.0 (S.Start t b) j.1)
      refl in
      let z : S.Start t a ≡ S.Start t b = same_some (S.Start t a) (S.Start t b) (slice_get r.sched j.0)
      (subst (λ k. slice_get r.sched k ≡ Some (S.Start t a)) e i.1) j.1 in cc z

  -- a pass has one clock
  clock_once : (r : Record) (m : Machine) → IsRun s.scheduler (events_of r) m → (p q : PassRecord) → p ≡ q →
      (c d : ℕ) → IsClock r p c → IsClock r q d → c ≡ d
  clock_once r m run p q e c d x y =
      let y' : IsClock r p d = subst (λ (q : PassRecord). IsClock r q d) (sym e) y in
      let a : x.0 ≡ y'.0 = start_once r m run p.ticket x.0 y'.0 x.1 y'.1 in
      x.2 ∙ (ap (λ (n : ℕ). clock_of (n ∷ claim_stamps p)) a ∙ sym y'.2)

  -- runs with the same parts are one
  turning_is : (a b : Turning) → a.made ≡ b.made → a.statuses ≡ b.statuses → a.machine ≡ b.machine →
      a.holds ≡ b.holds → a ≡ b
  turning_is a b x y z w = λ i. record { made = x i; statuses = y i; machine = z i; holds = w i }

  -- a turn that begins a pass is one
  begins_once : (old a b : Turning) → GrowsNow s old → (t u : Ticket) (p q : ℕ) →
      Starts s.scheduler old.machine t a.machine → Starts s.scheduler old.machine u b.machine →
      AddsStart s old.made old.statuses t p a.made a.statuses →
      AddsStart s old.made old.statuses u q b.made b.statuses → p ≡ q → a.holds ≡ b.holds → a ≡ b
  begins_once old a b g t u p q st su x y pq holds =
      let e : t ≡ u = laws.next old.machine t u st.next su.next in
      let su' : Starts s.scheduler old.machine t b.machine =
      subst (λ (u : Ticket). Starts s.scheduler old.machine u b.machine) (sym e) su in
      let machine : a.machine ≡ b.machine =
      laws.one (events_of old.made ++ Start t ∷ []) a.machine b.machine
      (laws.runs.more (events_of old.made) old.machine a.machine (Start t) g.run st)
      (laws.runs.more (events_of old.made) old.machine b.machine (Start t) g.run su') in
      let action : x.action ≡ y.action = same_some x.action y.action (slice_get s.program.actions u.action)
      (subst (λ (u : Ticket). slice_get s.program.actions u.action ≡ Some x.action) e x.there) y.there in
      turning_is a b
      (x.is ∙ ((λ i. record old.made {
        sched = old.made.sched ++ S.Start (e i) (pq i) ∷ [];
        passes = old.made.passes ++ pass_begun (e i) ∷ [];
      }) ∙ sym y.is))
      (x.status ∙ (ap (λ (z : ActionInfo). old.statuses ++ Going (begun s.program z) s.budget ∷ []) action
      ∙ sym y.status))
      machine holds

  -- a turn that makes a step is one
  moves_once : (old a b : Turning) → GrowsNow s old → (i j : ℕ) → i ≡ j →
      (e f : BoxEntry) (x : AddsStep s old.made old.statuses i e a.made a.statuses)
      (y : AddsStep s old.made old.statuses j f b.made b.statuses)
      (c d : ℕ) → IsClock old.made x.pass c → IsClock old.made y.pass d →
      e.stamp ≡ 1 + max c (clock_of (map (λ (z : BoxEntry). z.stamp) (journal old.made x.at.box_number))) →
      f.stamp ≡ 1 + max d (clock_of (map (λ (z : BoxEntry). z.stamp) (journal old.made y.at.box_number))) →
      a.machine ≡ b.machine → a.holds ≡ b.holds → a ≡ b
  moves_once old a b g i j ij e f x y c d xc yd es fs machine holds =
      turning_is a b
      (x.is ∙ ((λ k. record old.made {
        last = with_vars old.made.last ((at k).box_number) (vars k);
        boxes = slice_set old.made.boxes ((at k).box_number) (journal old.made ((at k).box_number)
            ++ entry k ∷ []);
        passes = slice_set old.made.passes (ij k) (with_claim (pass k) (claim k));
      }) ∙ sym y.is))
      (x.status ∙ ((λ k. slice_set old.statuses (ij k)
      (status_of (turned s.program (record (at k) { frame = (entry k).after }) (entry k).end)
      (entry k).budget_after)) ∙ sym y.status))
      machine holds
    where
      pass : x.pass ≡ y.pass
      pass = same_some x.pass y.pass (slice_get old.made.passes j) (subst (λ k. slice_get old.made.passes k
          ≡ Some x.pass) ij x.there) y.there

      going : Going x.at x.left ≡ Going y.at y.left
      going = same_some (Going x.at x.left) (Going y.at y.left) (slice_get old.statuses j)
          (subst (λ k. slice_get old.statuses k ≡ Some (Going x.at x.left)) ij x.going) y.going

      at : x.at ≡ y.at
      at = cc going

      left : x.left ≡ y.left
      left = cc going

      before : e.before ≡ f.before
      before = x.before ∙ (ap (λ (z : Activation). z.frame) at ∙ sym y.before)

      budget : e.budget_before ≡ f.budget_before
      budget = x.budget ∙ (left ∙ sym y.budget)

      stepped : ◌≡◌ {A = Stepped} (record {
        vars = x.vars;
        frame = e.after;
        budget = e.budget_after;
        end = e.end;
      }) (record { vars = y.vars; frame = f.after; budget = f.budget_after; end = f.end })
      stepped =
          sym x.gives ∙ ((λ k. step (compiled s.program) (before k) (budget k) (vars_of old.made.last
          ((at k).box_number))) ∙ y.gives)

      vars : x.vars ≡ y.vars
      vars = ap (λ (z : Stepped). z.vars) stepped

      clock : c ≡ d
      clock = clock_once old.made old.machine g.run x.pass y.pass pass c d xc yd

      stamp : e.stamp ≡ f.stamp
      stamp = es ∙ ((λ k. 1 + max (clock k)
          (clock_of (map (λ (z : BoxEntry). z.stamp) (journal old.made ((at k).box_number))))) ∙ sym fs)

      entry : e ≡ f
      entry = λ k. record {
        pass = (x.own ∙ (ap (λ (p : PassRecord). p.ticket.pass) pass ∙ sym y.own)) k;
        number = (x.number ∙ (ap (λ (p : PassRecord). length p.claims) pass ∙ sym y.number)) k;
        before = before k;
        budget_before = budget k;
        after = (ap (λ (z : Stepped). z.frame) stepped) k;
        budget_after = (ap (λ (z : Stepped). z.budget) stepped) k;
        end = (ap (λ (z : Stepped). z.end) stepped) k;
        stamp = stamp k;
      }

      claim : x.claim ≡ y.claim
      claim = x.names ∙ ((λ k. record {
        box_number = (at k).box_number;
        place = length (journal old.made ((at k).box_number));
        stamp = stamp k;
      }) ∙ sym y.names)

  -- a turn that finishes a pass is one
  ends_once : (old a b : Turning) → GrowsNow s old → (i j : ℕ) → i ≡ j →
      (t u : Ticket) (e f : PassEnd) (v w : FinishVerdict) (p q : ℕ) →
      Finishes s.scheduler old.machine t e v a.machine → Finishes s.scheduler old.machine u f w b.machine →
      (x : AddsFinish s old.made old.statuses i t e v p a.made a.statuses)
      (y : AddsFinish s old.made old.statuses j u f w q b.made b.statuses)
      (c d : ℕ) → IsClock old.made x.pass c → IsClock old.made y.pass d →
      p ≡ 1 + max c (clock_of (map stamp_of old.made.sched)) →
      q ≡ 1 + max d (clock_of (map stamp_of old.made.sched)) → a.holds ≡ b.holds → a ≡ b
  ends_once old a b g i j ij t u e f v w p q ft fu x y c d xc yd ps qs holds =
      turning_is a b
      (x.is ∙ ((λ k. record old.made {
        sched = old.made.sched ++ S.Finish (ticket k) (end k) (verdict k) (stamp k) ∷ [];
        passes = slice_set old.made.passes (ij k) (record (pass k) {
          commit = commit k;
          end = end k;
          verdict = verdict k;
        });
      }) ∙ sym y.is))
      (x.status ∙ ((λ k. slice_set old.statuses (ij k) Finished) ∙ sym y.status))
      machine holds
    where
      pass : x.pass ≡ y.pass
      pass = same_some x.pass y.pass (slice_get old.made.passes j) (subst (λ k. slice_get old.made.passes k
          ≡ Some x.pass) ij x.there) y.there

      through : Through e ≡ Through f
      through =
          same_some (Through e) (Through f) (slice_get old.statuses j) (subst (λ k. slice_get old.statuses k
          ≡ Some (Through e)) ij x.through) y.through

      end : e ≡ f
      end = cc through

      ticket : t ≡ u
      ticket = sym x.ticket ∙ (ap (λ (p : PassRecord). p.ticket) pass ∙ y.ticket)

      clean : ft.judged.running.clean ≡ fu.judged.running.clean
      clean =
          let slot : Running t.pass t.mode ft.judged.running.clean
          ≡ Running u.pass u.mode fu.judged.running.clean =
          sym ft.judged.running.slot
          ∙ (ap (λ (t : Ticket). slot_at old.machine.slots (slot_of s.scheduler t)) ticket
          ∙ fu.judged.running.slot) in cc slot

      verdict : v ≡ w
      verdict = ft.judged.given ∙ ((λ k. verdict_on (clean k) (end k)) ∙ sym fu.judged.given)

      clock : c ≡ d
      clock = clock_once old.made old.machine g.run x.pass y.pass pass c d xc yd

      stamp : p ≡ q
      stamp = ps ∙ (ap (λ (n : ℕ). 1 + max n (clock_of (map stamp_of old.made.sched))) clock ∙ sym qs)

      commit : x.commit ≡ y.commit
      commit =
          let o = laws.commits old.made old.statuses old.machine j y.pass f g y.there y.through in
          o.only x.commit (subst (λ (p : PassRecord). Told s old.made p x.commit) pass x.committed)
          ∙ sym (o.only y.commit y.committed)

      machine : a.machine ≡ b.machine
      machine =
          let fu' : Finishes s.scheduler old.machine t e v b.machine =
          subst (λ (t : Ticket). Finishes s.scheduler old.machine t e v b.machine) (sym ticket)
          (subst (λ (e : PassEnd). Finishes s.scheduler old.machine u e v b.machine) (sym end)
          (subst (λ (v : FinishVerdict). Finishes s.scheduler old.machine u f v b.machine) (sym verdict)
          fu)) in
          laws.one (events_of old.made ++ Finish t e v ∷ []) a.machine b.machine
          (laws.runs.more (events_of old.made) old.machine a.machine (Finish t e v) g.run ft)
          (laws.runs.more (events_of old.made) old.machine b.machine (Finish t e v) g.run fu')

  -- a worker holds one pass
  held : (o : Option (Option ℕ)) (i j : ℕ) → o ≡ Some (Some i) → o ≡ Some (Some j) → i ≡ j
  held o i j p q = cc (p, q)

  -- a worker that holds a pass is not free
  free : {X : Type 0} (o : Option (Option ℕ)) (i : ℕ) → o ≡ Some None → o ≡ Some (Some i) → X
  free o i p q = cc (p, q)

  -- a pass that goes on is not through
  status_clash : {X : Type 0} (old : Turning) (i j : ℕ) (at : Activation) (left : ℕ) (end : PassEnd) →
      i ≡ j → slice_get old.statuses i ≡ Some (Going at left) →
      slice_get old.statuses j ≡ Some (Through end) → X
  status_clash old i j at left end ij p q =
      let p' : slice_get old.statuses j ≡ Some (Going at left) =
      subst (λ k. slice_get old.statuses k ≡ Some (Going at left)) ij p in cc (p', q)

  -- a turn of a worker leads to one run
  turn_once : (w : ℕ) (old a b : Turning) → GrowsNow s old → IsTurn s w old a → IsTurn s w old b → a ≡ b
  turn_once w old a b g (Waits f n is) (Waits f' n' is') = is ∙ sym is'
  turn_once w old a b g (Waits f n is) (Begins f' t p st x r h) = absurd (n t st.next)
  turn_once w old a b g (Waits f n is) (Moves i h e x c cl r m o) = free (slice_get old.holds w) i f h
  turn_once w old a b g (Waits f n is) (Ends i h t e v p fi x c cl r o) = free (slice_get old.holds w) i f h
  turn_once w old a b g (Begins f t p st x r h) (Waits f' n' is') = absurd (n' t st.next)
  turn_once w old a b g (Begins f t p st x r h) (Begins f' u q su y r' h') =
      begins_once old a b g t u p q st su x y (r ∙ sym r') (h ∙ sym h')
  turn_once w old a b g (Begins f t p st x r h) (Moves i h' e y c cl r' m o) =
      free (slice_get old.holds w) i f h'
  turn_once w old a b g (Begins f t p st x r h) (Ends i h' u e v q fi y c cl r' o) =
      free (slice_get old.holds w) i f h'
  turn_once w old a b g (Moves i h e x c cl r m o) (Waits f n is) = free (slice_get old.holds w) i f h
  turn_once w old a b g (Moves i h e x c cl r m o) (Begins f t p st y r' h') =
      free (slice_get old.holds w) i f h
  turn_once w old a b g (Moves i h e x c cl r m o) (Moves j h' f y d cl' r' m' o') =
      moves_once old a b g i j (held (slice_get old.holds w) i j h h') e f x y c d cl cl' r r' (m ∙ sym m')
      (o ∙ sym o')
  turn_once w old a b g (Moves i h e x c cl r m o) (Ends j h' t f v p fi y d cl' r' o') =
      status_clash old i j x.at x.left f (held (slice_get old.holds w) i j h h') x.going y.through
  turn_once w old a b g (Ends i h t e v p fi x c cl r o) (Waits f n is) = free (slice_get old.holds w) i f h
  turn_once w old a b g (Ends i h t e v p fi x c cl r o) (Begins f u q st y r' h') =
      free (slice_get old.holds w) i f h
  turn_once w old a b g (Ends i h t e v p fi x c cl r o) (Moves j h' f y d cl' r' m o') =
      status_clash old j i y.at y.left e (held (slice_get old.holds w) j i h' h) y.going x.through
  turn_once w old a b g (Ends i h t e v p fi x c cl r o) (Ends j h' u f z q fu y d cl' r' o') =
      ends_once old a b g i j (held (slice_get old.holds w) i j h h') t u e f v z p q fi fu x y c d cl cl' r
      r' (o ∙ sym o')

  -- turns that end where the machine is over lead to one run
  pub turns_once : (f : ℕ → ℕ) (k n m : ℕ) (old a b : Turning) → GrowsNow s old →
      AreTurns s (map f (range_with_len k n)) old a → AreTurns s (map f (range_with_len k m)) old b →
      IsOver s a.machine → IsOver s b.machine → a ≡ b
  turns_once f k zero zero old a b g x y oa ob = x ∙ sym y
  turns_once f k zero (suc m) old a b g x y oa ob =
      absurd (y.0 (subst (λ (t : Turning). IsOver s t.machine) x oa))
  turns_once f k (suc n) zero old a b g x y oa ob =
      absurd (x.0 (subst (λ (t : Turning). IsOver s t.machine) y ob))
  turns_once f k (suc n) (suc m) old a b g x y oa ob =
      let e : x.1.0 ≡ y.1.0 = turn_once (f k) old x.1.0 y.1.0 g x.1.1 y.1.1 in
      turns_once f (k + 1) n m x.1.0 a b (turn_grows s laws.grows (f k) old x.1.0 g x.1.1) x.1.2
      (subst (λ (mid : Turning). AreTurns s (map f (range_with_len (k + 1) m)) mid b) (sym e) y.1.2) oa ob
