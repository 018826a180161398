-- Each turn of the code is one of the definition.
use Rattle.std.proofs.Common.{◌≡◌, ℕ, suc, ◌+◌, ◌<◌, ◌≤◌, List, [], ◌∷◌, ◌++◌, map, length, refl}
use Rattle.std.proofs.Common.{slice_get, Some, None, sym, subst, ap, ◌∙◌, arith, ◌⊎◌, inl, inr, get_or, false}
use Rattle.std.specs.Prelude.{Option, slice_set, slice_index_or, Contains, All, max}
use Rattle.std.specs.List.{range_with_len}
use Rattle.std.proofs.lemmas.List.{length-append, length-map, map-append, map-set}
use Rattle.std.proofs.lemmas.List.Elements.{Contains-append_left}
use Rattle.std.proofs.lemmas.List.Sums.{sum_by_push, sum_by-set}
use Rattle.std.proofs.lemmas.List.FromFn.{length-range_with_len, get_or-range_with_len}
use Rattle.std.proofs.lemmas.Bool.{cases_lt}
use Rattle.std.proofs.lemmas.List.{get_or_past}
use Rattle.std.proofs.lemmas.Option.{slice_get_within, slice_get-get_or, get_or_from_slice_get, same_Some}
use Rattle.seuss_base.specs.declared.outcome.PassEnd.{PassEnd}
use Rattle.seuss_program.specs.declared.program.ActionInfo.{ActionInfo}
use Rattle.seuss_program.specs.declared.state.Value.{Value}
use Rattle.method_code.specs.declared.activation.Activation.{Activation}
use Rattle.method_code.specs.Chains.{begun, turned, with_vars}
use Rattle.method_code.specs.Kinds.{IsAction, pass_end}
use Rattle.compat_scheduler.specs.declared.ticket.Ticket.{Ticket}
use Rattle.compat_scheduler.specs.declared.ticket.FinishVerdict.{FinishVerdict}
use Rattle.compat_scheduler.specs.declared.slot.Slot.TheVariants.{Pending, Ended}
use Rattle.compat_scheduler.specs.Settings.{Setting}
use Rattle.compat_scheduler.specs.Machines.{Machine, IsRunning, running_count, slot_of}
use Rattle.compat_scheduler.specs.Starts.{Starts, IsNext, NoneStarts}
use Rattle.compat_scheduler.specs.Finishes.{Finishes}
use Rattle.compat_scheduler.specs.Soundness.{IsSoundMachine}
use Rattle.compat_scheduler.specs.Runs.{Event, IsRun, IsOpen, started}
use Rattle.compat_scheduler.specs.Runs.Event.{Start}
use Rattle.loose_records.specs.declared.record.BoxEntry.{BoxEntry}
use Rattle.loose_records.specs.declared.record.SchedEntry.TheVariants as S
use Rattle.loose_records.specs.declared.record.Claim.{Claim}
use Rattle.loose_records.specs.declared.record.PassRecord.{PassRecord}
use Rattle.loose_records.specs.declared.record.Record.{Record}
use Rattle.loose_records.specs.Entries.{event_of, events_of, journal, box_stamps, sched_stamps}
use Rattle.loose_records.specs.Entries.{claim_stamps, steps_of}
use Rattle.loose_records.specs.Settings.{RunSetting}
use Rattle.loose_records.specs.Growing.{Status, Going, Through, Finished, IsOpenPass, IsGrowing, AddsStart}
use Rattle.loose_records.specs.Growing.{AddsStep, AddsFinish, CommitsAt, pass_begun, with_claim, claim_of}
use Rattle.loose_records.specs.Growing.{status_of}
use Rattle.loose_records.specs.Turns.{IsTurn, Waits, Begins, Moves, Ends, IsClock, clock_of}
use Rattle.loose_records.specs.Stamps.{HasStampsLeft, events_in}
use Rattle.turn_runs.specs.declared.hand.Hand.{Hand}
use Rattle.turn_runs.specs.declared.hand.Progress.{Progress}
use Rattle.turn_runs.specs.declared.hand.Progress.TheVariants as P
use Rattle.turn_runs.specs.declared.run.Run.{Run}
use Rattle.turn_runs.specs.Hands.{status_now, pass_held}
use Rattle.turn_runs.specs.RunTurns.{StaysIdle, BeginsPass, MakesStep, EndsPass, TakesTurn, GoesOn}
use Rattle.turn_runs.specs.RunTurns.{MayGoOn, MayTurn}
use Rattle.turn_runs.proofs.BoxesThere.{begun_there, leads_there}
use Rattle.turn_runs.proofs.ClockLemmas.{clock_push}
use Rattle.turn_runs.proofs.CommitNumbers.{is_commit}
use Rattle.turn_runs.proofs.ListLemmas.{at-append, at-push, set-here, set-other, set-map, at-map, at-contains}
use Rattle.turn_runs.proofs.ListLemmas.{place_of, push-cases, set_cases}
use Rattle.turn_runs.proofs.PassLengths.{open_is_short}
use Rattle.turn_runs.specs.RunStates.{IsHeld, AreHands, turning_of, IsTurnSetting}
use Rattle.turn_runs.proofs.TurnStates.{IsNewHand, IsStillHeld, Done, Mine, Others, hands_after}

-- the laws that turns stand on
pub record TurnFacts (s : RunSetting) : Type 0 where
  pub is : IsTurnSetting s
  pub runs : (events : List Event) (m : Machine) (t : Ticket) → IsRun s.scheduler events m →
      IsOpen events t → IsRunning s.scheduler m t
  pub starts_once : (events : List Event) (m : Machine) (i j : ℕ) (t u : Ticket) →
      IsRun s.scheduler events m → slice_get events i ≡ Some (Start t) →
      slice_get events j ≡ Some (Start u) → t.pass ≡ u.pass → i ≡ j
  pub numbered : (events : List Event) (m : Machine) → IsRun s.scheduler events m →
      map (λ (t : Ticket). t.pass) (started events) ≡ range_with_len 0 m.starts
  pub sound : (events : List Event) (m : Machine) → IsRun s.scheduler events m →
      IsSoundMachine s.scheduler m
  pub in_time : (a : ActionInfo) (row : List (List Value)) (budget : ℕ) → budget ≤ 1000000 →
      2000300 ≤ length row →
      (end : PassEnd) × (pass_end s.program row (begun s.program a) budget ≡ Some end)
  pub is_action : (number : ℕ) (a : ActionInfo) → slice_get s.program.actions number ≡ Some a →
      IsAction s.program a
  pub object : (clock : ℕ) (stamps : List ℕ) →
      All (λ (a : ℕ). a < 1 + max clock (clock_of stamps)) stamps
  pub pass : (clock : ℕ) (stamps : List ℕ) → All (λ (a : ℕ). a < 1 + max (clock_of stamps) clock) stamps
  pub starts : (old new : Record) (before after : List Status) (m n : Machine) (t : Ticket) (stamp : ℕ) →
      IsGrowing s old before m → Starts s.scheduler m t n → AddsStart s old before t stamp new after →
      IsGrowing s new after n
  pub steps : (old new : Record) (before after : List Status) (m : Machine) (i : ℕ) (e : BoxEntry) →
      IsGrowing s old before m → AddsStep s old before i e new after → IsGrowing s new after m
  pub finishes : (old new : Record) (before after : List Status) (m n : Machine) (i : ℕ) (t : Ticket)
      (end : PassEnd) (verdict : FinishVerdict) (stamp : ℕ) → IsGrowing s old before m →
      Finishes s.scheduler m t end verdict n →
      AddsFinish s old before i t end verdict stamp new after → IsGrowing s new after n
  pub opened : (events : List Event) (m : Machine) (t : Ticket) → IsRun s.scheduler events m →
      IsRunning s.scheduler m t → IsOpen events t
  pub may_start : (events : List Event) (m : Machine) → IsRun s.scheduler events m → running_count m ≡ 0 →
      m.stopped ≡ false → m.round < s.scheduler.rounds → (t : Ticket) × IsNext s.scheduler m t
  pub commits : (r : Record) (statuses : List Status) (m : Machine) (i : ℕ) (pass : PassRecord)
      (end : PassEnd) → IsGrowing s r statuses m → slice_get r.passes i ≡ Some pass →
      slice_get statuses i ≡ Some (Through end) → CommitsAt s r pass

-- a turn in which nothing happens: its worker has nothing in hand, and nothing may start
pub record Idled (s : RunSetting) (old new : Run) (hands : List (Option Hand)) (w : ℕ)
    (hand : Option Hand) : Type 0 where
  pub same : events_in new.made ≡ events_in old.made
  pub none : NoneStarts s.scheduler old.core.machine
  pub after : NoneStarts s.scheduler new.core.machine
  pub was : slice_get hands w ≡ Some None
  pub free : hand ≡ None

-- in a turn there is an event, or nothing happens
abbrev pub Went : RunSetting → Run → Run → List (Option Hand) → ℕ → Option Hand → Type 0
Went s old new hands w hand =
    (events_in new.made ≡ events_in old.made + 1) ⊎ Idled s old new hands w hand

module _ (s : RunSetting) (facts : TurnFacts s) (r : Record) (statuses : List Status) (m : Machine)
    (g : IsGrowing s r statuses m) (left : HasStampsLeft r) where
  -- the pass of a ticket that starts is the next one
  next_number : (t : Ticket) → IsNext s.scheduler m t → t.pass ≡ length r.passes
  next_number t next =
      let a : length (map (λ (t : Ticket). t.pass) (started (events_of r))) ≡ m.starts =
      ap length (facts.numbered (events_of r) m g.run) ∙ length-range_with_len 0 m.starts in
      let b = length-map (started (events_of r)) (λ (t : Ticket). t.pass) in
      let c : length (map (λ (p : PassRecord). p.ticket) r.passes) ≡ length (started (events_of r)) =
      ap length g.tickets in
      let d = length-map r.passes (λ (p : PassRecord). p.ticket) in
      let e = next.pass in
      omega (arith, a, b, c, d, e)

  -- its action is there
  next_action : (t : Ticket) → IsNext s.scheduler m t →
      (a : ActionInfo) × (slice_get s.program.actions t.action ≡ Some a)
  next_action t next = by (cases_lt (slot_of s.scheduler t) (length m.slots))
    where
      at : slot_of s.scheduler t < length m.slots →
          (a : ActionInfo) × (slice_get s.program.actions t.action ≡ Some a)
      at within =
          let many = (facts.sound (events_of r) m g.run).many in
          let long : length s.scheduler.actions ≡ length s.program.actions =
          ap length facts.is.slots ∙ length-range_with_len 0 (length s.program.actions) in
          let low : slot_of s.scheduler t < length s.program.actions = omega (arith, within, many, long) in
          let is : t.action ≡ 0 + slot_of s.scheduler t =
          next.action
          ∙ (ap (λ (actions : List ℕ). slice_index_or actions (slot_of s.scheduler t) 0) facts.is.slots
          ∙ get_or-range_with_len 0 (length s.program.actions) (slot_of s.scheduler t) 0 low) in
          let none : ActionInfo = record { box_number = 0; procedure = 0 } in (
            slice_index_or s.program.actions t.action none,
            slice_get-get_or s.program.actions t.action none (omega (arith, is, low)),
          )

      by : (slot_of s.scheduler t < length m.slots) ⊎ (length m.slots ≤ slot_of s.scheduler t) →
          (a : ActionInfo) × (slice_get s.program.actions t.action ≡ Some a)
      by (inl within) = at within
      by (inr past) =
          let e = next.first.may.pending in
          let f = get_or_past m.slots (slot_of s.scheduler t) Ended past in
          absurd (clash (sym e ∙ f))
        where
          clash : Pending t.mode ≡ Ended → ⊥
          clash h = cc h

  -- a ticket starts at one stamp
  start_once : (t : Ticket) (a b : ℕ) → Contains r.sched (S.Start t a) → Contains r.sched (S.Start t b) →
      a ≡ b
  start_once t a b p q =
      let i = place_of r.sched (S.Start t a) p in
      let j = place_of r.sched (S.Start t b) q in
      let e : i.0 ≡ j.0 = facts.starts_once (events_of r) m i.0 j.0 t t g.run
      (at-map event_of r.sched i.0 (S.Start t a) i.1) (at-map event_of r.sched j.0 (S.Start t b) j.1)
      refl in
      let x : slice_get r.sched j.0 ≡ Some (S.Start t a) =
      subst (λ (k : ℕ). slice_get r.sched k ≡ Some (S.Start t a)) e i.1 in
      let y = j.1 in
      let z : S.Start t a ≡ S.Start t b = same_Some (S.Start t a) (S.Start t b) (sym x ∙ y) in
      cc z

  -- a stamp after the clock of a pass is after its start
  after_start : (p : PassRecord) (clock object stamp : ℕ) → IsClock r p clock →
      stamp ≡ 1 + max clock object → (start : ℕ) → Contains r.sched (S.Start p.ticket start) → start < stamp
  after_start p clock object stamp is rule start there =
      let e : start ≡ is.0 = start_once p.ticket start is.0 there is.1 in
      let f = is.2 in
      omega (arith, e, f, rule)

  -- and after its steps
  after_steps : (p : PassRecord) (clock object stamp : ℕ) → IsClock r p clock →
      stamp ≡ 1 + max clock object → All (λ (a : ℕ). a < stamp) (claim_stamps p)
  after_steps p clock object stamp is rule k d l =
      let h = facts.pass object (is.0 ∷ claim_stamps p) (suc k) d (omega (arith, l)) in
      let f = is.2 in
      omega (arith, h, f, rule)

  -- it is after all of its object
  after_object : (stamps : List ℕ) (clock stamp : ℕ) → stamp ≡ 1 + max clock (clock_of stamps) →
      All (λ (a : ℕ). a < stamp) stamps
  after_object stamps clock stamp rule k d l =
      let h = facts.object clock stamps k d l in omega (arith, h, rule)

  -- what stands at a place is one
  same_pass : (i : ℕ) (p q : PassRecord) → slice_get r.passes i ≡ Some p → slice_get r.passes i ≡ Some q →
      p ≡ q
  same_pass i p q a b = same_Some p q (sym a ∙ b)

  -- a held pass that goes on is open
  open_going : (hand : Hand) (held : IsHeld r statuses hand) (at : Activation) (budget : ℕ) →
      status_now hand.progress ≡ Going at budget → IsOpenPass s r held.pass (Going at budget)
  open_going hand held at budget is =
      g.passes hand.ticket.pass held.pass (Going at budget) held.there (held.status ∙ ap Some is)

  -- its box is there
  box_there : (hand : Hand) (held : IsHeld r statuses hand) (at : Activation) (budget : ℕ) →
      status_now hand.progress ≡ Going at budget → at.box_number < length s.program.boxes
  box_there hand held at budget is =
      let opened = open_going hand held at budget is in
      let action = facts.is_action held.pass.ticket.action opened.action opened.there in
      (leads_there s.program facts.is.keeps (steps_of r held.pass) (begun s.program opened.action) at s.budget
      budget (begun_there s.program facts.is.keeps opened.action action) opened.comes).here

module _ (s : RunSetting) (facts : TurnFacts s) (run : Run) (hands : List (Option Hand))
    (statuses : List Status) (g : IsGrowing s run.made statuses run.core.machine)
    (left : HasStampsLeft run.made) (setting : run.core.setting ≡ s.scheduler)
    (hold : AreHands run.made statuses hands) (w : ℕ) where
  -- a worker with a pass in hand may go on
  may_go_on : (hand : Hand) → IsHeld run.made statuses hand →
      MayGoOn run hand.ticket hand.clock hand.progress
  may_go_on hand held = by hand.progress refl
    where
      by : (progress : Progress) → hand.progress ≡ progress →
          MayGoOn run hand.ticket hand.clock progress
      by (P.Going at budget) is =
          let within = box_there s facts run.made statuses run.core.machine g left hand held at budget
          (ap status_now is) in
          let many = g.many in
          let last = g.last in
          let count = g.first.count in
          let few = held.few in
          let box : at.box_number < length run.made.boxes = omega (arith, within, many, count) in
          record {
            pass = held.pass;
            there = held.there;
            few = omega (arith, few);
            box = box;
            vars = omega (arith, within, last, count);
            rising = (g.stamps at.box_number box).rising;
            left = left.step held.pass hand.clock at.box_number
                (at-contains run.made.passes hand.ticket.pass held.pass held.there) held.clock_is;
          }
      by (P.Through end) is =
          let few = held.few in
          let opened : IsOpenPass s run.made held.pass (Through end) =
          g.passes hand.ticket.pass held.pass (Through end) held.there
          (held.status ∙ ap (λ (p : Progress). Some (status_now p)) is) in
          let start = place_of run.made.sched (S.Start held.pass.ticket opened.start) opened.started in
          let running : IsRunning s.scheduler run.core.machine held.pass.ticket =
          facts.runs (events_of run.made) run.core.machine held.pass.ticket g.run (record {
            opened = at-contains (events_of run.made) start.0 (Start held.pass.ticket)
                (at-map event_of run.made.sched start.0 (S.Start held.pass.ticket opened.start) start.1);
            unfinished = opened.unfinished;
          }) in
          record {
            pass = held.pass;
            there = held.there;
            few = omega (arith, few);
            running = subst (λ (x : Setting). IsRunning x run.core.machine hand.ticket) (sym setting)
                (subst (λ (t : Ticket). IsRunning s.scheduler run.core.machine t) held.ticket_is running);
            rising = g.times.rising;
            left = left.finish held.pass hand.clock
                (at-contains run.made.passes hand.ticket.pass held.pass held.there) held.clock_is;
          }

  -- each worker may take its turn
  pub may_turn : (hand : Option Hand) → slice_get hands w ≡ Some hand → MayTurn run hand
  may_turn None at = record { rising = g.times.rising; left = left.start }
  may_turn (Some hand) at = may_go_on hand (hold.each w hand at)

  -- a turn of the code: the run and the hands after it, and that it is one of the definition
  pub record Turned (run' : Run) (hand' : Option Hand) : Type 0 where
    pub after : List Status
    pub turn : IsTurn s w (turning_of run hands statuses) (turning_of run' (slice_set hands w hand') after)
    pub held : AreHands run'.made after (slice_set hands w hand')
    pub went : Went s run run' hands w hand'
    pub grows : IsGrowing s run'.made after run'.core.machine

  -- nothing may start
  idle : (run' : Run) → slice_get hands w ≡ Some None → StaysIdle s.scheduler run run' →
      Turned run' None
  idle run' at stays = record {
    after = statuses;
    turn = Waits (at-map pass_held hands w None at) stays.none
        (λ i. record {
          made = stays.made i;
          statuses = statuses;
          machine = stays.machine i;
          holds = set-map pass_held hands w None None at refl i;
        });
    held = subst (λ (r : Record). AreHands r statuses (slice_set hands w None)) (sym stays.made)
        (hands_after run.made statuses hands w None None hold.once at (λ v hand other h. hold.each v hand h)
        (λ hand h. absurd (none hand h)) still);
    went = inr (record {
      same = ap events_in stays.made;
      none = stays.none;
      after = subst (λ (m : Machine). NoneStarts s.scheduler m) (sym stays.machine) stays.none;
      was = at;
      free = refl;
    });
    grows = subst (λ (r : Record). IsGrowing s r statuses run'.core.machine) (sym stays.made)
        (subst (λ (m : Machine). IsGrowing s run.made statuses m) (sym stays.machine) g);
  }
    where
      none : (hand : Hand) → None ≡ Some hand → ⊥
      none hand h = cc h

      still : (i : ℕ) (status : Status) → slice_get statuses i ≡ Some status →
          IsStillHeld hands None None i status
      still i status h = by (hold.all i status h)
        where
          by : (status ≡ Finished) ⊎ ((v : ℕ) × (hand : Hand) × (slice_get hands v ≡ Some (Some hand))
              × (hand.ticket.pass ≡ i)) → IsStillHeld hands None None i status
          by (inl e) = Done e
          by (inr x) = Others x.0 x.1 x.2 x.3 (λ e. none x.1 e)

  -- a pass begins
  begins : (run' : Run) (hand : Hand) → slice_get hands w ≡ Some None →
      BeginsPass s.program s.scheduler s.budget run run' hand → Turned run' (Some hand)
  begins run' hand at b = record {
    after = after;
    turn = Begins (at-map pass_held hands w None at) t hand.clock b.starts adds b.stamp
        (map-set pass_held hands w (Some hand)
        ∙ ap (λ (n : ℕ). slice_set (map pass_held hands) w (Some n)) number);
    held = subst (λ (r : Record). AreHands r after (slice_set hands w (Some hand))) (sym b.made)
        (hands_after new after hands w None (Some hand) hold.once at kept mine still);
    went = inl (ap events_in b.made ∙ omega (
      arith,
      length-append run.made.sched (S.Start t hand.clock ∷ []),
      sum_by_push (λ (p : PassRecord). length p.claims) run.made.passes (pass_begun t),
    ));
    grows = facts.starts run.made run'.made statuses after run.core.machine run'.core.machine t hand.clock g
        b.starts adds;
  }
    where
      t : Ticket
      t = hand.ticket

      number : t.pass ≡ length run.made.passes
      number = next_number s facts run.made statuses run.core.machine g left t b.starts.next

      action : (a : ActionInfo) × (slice_get s.program.actions t.action ≡ Some a)
      action = next_action s facts run.made statuses run.core.machine g left t b.starts.next

      new : Record
      new = record run.made {
        sched = run.made.sched ++ S.Start t hand.clock ∷ [];
        passes = run.made.passes ++ pass_begun t ∷ [];
      }

      after : List Status
      after = statuses ++ Going (begun s.program action.0) s.budget ∷ []

      adds : AddsStart s run.made statuses t hand.clock run'.made after
      adds = record {
        action = action.0;
        there = action.1;
        time = record {
          above = λ k d l. let h = facts.object 0 (sched_stamps run.made) k d l in
              let e = b.stamp in omega (arith, h, e);
          small = let h = left.start in let e = b.stamp in omega (arith, h, e);
        };
        is = b.made;
        status = refl;
      }

      kept : (v : ℕ) (other : Hand) → (v ≡ w → ⊥) → slice_get hands v ≡ Some (Some other) →
          IsHeld new after other
      kept v other differs h =
          let x = hold.each v other h in
          let c = x.clock_is in
          record {
            pass = x.pass;
            there = at-append run.made.passes (pass_begun t ∷ []) other.ticket.pass x.pass x.there;
            ticket_is = x.ticket_is;
            status = at-append statuses (Going (begun s.program action.0) s.budget ∷ []) other.ticket.pass
                (status_now other.progress) x.status;
            clock_is = (
              c.0,
              Contains-append_left run.made.sched (S.Start t hand.clock ∷ [])
                  (S.Start x.pass.ticket c.0) c.1,
              c.2,
            );
            few = x.few;
          }

      status : status_now hand.progress ≡ Going (begun s.program action.0) s.budget
      status = ap status_now b.progress
          ∙ ap (λ (a : ActionInfo). Going (begun s.program a) s.budget)
          (get_or_from_slice_get s.program.actions t.action action.0
          (record { box_number = 0; procedure = 0 }) action.1)

      first : IsHeld new after hand
      first = record {
        pass = pass_begun t;
        there = subst (λ (n : ℕ). slice_get (run.made.passes ++ pass_begun t ∷ []) n ≡ Some (pass_begun t))
            (sym number) (at-push run.made.passes (pass_begun t));
        ticket_is = refl;
        status = subst (λ (n : ℕ). slice_get after n ≡ Some (status_now hand.progress))
            (g.each ∙ sym number)
            (at-push statuses (Going (begun s.program action.0) s.budget) ∙ ap Some (sym status));
        clock_is = (
          hand.clock,
          at-contains (run.made.sched ++ S.Start t hand.clock ∷ []) (length run.made.sched)
              (S.Start t hand.clock) (at-push run.made.sched (S.Start t hand.clock)),
          omega arith,
        );
        few = omega arith;
      }

      mine : (h : Hand) → Some hand ≡ Some h → IsNewHand new after hands w h
      mine h e = subst (IsNewHand new after hands w) (same_Some hand h e) (record {
        held = first;
        own = λ v other differs at same.
            let x = hold.each v other at in
            let l = slice_get_within run.made.passes other.ticket.pass x.pass x.there in
            let n = number in
            absurd (omega (arith, l, n, same));
      })

      still : (i : ℕ) (status : Status) → slice_get after i ≡ Some status →
          IsStillHeld hands None (Some hand) i status
      still i status h =
          by (push-cases statuses (Going (begun s.program action.0) s.budget) status i h)
        where
          at_old : (status ≡ Finished) ⊎ ((v : ℕ) × (hand : Hand)
              × (slice_get hands v ≡ Some (Some hand)) × (hand.ticket.pass ≡ i)) →
              IsStillHeld hands None (Some hand) i status
          at_old (inl e) = Done e
          at_old (inr x) = Others x.0 x.1 x.2 x.3 (λ e. none x.1 e)
            where
              none : (hand : Hand) → None ≡ Some hand → ⊥
              none hand h = cc h

          by : (slice_get statuses i ≡ Some status)
              ⊎ ((i ≡ length statuses) × (Going (begun s.program action.0) s.budget ≡ status)) →
              IsStillHeld hands None (Some hand) i status
          by (inl old) = at_old (hold.all i status old)
          by (inr new) = Mine hand refl (number ∙ (sym g.each ∙ sym new.0))

  -- a pass in hand makes a step
  makes_step : (run' : Run) (old hand : Hand) (at : Activation) (budget : ℕ) →
      slice_get hands w ≡ Some (Some old) → old.progress ≡ P.Going at budget →
      MakesStep s.program run run' old.ticket old.clock at budget hand →
      Turned run' (Some hand)
  makes_step run' old hand at budget there going b = record {
    after = after;
    turn = Moves i (at-map pass_held hands w (Some old) there) b.entry adds old.clock clock b.stamp b.machine
        (set-map pass_held hands w (Some old) (Some hand) there
        (ap (λ (t : Ticket). Some t.pass) b.ticket_is));
    held = subst (λ (r : Record). AreHands r after (slice_set hands w (Some hand))) (sym b.made)
        (hands_after new after hands w (Some old) (Some hand) hold.once there kept mine still);
    went = inl (ap events_in b.made ∙ more);
    grows = subst (λ (m : Machine). IsGrowing s run'.made after m) (sym b.machine)
        (facts.steps run.made run'.made statuses after run.core.machine i b.entry g adds);
  }
    where
      i : ℕ
      i = old.ticket.pass

      held : IsHeld run.made statuses old
      held = hold.each w old there

      is_going : status_now old.progress ≡ Going at budget
      is_going = ap status_now going

      same : held.pass ≡ b.pass
      same = same_Some held.pass b.pass (sym held.there ∙ b.there)

      ticket : b.pass.ticket ≡ old.ticket
      ticket = ap (λ (p : PassRecord). p.ticket) (sym same) ∙ held.ticket_is

      clock : IsClock run.made b.pass old.clock
      clock = subst (λ (p : PassRecord). IsClock run.made p old.clock) same held.clock_is

      claim : Claim
      claim = claim_of run.made at.box_number b.entry

      new : Record
      new = record run.made {
        last = with_vars run.made.last at.box_number b.vars;
        boxes = slice_set run.made.boxes at.box_number (journal run.made at.box_number ++ b.entry ∷ []);
        passes = slice_set run.made.passes i (with_claim b.pass claim);
      }

      status : Status
      status = status_of (turned s.program (record at { frame = b.entry.after }) b.entry.end)
          b.entry.budget_after

      after : List Status
      after = slice_set statuses i status

      within : at.box_number < length s.program.boxes
      within = box_there s facts run.made statuses run.core.machine g left old held at budget is_going

      opened : IsOpenPass s run.made held.pass (Going at budget)
      opened = open_going s facts run.made statuses run.core.machine g left old held at budget is_going

      short : length b.pass.claims < 2000300
      short = subst (λ (p : PassRecord). length p.claims < 2000300) same
          (open_is_short s run.made statuses run.core.machine g facts.in_time facts.is.small held.pass at budget
          opened)

      later : (start : ℕ) → Contains run.made.sched (S.Start b.pass.ticket start) → start < b.entry.stamp
      later = after_start s facts run.made statuses run.core.machine g left b.pass old.clock
          (clock_of (box_stamps run.made at.box_number)) b.entry.stamp clock b.stamp

      higher : All (λ (a : ℕ). a < b.entry.stamp) (claim_stamps b.pass)
      higher = after_steps s facts run.made statuses run.core.machine g left b.pass old.clock
          (clock_of (box_stamps run.made at.box_number)) b.entry.stamp clock b.stamp

      adds : AddsStep s run.made statuses i b.entry run'.made after
      adds = record {
        pass = b.pass;
        there = b.there;
        at = at;
        left = budget;
        going = held.status ∙ ap Some is_going;
        own = b.own ∙ ap (λ (t : Ticket). t.pass) (sym ticket);
        number = b.number;
        before = b.before;
        budget = b.budget;
        box = let n = g.many in let c = g.first.count in let l = within in omega (arith, n, c, l);
        vars = b.vars;
        gives = b.gives;
        time = record {
          above = after_object s facts run.made statuses run.core.machine g left
              (box_stamps run.made at.box_number) old.clock b.entry.stamp b.stamp;
          small = let h = left.step b.pass old.clock at.box_number
              (at-contains run.made.passes i b.pass b.there) clock in
              let e = b.stamp in omega (arith, h, e);
        };
        later = later;
        higher = higher;
        claim = claim;
        names = refl;
        is = b.made;
        status = refl;
      }

      kept : (v : ℕ) (other : Hand) → (v ≡ w → ⊥) → slice_get hands v ≡ Some (Some other) →
          IsHeld new after other
      kept v other differs h =
          let x = hold.each v other h in
          let apart : other.ticket.pass ≡ i → ⊥ = λ e. differs (hold.once v w other old h there e) in
          record {
            pass = x.pass;
            there = set-other run.made.passes i other.ticket.pass (with_claim b.pass claim) apart ∙ x.there;
            ticket_is = x.ticket_is;
            status = set-other statuses i other.ticket.pass status apart ∙ x.status;
            clock_is = x.clock_is;
            few = x.few;
          }

      new_clock : clock_of (clock.0 ∷ claim_stamps (with_claim b.pass claim)) ≡ b.entry.stamp
      new_clock =
          let stamp = λ (c : Claim). c.stamp in
          let e : claim_stamps (with_claim b.pass claim) ≡ claim_stamps b.pass ++ b.entry.stamp ∷ [] =
          map-append stamp b.pass.claims (claim ∷ []) in
          let c = clock.2 in
          let rule = b.stamp in
          let low : clock_of (clock.0 ∷ claim_stamps b.pass) < b.entry.stamp = omega (arith, c, rule) in
          ap (λ (xs : List ℕ). clock_of (clock.0 ∷ xs)) e
          ∙ clock_push (clock.0 ∷ claim_stamps b.pass) b.entry.stamp low

      number_is : hand.ticket.pass ≡ i
      number_is = ap (λ (t : Ticket). t.pass) b.ticket_is

      moved : IsHeld new after hand
      moved = record {
        pass = with_claim b.pass claim;
        there = subst (λ (n : ℕ). slice_get (slice_set run.made.passes i (with_claim b.pass claim)) n
            ≡ Some (with_claim b.pass claim)) (sym number_is)
            (set-here run.made.passes i b.pass (with_claim b.pass claim) b.there);
        ticket_is = ticket ∙ sym b.ticket_is;
        status = subst (λ (n : ℕ). slice_get after n ≡ Some (status_now hand.progress)) (sym number_is)
            (set-here statuses i (status_now old.progress) status held.status ∙ ap Some (sym b.progress));
        clock_is = (clock.0, clock.1, b.clock_is ∙ sym new_clock);
        few = let l = short in omega (arith, l, length-append b.pass.claims (claim ∷ []));
      }

      mine : (h : Hand) → Some hand ≡ Some h → IsNewHand new after hands w h
      mine h e = subst (IsNewHand new after hands w) (same_Some hand h e) (record {
        held = moved;
        own = λ v other differs at same. differs (hold.once v w other old at there (same ∙ number_is));
      })

      more : events_in new ≡ events_in run.made + 1
      more =
          let longer : PassRecord = with_claim b.pass claim in
          let l = slice_get_within run.made.passes i b.pass b.there in
          let e : length (get_or run.made.passes i b.pass).claims ≡ length b.pass.claims =
          ap (λ (p : PassRecord). length p.claims)
          (get_or_from_slice_get run.made.passes i b.pass b.pass b.there) in
          omega (
            arith,
            e,
            length-append b.pass.claims (claim ∷ []),
            sum_by-set (λ (p : PassRecord). length p.claims) run.made.passes i longer b.pass l,
          )

      still : (k : ℕ) (x : Status) → slice_get after k ≡ Some x → IsStillHeld hands (Some old) (Some hand) k x
      still k x h = by (set_cases statuses i k (status_now old.progress) status x held.status h)
        where
          at_old : (k ≡ i → ⊥) → (x ≡ Finished) ⊎ ((v : ℕ) × (hand : Hand)
              × (slice_get hands v ≡ Some (Some hand)) × (hand.ticket.pass ≡ k)) →
              IsStillHeld hands (Some old) (Some hand) k x
          at_old apart (inl e) = Done e
          at_old apart (inr y) = Others y.0 y.1 y.2 y.3
              (λ e. apart (sym y.3 ∙ ap (λ (z : Hand). z.ticket.pass) (sym (same_Some old y.1 e))))

          by : ((k ≡ i) × (status ≡ x)) ⊎ ((k ≡ i → ⊥) × (slice_get statuses k ≡ Some x)) →
              IsStillHeld hands (Some old) (Some hand) k x
          by (inl e) = Mine hand refl (number_is ∙ sym e.0)
          by (inr e) = at_old e.0 (hold.all k x e.1)

  -- a pass in hand finishes
  ends : (run' : Run) (old : Hand) (end : PassEnd) → slice_get hands w ≡ Some (Some old) →
      old.progress ≡ P.Through end → EndsPass s.scheduler run run' old.ticket old.clock end →
      Turned run' None
  ends run' old end there through b = record {
    after = after;
    turn = Ends i (at-map pass_held hands w (Some old) there) old.ticket end b.verdict b.stamp b.finishes adds
        old.clock clock b.stamp_is (map-set pass_held hands w None);
    held = subst (λ (r : Record). AreHands r after (slice_set hands w None)) (sym b.made)
        (hands_after new after hands w (Some old) None hold.once there kept (λ h e. absurd (none h e)) still);
    went = inl (ap events_in b.made ∙ more);
    grows = facts.finishes run.made run'.made statuses after run.core.machine run'.core.machine i old.ticket
        end b.verdict b.stamp g b.finishes adds;
  }
    where
      none : (hand : Hand) → None ≡ Some hand → ⊥
      none hand h = cc h

      i : ℕ
      i = old.ticket.pass

      held : IsHeld run.made statuses old
      held = hold.each w old there

      same : held.pass ≡ b.pass
      same = same_Some held.pass b.pass (sym held.there ∙ b.there)

      ticket : b.pass.ticket ≡ old.ticket
      ticket = ap (λ (p : PassRecord). p.ticket) (sym same) ∙ held.ticket_is

      clock : IsClock run.made b.pass old.clock
      clock = subst (λ (p : PassRecord). IsClock run.made p old.clock) same held.clock_is

      is_through : slice_get statuses i ≡ Some (Through end)
      is_through = held.status ∙ ap (λ (p : Progress). Some (status_now p)) through

      opened : IsOpenPass s run.made b.pass (Through end)
      opened = g.passes i b.pass (Through end) b.there is_through

      told : PassRecord
      told = record b.pass { commit = b.commit; end = end; verdict = b.verdict }

      new : Record
      new = record run.made {
        sched = run.made.sched ++ S.Finish old.ticket end b.verdict b.stamp ∷ [];
        passes = slice_set run.made.passes i told;
      }

      after : List Status
      after = slice_set statuses i Finished

      adds : AddsFinish s run.made statuses i old.ticket end b.verdict b.stamp run'.made after
      adds = record {
        pass = b.pass;
        there = b.there;
        ticket = ticket;
        through = is_through;
        time = record {
          above = after_object s facts run.made statuses run.core.machine g left (sched_stamps run.made)
              old.clock b.stamp b.stamp_is;
          small = let h = left.finish b.pass old.clock
              (at-contains run.made.passes i b.pass b.there) clock in
              let e = b.stamp_is in omega (arith, h, e);
        };
        later = after_start s facts run.made statuses run.core.machine g left b.pass old.clock
            (clock_of (sched_stamps run.made)) b.stamp clock b.stamp_is;
        higher = after_steps s facts run.made statuses run.core.machine g left b.pass old.clock
            (clock_of (sched_stamps run.made)) b.stamp clock b.stamp_is;
        commit = b.commit;
        committed = is_commit s run.made b.pass
            (λ k c h. let n = opened.claims k c h in (n.entry, n.there)) b.commit b.first
            (facts.commits run.made statuses run.core.machine i b.pass end g b.there is_through);
        is = b.made;
        status = refl;
      }

      kept : (v : ℕ) (other : Hand) → (v ≡ w → ⊥) → slice_get hands v ≡ Some (Some other) →
          IsHeld new after other
      kept v other differs h =
          let x = hold.each v other h in
          let c = x.clock_is in
          let apart : other.ticket.pass ≡ i → ⊥ = λ e. differs (hold.once v w other old h there e) in
          record {
            pass = x.pass;
            there = set-other run.made.passes i other.ticket.pass told apart ∙ x.there;
            ticket_is = x.ticket_is;
            status = set-other statuses i other.ticket.pass Finished apart ∙ x.status;
            clock_is = (
              c.0,
              Contains-append_left run.made.sched (S.Finish old.ticket end b.verdict b.stamp ∷ [])
                  (S.Start x.pass.ticket c.0) c.1,
              c.2,
            );
            few = x.few;
          }

      more : events_in new ≡ events_in run.made + 1
      more =
          let l = slice_get_within run.made.passes i b.pass b.there in
          let e : length (get_or run.made.passes i b.pass).claims ≡ length b.pass.claims =
          ap (λ (p : PassRecord). length p.claims)
          (get_or_from_slice_get run.made.passes i b.pass b.pass b.there) in
          omega (
            arith,
            e,
            length-append run.made.sched (S.Finish old.ticket end b.verdict b.stamp ∷ []),
            sum_by-set (λ (p : PassRecord). length p.claims) run.made.passes i told b.pass l,
          )

      still : (k : ℕ) (x : Status) → slice_get after k ≡ Some x → IsStillHeld hands (Some old) None k x
      still k x h = by (set_cases statuses i k (Through end) Finished x is_through h)
        where
          at_old : (k ≡ i → ⊥) → (x ≡ Finished) ⊎ ((v : ℕ) × (hand : Hand)
              × (slice_get hands v ≡ Some (Some hand)) × (hand.ticket.pass ≡ k)) →
              IsStillHeld hands (Some old) None k x
          at_old apart (inl e) = Done e
          at_old apart (inr y) = Others y.0 y.1 y.2 y.3
              (λ e. apart (sym y.3 ∙ ap (λ (z : Hand). z.ticket.pass) (sym (same_Some old y.1 e))))

          by : ((k ≡ i) × (Finished ≡ x)) ⊎ ((k ≡ i → ⊥) × (slice_get statuses k ≡ Some x)) →
              IsStillHeld hands (Some old) None k x
          by (inl e) = Done (sym e.1)
          by (inr e) = at_old e.0 (hold.all k x e.1)

  -- what is in hand goes on
  goes_on : (run' : Run) (old : Hand) (progress : Progress) (after : Option Hand) →
      slice_get hands w ≡ Some (Some old) → old.progress ≡ progress →
      GoesOn s.program s.scheduler run old.ticket old.clock progress run' after →
      Turned run' after
  goes_on run' old (P.Going at budget) None there is does = absurd does
  goes_on run' old (P.Going at budget) (Some hand) there is does =
      makes_step run' old hand at budget there is does
  goes_on run' old (P.Through end) None there is does = ends run' old end there is does
  goes_on run' old (P.Through end) (Some hand) there is does = absurd does

  -- each turn of the code is one of the definition
  pub turns : (run' : Run) (hand after : Option Hand) → slice_get hands w ≡ Some hand →
      TakesTurn s.program s.scheduler s.budget run hand run' after → Turned run' after
  turns run' None None there does = idle run' there does
  turns run' None (Some hand) there does = begins run' hand there does
  turns run' (Some old) after there does = goes_on run' old old.progress after there refl does
