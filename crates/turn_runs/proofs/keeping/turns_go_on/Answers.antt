use Rattle.std.proofs.Common.{◌≡◌, ℕ, ◌-◌, ◌*◌, ◌<◌, ◌≤◌, List, map, refl, sym, subst, ap, ◌∙◌, length}
use Rattle.std.proofs.Common.{arith, inl, inr, [], ◌∷◌, Some, None, zero, suc, slice_get}
use Rattle.std.specs.Prelude.{Option, slice_set, ◌^◌, replicate}
use Rattle.std.proofs.Math.Nat.{mul-le-mul_left}
use Rattle.std.specs.List.{range_with_len}
use Rattle.std.proofs.lemmas.List.{length-map, length-replicate, length-set}
use Rattle.std.proofs.lemmas.Option.{none-some}
use Rattle.std.proofs.lemmas.List.FromFn.{length-range_with_len, map-range_with_len_more}
use Rattle.seuss_program.specs.declared.state.State.{State}
use Rattle.seuss_program.specs.Keeping.{HasForm}
use Rattle.compat_scheduler.specs.declared.ticket.Ticket.{Ticket}
use Rattle.compat_scheduler.specs.Settings.{Setting, copies}
use Rattle.compat_scheduler.specs.Machines.{Machine}
use Rattle.compat_scheduler.specs.Runs.{started}
use Rattle.loose_records.specs.declared.record.PassRecord.{PassRecord}
use Rattle.loose_records.specs.declared.record.Record.{Record}
use Rattle.loose_records.specs.Entries.{events_of}
use Rattle.loose_records.specs.Growing.{Status, IsGrowing, empty_record}
use Rattle.loose_records.specs.Settings.{RunSetting}
use Rattle.loose_records.specs.Stamps.{HasStampsLeft, events_in}
use Rattle.loose_records.specs.Turns.{AreTurns, turning_begun, worker_of}
use Rattle.turn_runs.specs.declared.hand.Hand.{Hand}
use Rattle.turn_runs.specs.declared.run.Run.{Run}
use Rattle.turn_runs.specs.Hands.{pass_held}
use Rattle.turn_runs.specs.RunStates.{IsTurnSetting, HasTurned, IsOnPace, turning_of}
use Rattle.turn_runs.specs.RunTurns.{TakesTurn}
use Rattle.turn_runs.proofs.TurnPaces.{not_stuck, paced}
use Rattle.turn_runs.proofs.TurnStates.{turns_push}
use Rattle.turn_runs.proofs.TurnSteps.{TurnFacts, may_turn, turns}
use Rattle.turn_runs.proofs.keeping.turns_go_on.Goals as goal

-- nothing is in hand at the beginning
none_held : (n w : ℕ) (hand : Hand) → slice_get (replicate n None) w ≡ Some (Some hand) → ⊥
none_held zero w hand h = cc h
none_held (suc n) zero hand h = cc h
none_held (suc n) (suc w) hand h = none_held n w hand h

-- so nobody has a pass
none_passes : (n : ℕ) → map pass_held (replicate n None) ≡ replicate n None
none_passes zero = refl
none_passes (suc n) = ap (λ (os : List (Option ℕ)). None ∷ os) (none_passes n)

pub returns : goal.returns
returns c = record {
  begins = λ s state width digits run hands form setting machine made is.
      let free = λ (w : ℕ) (hand : Hand) (at : slice_get hands w ≡ Some (Some hand)). none_held width w hand
      (subst (λ (os : List (Option Hand)). slice_get os w ≡ Some (Some hand)) is at) in
      record {
        statuses = [];
        setting = setting;
        made = λ i. record {
          made = made i;
          statuses = [];
          machine = machine i;
          holds = (ap (map pass_held) is ∙ none_passes width) i;
        };
        grows = subst (λ (r : Record). IsGrowing s r [] run.core.machine) (sym made)
            (subst (λ (m : Machine). IsGrowing s (empty_record state) [] m) (sym machine)
            (c.records_grow.ensures.begins s state form));
        hold = record {
          each = λ w hand at. absurd (free w hand at);
          once = λ v w a b p q e. absurd (free v a p);
          all = λ i status at. absurd (none-some status at);
        };
        many = ap (λ (os : List (Option Hand)). length os) is ∙ length-replicate width None;
        pace = inl (omega arith);
      };
  may = λ s state width digits many run hands worker hand is form h at.
      may_turn s (facts s is) run hands h.statuses h.grows (left s is form h) h.setting h.hold
      worker hand at;
  turn = λ s state width digits many old new hands hand after is some form h going at does same.
      let workers = map (worker_of width digits) (range_with_len 0 many) in
      let w = worker_of width digits many in
      let next = turns s (facts s is) old hands h.statuses h.grows (left s is form h) h.setting
      h.hold w new hand after at
      (subst (λ (x : Setting). TakesTurn s.program x s.budget old hand new after) h.setting does) in
      record {
        statuses = next.after;
        setting = same ∙ h.setting;
        made = subst (λ (ws : List ℕ). AreTurns s ws (turning_begun s state width)
            (turning_of new (slice_set hands w after) next.after))
            (sym (map-range_with_len_more (worker_of width digits) 0 many many (omega arith)))
            (turns_push s workers w (turning_begun s state width) (turning_of old hands h.statuses)
            (turning_of new (slice_set hands w after) next.after) h.made going next.turn);
        grows = next.grows;
        hold = next.held;
        many = length-set hands w after ∙ h.many;
        pace = paced s width digits many old new hands after some h.many
            (λ free none. not_stuck s (facts s is) old hands h.statuses h.grows h.hold free none going)
            next.went h.pace;
      };
  end = λ s state width digits turns run hands is narrow short h.
      by s width digits turns run hands narrow short (few s run h.statuses is h.grows) h.pace;
}
  where
    -- the events of a run are few
    few : (s : RunSetting) (run : Run) (statuses : List Status) → IsTurnSetting s →
        IsGrowing s run.made statuses run.core.machine → events_in run.made ≤ 40006040000000
    few s run statuses is g =
        let r = run.made in
        let m = run.core.machine in
        let a : events_in r ≤ 2000302 * length r.passes =
        c.events_are_few.ensures.passes s r statuses m is.keeps is.small g in
        let b : m.starts ≤ 2 * (s.scheduler.rounds * copies s.scheduler) =
        c.passes_are_few.ensures s.scheduler (events_of r) m g.run in
        let d : length (map (λ (t : Ticket). t.pass) (started (events_of r))) ≡ m.starts =
        ap length (c.passes_are_numbered.ensures s.scheduler (events_of r) m g.run)
        ∙ length-range_with_len 0 m.starts in
        let e = length-map (started (events_of r)) (λ (t : Ticket). t.pass) in
        let f : length (map (λ (p : PassRecord). p.ticket) r.passes) ≡ length (started (events_of r)) =
        ap length g.tickets in
        let h = length-map r.passes (λ (p : PassRecord). p.ticket) in
        let many = is.few in
        omega (arith, a, b, d, e, f, h, many)

    -- so are its turns
    by : (s : RunSetting) (width : ℕ) (digits : List ℕ) (turns : ℕ) (run : Run) (hands : List (Option Hand)) →
        width ≤ 16 → length digits < 2 ^ 63 → events_in run.made ≤ 40006040000000 →
        IsOnPace s width (length digits) turns run hands → turns < 2 ^ 64 - 1
    by s width digits turns run hands narrow short low (inl early) = omega (arith, early, short)
    by s width digits turns run hands narrow short low (inr o) =
        let a : o.rounds * width ≤ o.rounds * 16 = mul-le-mul_left o.rounds narrow in
        let b = o.is in
        let d = o.within in
        let e = o.made in
        omega (arith, a, b, d, e, narrow, short, low)

    facts : (s : RunSetting) → IsTurnSetting s → TurnFacts s
    facts s is = record {
      is = is;
      runs = c.open_passes_run.ensures.runs s.scheduler;
      starts_once = c.tickets_start_once.ensures s.scheduler;
      numbered = c.passes_are_numbered.ensures s.scheduler;
      sound = c.machines_are_sound.ensures s.scheduler;
      in_time = λ a row budget low long. c.pass_is_over_in_time.ensures.at_most s.program a row budget
          is.keeps low long;
      is_action = λ number a there. c.actions_are_actions.ensures s.program number a is.keeps there;
      object = c.stamps_rise.ensures.object;
      pass = c.stamps_rise.ensures.pass;
      starts = c.records_grow.ensures.starts s;
      steps = c.records_grow.ensures.steps s;
      finishes = c.records_grow.ensures.finishes s;
      opened = c.open_passes_run.ensures.opened s.scheduler;
      may_start = c.something_may_start.ensures s.scheduler;
      commits = λ r statuses m i pass end g at status. c.open_pass_commits.ensures s r statuses m i pass end
          is.keeps g at status;
    }

    left : (s : RunSetting) {state : State} {width : ℕ} {digits : List ℕ} {many : ℕ} {run : Run}
        {hands : List (Option Hand)} → IsTurnSetting s → HasForm s.program state →
        (h : HasTurned s state width digits many run hands) → HasStampsLeft run.made
    left s {state} {width} {digits} {many} {run} {hands} is form h =
        c.stamps_stay_low.ensures.left s state width (map (worker_of width digits) (range_with_len 0 many))
        (turning_of run hands h.statuses) is.keeps is.small is.few form h.made
