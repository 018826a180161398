use Rattle.std.proofs.Common.{◌≡◌, ℕ, List, refl, sym, subst, ◌∙◌, arith, Some, None, slice_get, replicate}
use Rattle.std.specs.Prelude.{slice_set, Option}
use Rattle.std.proofs.lemmas.Option.{slice_get_within}
use Rattle.loose_records.specs.Turns.{worker_of}
use Rattle.pass_seats.specs.Names.{Names}
use Rattle.pass_seats.specs.Seats.{SeatState}
use Rattle.pass_engine.specs.Engines.{EngineState}
use Rattle.pass_engine.specs.Beginnings.{AreNewWorkers}
use Rattle.turn_runs.specs.declared.hand.Hand.{Hand}
use Rattle.turn_runs.proofs.ListLemmas.{at-within}
use Rattle.still_turns.specs.declared.hand.InHand.{InHand}
use Rattle.still_turns.specs.declared.hand.InHand.TheVariants.{Nothing}
use Rattle.still_turns.specs.Shown.{Shows, run_begun}
use Rattle.still_turns.specs.Workings.{HasWorked}
use Rattle.still_turns.proofs.RunsBegun.{run_begins}
use Rattle.still_turns.proofs.RunsShown.{over_ended, engine_ended, run_numbered}
use Rattle.still_turns.proofs.SeatsSame.{told_shown}
use Rattle.still_turns.proofs.TurnsShown.{may_work, turn_shown}
use Rattle.still_turns.proofs.showing.workers_go_on.Goals as goal

-- what a worker has in hand in the run
hand_at : (names : Names) (width : ℕ) (digits : List ℕ) (turns : ℕ) (e : EngineState) (seats : List SeatState)
    (held : List InHand) (worked : HasWorked names width digits turns e seats held) (w : ℕ)
    (seat : SeatState) → slice_get seats w ≡ Some seat →
    (hand : Option Hand) × (slice_get worked.hands w ≡ Some hand)
hand_at names width digits turns e seats held worked w seat at =
    let a = slice_get_within seats w seat at in
    let b = worked.shows.workers.all in
    let c = worked.workers in
    let d = worked.turned.many in
    at-within worked.hands w (omega (arith, a, b, c, d))

pub returns : goal.returns
returns c = record {
  begins = λ names width digits e seats same form boxes new fresh. record {
    workers = same;
    run = run_begun names;
    hands = replicate width None;
    turned = c.turns_go_on.ensures.begins names.setting names.first width digits (run_begun names)
        (replicate width None) form refl refl refl refl;
    shows = subst (λ (n : ℕ). Shows names e seats (replicate n Nothing) (run_begun names) (replicate n None))
        same
        (run_begins names e new boxes seats (subst (λ (n : ℕ). AreNewWorkers n seats) (sym same) fresh));
  };
  may = λ names width digits turns e seats held w seat h is form worked at_seat at_held.
      let hand = hand_at names width digits turns e seats held worked w seat at_seat in
      may_work names e seats held worked.run worked.hands worked.shows seat h hand.0
      (worked.shows.in_hand.each w seat h hand.0 at_seat at_held hand.1)
      (c.turns_go_on.ensures.may names.setting names.first width digits turns worked.run worked.hands w hand.0
      is form worked.turned hand.1);
  turn = λ names width digits turns code first e new seats held seat after h next is some form worked going
      code_is at_seat at_held works.
      let w = worker_of width digits turns in
      let hand = hand_at names width digits turns e seats held worked w seat at_seat in
      let shown = turn_shown names code first e new seats held worked.run worked.hands w seat after worked.shows
      at_seat code_is
      (run_numbered names width digits turns e seats held worked c.passes_are_numbered.ensures) h next hand.0
      (worked.shows.in_hand.each w seat h hand.0 at_seat at_held hand.1) at_held hand.1 works in
      record {
        workers = worked.workers;
        run = shown.next;
        hands = slice_set worked.hands w shown.after;
        turned = c.turns_go_on.ensures.turn names.setting names.first width digits turns worked.run shown.next
            worked.hands hand.0 shown.after is some form worked.turned
            (λ over. going (engine_ended names width digits turns e seats held worked
            (over_ended names.setting worked.run.core.machine over))) hand.1 shown.takes
            (shown.shows.sched.core ∙ sym worked.shows.sched.core);
        shows = shown.shows;
      };
  told = λ names width digits turns e seats held w seat after worked at same. record {
    workers = worked.workers;
    run = worked.run;
    hands = worked.hands;
    turned = worked.turned;
    shows = told_shown names e seats held worked.run worked.hands worked.shows w seat after at same;
  };
  end = λ names width digits turns e seats held is narrow short worked.
      c.turns_go_on.ensures.end names.setting names.first width digits turns worked.run worked.hands is narrow
      short worked.turned;
}
