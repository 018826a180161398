-- A turn of a worker at the engine is a turn of the run that the engine shows, and may be made where the run says so.
use Rattle.std.proofs.Common.{◌≡◌, ℕ, List, length, refl, sym, ap, ◌∙◌, Some, None, slice_get, subst, arith}
use Rattle.std.specs.Prelude.{slice_set, Option}
use Rattle.seuss_program.specs.declared.state.Value.{Value}
use Rattle.method_code.specs.declared.method.Method.{Method}
use Rattle.method_code.specs.Codes.{compiled}
use Rattle.method_code.specs.Chains.{Turned, turned}
use Rattle.loose_records.specs.Growing.{Going, status_of}
use Rattle.pass_seats.specs.declared.pass.Pass.{Pass}
use Rattle.pass_seats.specs.declared.pass.Progress.TheVariants as V
use Rattle.pass_seats.specs.Names.{Names}
use Rattle.pass_seats.specs.Seats.{SeatState}
use Rattle.pass_engine.specs.Engines.{EngineState}
use Rattle.pass_engine.specs.Calls.{StepMade}
use Rattle.turn_runs.specs.declared.hand.Hand.{Hand}
use Rattle.turn_runs.specs.declared.hand.Progress as Q
use Rattle.turn_runs.specs.declared.hand.Progress.TheVariants as P
use Rattle.turn_runs.specs.declared.run.Run.{Run}
use Rattle.turn_runs.specs.RunTurns.{MayTurn, MayGoOn, MayStep, MayFinish, GoesOn}
use Rattle.still_turns.specs.declared.hand.InHand.{InHand}
use Rattle.still_turns.specs.declared.hand.InHand.TheVariants as H
use Rattle.still_turns.specs.Shown.{Shows, ShowsTurn, IsInHand, GoesAt, EndsAt}
use Rattle.still_turns.specs.WorkerTurns.{MayWork, MayAdvance, MayEnd, Works}
use Rattle.still_turns.proofs.BoxesShown.{clock_at}
use Rattle.still_turns.proofs.StartsShown.{sched_clock, none_shown, start_shown}
use Rattle.still_turns.proofs.StepsShown as T
use Rattle.still_turns.proofs.FinishesShown.{finish_shown}

module _ (names : Names) (e : EngineState) (seats : List SeatState) (held : List InHand) (run : Run)
    (hands : List (Option Hand)) (shows : Shows names e seats held run hands) where
  -- a pass that goes on has a stamp left
  may_advance : (s : SeatState) (slot : ℕ) (hand : Hand) → GoesAt s slot hand →
      MayGoOn run hand.ticket hand.clock hand.progress → MayAdvance e s slot
  may_advance s slot hand goes may =
      let step : MayStep run hand.ticket hand.clock goes.pass.control =
      subst (λ (x : Q.Progress). MayGoOn run hand.ticket hand.clock x) goes.progress may in
      record {
        pass = goes.pass;
        there = goes.there;
        going = goes.going;
        left = λ cell at.
            let a = step.left in
            let b = clock_at e.boxes run.made shows.boxes goes.pass.control.box_number cell at in
            let c = goes.holds.clock in
            omega (arith, a, b, c);
      }

  -- so has a pass that is over
  may_end : (s : SeatState) (slot : ℕ) (hand : Hand) → EndsAt s slot hand →
      MayGoOn run hand.ticket hand.clock hand.progress → MayEnd e s slot
  may_end s slot hand ends may =
      let finish : MayFinish run hand.ticket hand.clock =
      subst (λ (x : Q.Progress). MayGoOn run hand.ticket hand.clock x) ends.progress may in
      record {
        pass = ends.pass;
        there = ends.there;
        end = ends.end;
        over = ends.over;
        undone = ends.holds.undone;
        left = let a = finish.left in
            let b = sched_clock names.setting.scheduler e.sched run shows.sched in
            let c = ends.holds.clock in
            omega (arith, a, b, c);
      }

  -- where the run may take the turn of a worker, the engine may be called for it
  pub may_work : (s : SeatState) (h : InHand) (hand : Option Hand) → IsInHand s h hand → MayTurn run hand →
      MayWork e s h
  may_work s H.Nothing None is may =
      let a = may.left in
      let b = sched_clock names.setting.scheduler e.sched run shows.sched in
      omega (arith, a, b)
  may_work s H.Nothing (Some hand) is may = absurd is
  may_work s (H.Going pass) None is may = absurd is
  may_work s (H.Going pass) (Some hand) is may = may_advance s pass.slot hand is may
  may_work s (H.Through pass) None is may = absurd is
  may_work s (H.Through pass) (Some hand) is may = may_end s pass.slot hand is may

module _ (names : Names) (code : List Method) (first : ℕ → List Value) (e new : EngineState)
    (seats : List SeatState) (held : List InHand) (run : Run) (hands : List (Option Hand)) (w : ℕ)
    (seat after : SeatState) (shows : Shows names e seats held run hands)
    (at_seat : slice_get seats w ≡ Some seat) (code_is : code ≡ compiled names.setting.program)
    (numbered : length run.made.passes ≡ run.core.machine.starts) where
  -- a step after which the pass goes on
  goes_on : (pass next : Pass) (hand : Hand) → GoesAt seat pass.slot hand →
      slice_get held w ≡ Some (H.Going pass) → slice_get hands w ≡ Some (Some hand) → next ≡ pass →
      StepMade names.setting.program code first e new seat after pass.slot V.Stepped →
      ShowsTurn names run hands w (Some hand) new (slice_set seats w after)
      (slice_set held w (H.Going next))
  goes_on pass next hand goes at_held at_hand same made =
      let later = made.step.advanced.after in
      let t = T.goes_next (turned names.setting.program (record made.step.advanced.pass.control
      { frame = made.step.entry.after }) made.step.entry.end) later.over later.control
      made.step.advanced.steps.goes in
      let then : Q.Progress = P.Going later.control later.budget in
      let hand_after : Hand = record { ticket = hand.ticket; clock = made.step.entry.stamp; progress = then } in
      let makes = T.makes names code first e new seats held run hands w seat after shows at_seat pass.slot hand
      goes code_is V.Stepped made then
      (ap (λ (l : ℕ). Going later.control l) (T.budget_is names code first e new seats held run hands w seat
      after shows at_seat pass.slot hand goes code_is V.Stepped made)
      ∙ sym (ap (λ (x : Turned). status_of x made.step.entry.budget_after) t.1)) in
      record {
        next = T.next names code first e new seats held run hands w seat after shows at_seat pass.slot hand
            goes code_is V.Stepped made;
        after = Some hand_after;
        takes = subst (λ (x : Q.Progress). GoesOn names.setting.program run.core.setting run hand.ticket
            hand.clock x (T.next names code first e new seats held run hands w seat after shows at_seat
            pass.slot hand goes code_is V.Stepped made) (Some hand_after))
            (sym (T.from names code first e new seats held run hands w seat after shows at_seat pass.slot
            hand goes code_is V.Stepped made)) makes;
        shows = T.step_shown names code first e new seats held run hands w seat after shows at_seat pass.slot
            hand goes code_is V.Stepped made (H.Going pass) (H.Going next) hand_after at_held at_hand
            (record {
              pass = later;
              there = ap (λ (x : Pass). slice_get after.passes x.slot) same
                  ∙ T.later_there names code first e new seats held run hands w seat after shows at_seat
                  pass.slot hand goes code_is V.Stepped made;
              holds = record {
                ticket = sym (T.ticket_same names code first e new seats held run hands w seat after shows
                    at_seat pass.slot hand goes code_is V.Stepped made
                    ∙ sym (T.ticket names code first e new seats held run hands w seat after shows at_seat
                    pass.slot hand goes code_is V.Stepped made));
                clock = sym (T.clock_is names code first e new seats held run hands w seat after shows at_seat
                    pass.slot hand goes code_is V.Stepped made);
                undone = T.undone_still names code first e new seats held run hands w seat after shows at_seat
                    pass.slot hand goes code_is V.Stepped made;
              };
              going = t.0;
              progress = refl;
            });
      }

  -- a step after which the pass is over
  is_over : (pass next : Pass) (hand : Hand) → GoesAt seat pass.slot hand →
      slice_get held w ≡ Some (H.Going pass) → slice_get hands w ≡ Some (Some hand) → next ≡ pass →
      StepMade names.setting.program code first e new seat after pass.slot V.Over →
      ShowsTurn names run hands w (Some hand) new (slice_set seats w after)
      (slice_set held w (H.Through next))
  is_over pass next hand goes at_held at_hand same made =
      let later = made.step.advanced.after in
      let t = T.goes_over (turned names.setting.program (record made.step.advanced.pass.control
      { frame = made.step.entry.after }) made.step.entry.end) later.over later.control
      made.step.advanced.steps.goes in
      let then : Q.Progress = P.Through t.0 in
      let hand_after : Hand = record { ticket = hand.ticket; clock = made.step.entry.stamp; progress = then } in
      let makes = T.makes names code first e new seats held run hands w seat after shows at_seat pass.slot hand
      goes code_is V.Over made then
      (sym (ap (λ (x : Turned). status_of x made.step.entry.budget_after) t.2)) in
      record {
        next = T.next names code first e new seats held run hands w seat after shows at_seat pass.slot hand
            goes code_is V.Over made;
        after = Some hand_after;
        takes = subst (λ (x : Q.Progress). GoesOn names.setting.program run.core.setting run hand.ticket
            hand.clock x (T.next names code first e new seats held run hands w seat after shows at_seat
            pass.slot hand goes code_is V.Over made) (Some hand_after))
            (sym (T.from names code first e new seats held run hands w seat after shows at_seat pass.slot
            hand goes code_is V.Over made)) makes;
        shows = T.step_shown names code first e new seats held run hands w seat after shows at_seat pass.slot
            hand goes code_is V.Over made (H.Going pass) (H.Through next) hand_after at_held at_hand
            (record {
              pass = later;
              there = ap (λ (x : Pass). slice_get after.passes x.slot) same
                  ∙ T.later_there names code first e new seats held run hands w seat after shows at_seat
                  pass.slot hand goes code_is V.Over made;
              holds = record {
                ticket = sym (T.ticket_same names code first e new seats held run hands w seat after shows
                    at_seat pass.slot hand goes code_is V.Over made
                    ∙ sym (T.ticket names code first e new seats held run hands w seat after shows at_seat
                    pass.slot hand goes code_is V.Over made));
                clock = sym (T.clock_is names code first e new seats held run hands w seat after shows at_seat
                    pass.slot hand goes code_is V.Over made);
                undone = T.undone_still names code first e new seats held run hands w seat after shows at_seat
                    pass.slot hand goes code_is V.Over made;
              };
              end = t.0;
              over = t.1;
              progress = refl;
            });
      }

  -- each turn of a worker is one of the run that is shown
  pub turn_shown : (h next : InHand) (hand : Option Hand) → IsInHand seat h hand →
      slice_get held w ≡ Some h → slice_get hands w ≡ Some hand →
      Works names code first e new seat after h next →
      ShowsTurn names run hands w hand new (slice_set seats w after) (slice_set held w next)
  turn_shown H.Nothing H.Nothing None is at_held at_hand works =
      none_shown names e new seats held run hands w seat after shows at_seat at_held at_hand works
  turn_shown H.Nothing (H.Going pass) None is at_held at_hand works =
      start_shown names e new seats held run hands w seat after shows at_seat at_held at_hand pass works numbered
  turn_shown H.Nothing (H.Through pass) None is at_held at_hand works = absurd works
  turn_shown H.Nothing next (Some hand) is at_held at_hand works = absurd is
  turn_shown (H.Going pass) next None is at_held at_hand works = absurd is
  turn_shown (H.Going pass) H.Nothing (Some hand) is at_held at_hand works = absurd works
  turn_shown (H.Going pass) (H.Going next) (Some hand) is at_held at_hand works =
      goes_on pass next hand is at_held at_hand works.0 works.1
  turn_shown (H.Going pass) (H.Through next) (Some hand) is at_held at_hand works =
      is_over pass next hand is at_held at_hand works.0 works.1
  turn_shown (H.Through pass) next None is at_held at_hand works = absurd is
  turn_shown (H.Through pass) H.Nothing (Some hand) is at_held at_hand works =
      finish_shown names e new seats held run hands w seat after shows at_seat pass.slot hand is works.verdict
      works.made (H.Through pass) at_held at_hand
  turn_shown (H.Through pass) (H.Going next) (Some hand) is at_held at_hand works = absurd works
  turn_shown (H.Through pass) (H.Through next) (Some hand) is at_held at_hand works = absurd works
