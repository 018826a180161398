-- An engine shows the same run after a worker was told whether it goes on.
use Rattle.std.proofs.Common.{◌≡◌, ℕ, ◌⊎◌, inl, inr, List, sym, ap, ◌∙◌, Some, None, slice_get, subst}
use Rattle.std.specs.Prelude.{slice_set, Option}
use Rattle.std.proofs.lemmas.List.{length-set}
use Rattle.pass_seats.specs.declared.pass.SeatPass.{SeatPass}
use Rattle.pass_seats.specs.Names.{Names}
use Rattle.pass_seats.specs.Seats.{SeatState}
use Rattle.pass_engine.specs.Engines.{EngineState}
use Rattle.turn_runs.specs.declared.hand.Hand.{Hand}
use Rattle.turn_runs.specs.declared.run.Run.{Run}
use Rattle.turn_runs.proofs.ListLemmas.{set_cases}
use Rattle.still_turns.specs.declared.hand.InHand.{InHand}
use Rattle.still_turns.specs.declared.hand.InHand.TheVariants as H
use Rattle.still_turns.specs.Shown.{Shows, IsInHand}
use Rattle.still_turns.specs.WorkerTurns.{IsSameWorker}
use Rattle.still_turns.proofs.PassesShown.{passes_same}
use Rattle.still_turns.proofs.HandsShown.{workers_after}

-- what a worker has in hand depends on its passes alone
in_hand_still : (s after : SeatState) → after.passes ≡ s.passes → (h : InHand) (hand : Option Hand) →
    IsInHand s h hand → IsInHand after h hand
in_hand_still s after same H.Nothing None is = tt
in_hand_still s after same H.Nothing (Some hand) is = is
in_hand_still s after same (H.Going pass) None is = is
in_hand_still s after same (H.Going pass) (Some hand) is = record {
  pass = is.pass;
  there = ap (λ (ps : List SeatPass). slice_get ps pass.slot) same ∙ is.there;
  holds = is.holds;
  going = is.going;
  progress = is.progress;
}
in_hand_still s after same (H.Through pass) None is = is
in_hand_still s after same (H.Through pass) (Some hand) is = record {
  pass = is.pass;
  there = ap (λ (ps : List SeatPass). slice_get ps pass.slot) same ∙ is.there;
  holds = is.holds;
  end = is.end;
  over = is.over;
  progress = is.progress;
}

module _ (names : Names) (e : EngineState) (seats : List SeatState) (held : List InHand) (run : Run)
    (hands : List (Option Hand)) (shows : Shows names e seats held run hands) (w : ℕ) (s after : SeatState)
    (at : slice_get seats w ≡ Some s) (same : IsSameWorker s after) where
  -- what the worker has in hand
  go : (v : ℕ) (x : SeatState) (h : InHand) (hand : Option Hand) → slice_get held v ≡ Some h →
      slice_get hands v ≡ Some hand →
      ((v ≡ w) × (after ≡ x)) ⊎ ((v ≡ w → ⊥) × (slice_get seats v ≡ Some x)) → IsInHand x h hand
  go v x h hand at_held at_hand (inl this) =
      subst (λ (y : SeatState). IsInHand y h hand) this.1
      (in_hand_still s after same.passes h hand
      (shows.in_hand.each v s h hand (ap (λ (n : ℕ). slice_get seats n) this.0 ∙ at) at_held at_hand))
  go v x h hand at_held at_hand (inr other) = shows.in_hand.each v x h hand other.1 at_held at_hand

  -- the run is shown still
  pub told_shown : Shows names e (slice_set seats w after) held run hands
  told_shown = record {
    first = shows.first;
    boxes = shows.boxes;
    sched = shows.sched;
    going = shows.going;
    workers = workers_after seats w s after at names.seats shows.workers same.number same.torn;
    passes = passes_same seats run.made shows.passes w s after at same.passes;
    in_hand = record {
      many = shows.in_hand.many ∙ sym (length-set seats w after);
      each = λ v x h hand at_x at_held at_hand.
          go v x h hand at_held at_hand (set_cases seats w v s after x at at_x);
    };
  }
