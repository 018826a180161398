-- The seats, and what their workers have in hand, after one worker's turn.
use Rattle.std.proofs.Common.{◌≡◌, ℕ, ◌⊎◌, inl, inr, false, List, sym, ap, ◌∙◌, Some, slice_get, subst}
use Rattle.std.specs.Prelude.{slice_set, Option}
use Rattle.std.proofs.lemmas.List.{length-set}
use Rattle.pass_seats.specs.Seats.{SeatState}
use Rattle.turn_runs.specs.declared.hand.Hand.{Hand}
use Rattle.turn_runs.proofs.ListLemmas.{set_cases}
use Rattle.still_turns.specs.declared.hand.InHand.{InHand}
use Rattle.still_turns.specs.Shown.{AreWorkers, IsInHand, ShowHands}

module _ (seats : List SeatState) (w : ℕ) (s after : SeatState) (at : slice_get seats w ≡ Some s) where
  -- the seats are still those of workers
  pub workers_after : (many : ℕ) → AreWorkers many seats → after.number ≡ s.number → after.torn ≡ s.torn →
      AreWorkers many (slice_set seats w after)
  workers_after many old number torn = record {
    all = length-set seats w after ∙ old.all;
    each = λ v x there. go v x (set_cases seats w v s after x at there);
  }
    where
      go : (v : ℕ) (x : SeatState) → ((v ≡ w) × (after ≡ x)) ⊎ ((v ≡ w → ⊥) × (slice_get seats v ≡ Some x)) →
          (x.number ≡ v) × (x.torn ≡ false)
      go v x (inl this) =
          let o = old.each w s at in (
            ap (λ (y : SeatState). y.number) (sym this.1) ∙ (number ∙ (o.0 ∙ sym this.0)),
            ap (λ (y : SeatState). y.torn) (sym this.1) ∙ (torn ∙ o.1),
          )
      go v x (inr other) = old.each v x other.1

  -- what workers have in hand is still what they have in the run
  pub hands_after : (held : List InHand) (hands : List (Option Hand)) (h next : InHand)
      (hand then : Option Hand) → ShowHands seats held hands → slice_get held w ≡ Some h →
      slice_get hands w ≡ Some hand → IsInHand after next then →
      ShowHands (slice_set seats w after) (slice_set held w next) (slice_set hands w then)
  hands_after held hands h next hand then old at_held at_hand new = record {
    many = length-set held w next ∙ (old.many ∙ sym (length-set seats w after));
    each = λ v x y z at_x at_y at_z.
        go v x y z (set_cases seats w v s after x at at_x) (set_cases held w v h next y at_held at_y)
        (set_cases hands w v hand then z at_hand at_z);
  }
    where
      go : (v : ℕ) (x : SeatState) (y : InHand) (z : Option Hand) →
          ((v ≡ w) × (after ≡ x)) ⊎ ((v ≡ w → ⊥) × (slice_get seats v ≡ Some x)) →
          ((v ≡ w) × (next ≡ y)) ⊎ ((v ≡ w → ⊥) × (slice_get held v ≡ Some y)) →
          ((v ≡ w) × (then ≡ z)) ⊎ ((v ≡ w → ⊥) × (slice_get hands v ≡ Some z)) → IsInHand x y z
      go v x y z (inl a) (inl b) (inl c) =
          subst (λ (i : SeatState). IsInHand i y z) a.1
          (subst (λ (i : InHand). IsInHand after i z) b.1
          (subst (λ (i : Option Hand). IsInHand after next i) c.1 new))
      go v x y z (inr a) (inr b) (inr c) = old.each v x y z a.1 b.1 c.1
      go v x y z (inl a) (inr b) c = absurd (b.0 a.0)
      go v x y z (inl a) (inl b) (inr c) = absurd (c.0 a.0)
      go v x y z (inr a) (inl b) c = absurd (a.0 b.0)
      go v x y z (inr a) (inr b) (inl c) = absurd (a.0 c.0)
