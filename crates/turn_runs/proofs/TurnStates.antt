-- Hands and turns, one turn on.
use Rattle.std.proofs.Common.{◌≡◌, ℕ, ◌⊎◌, inl, inr, List, [], ◌∷◌, ◌++◌}
use Rattle.std.proofs.Common.{slice_get, Some, refl, sym, subst, ap, ◌∙◌}
use Rattle.std.specs.Prelude.{Option, slice_set}
use Rattle.loose_records.specs.declared.record.Record.{Record}
use Rattle.loose_records.specs.Settings.{RunSetting}
use Rattle.loose_records.specs.LooseRecords.{IsOver}
use Rattle.loose_records.specs.Growing.{Status, Finished}
use Rattle.loose_records.specs.Turns.{Turning, IsTurn, AreTurns}
use Rattle.turn_runs.specs.declared.hand.Hand.{Hand}
use Rattle.turn_runs.specs.RunStates.{IsHeld, AreHands}
use Rattle.turn_runs.proofs.ListLemmas.{set_cases, set-here, set-other}
use Rattle.std.proofs.lemmas.Option.{same_Some}

-- one more turn
pub turns_push : (s : RunSetting) (workers : List ℕ) (w : ℕ) (old mid new : Turning) →
    AreTurns s workers old mid → (IsOver s mid.machine → ⊥) → IsTurn s w mid new →
    AreTurns s (workers ++ w ∷ []) old new
turns_push s [] w old mid new turns going turn = (
  λ over. going (subst (λ (x : Turning). IsOver s x.machine) (sym turns) over),
  (new, subst (λ (x : Turning). IsTurn s w x new) turns turn, refl),
)
turns_push s (v ∷ workers) w old mid new turns going turn = (
  turns.0,
  (turns.1.0, turns.1.1, turns_push s workers w turns.1.0 mid new turns.1.2 going turn),
)

-- what the worker of a turn has then is held, and no other worker has it
pub record IsNewHand (r : Record) (statuses : List Status) (hands : List (Option Hand)) (w : ℕ)
    (hand : Hand) : Type 0 where
  pub held : IsHeld r statuses hand
  pub own : (v : ℕ) (other : Hand) → (v ≡ w → ⊥) → slice_get hands v ≡ Some (Some other) →
      other.ticket.pass ≡ hand.ticket.pass → ⊥

-- a pass that is finished, in the hand of the worker of a turn after it, or in that of another one
pub data IsStillHeld (hands : List (Option Hand)) (old after : Option Hand) (i : ℕ) (status : Status) :
    Type 0 where
  Done : status ≡ Finished → IsStillHeld hands old after i status
  Mine : (hand : Hand) → after ≡ Some hand → hand.ticket.pass ≡ i → IsStillHeld hands old after i status
  Others : (v : ℕ) (hand : Hand) → slice_get hands v ≡ Some (Some hand) → hand.ticket.pass ≡ i →
      (old ≡ Some hand → ⊥) → IsStillHeld hands old after i status

-- the hands after a turn
pub hands_after : (r : Record) (statuses : List Status) (hands : List (Option Hand)) (w : ℕ)
    (old after : Option Hand) → ((u v : ℕ) (a b : Hand) → slice_get hands u ≡ Some (Some a) →
    slice_get hands v ≡ Some (Some b) → a.ticket.pass ≡ b.ticket.pass → u ≡ v) →
    slice_get hands w ≡ Some old →
    ((v : ℕ) (hand : Hand) → (v ≡ w → ⊥) → slice_get hands v ≡ Some (Some hand) → IsHeld r statuses hand) →
    ((hand : Hand) → after ≡ Some hand → IsNewHand r statuses hands w hand) →
    ((i : ℕ) (status : Status) → slice_get statuses i ≡ Some status →
    IsStillHeld hands old after i status) → AreHands r statuses (slice_set hands w after)
hands_after r statuses hands w old after once at kept mine still =
    record { each = each; once = only; all = λ i status h. all i status (still i status h) }
  where
    all : (i : ℕ) (status : Status) → IsStillHeld hands old after i status → (status ≡ Finished)
        ⊎ ((v : ℕ) × (hand : Hand) × (slice_get (slice_set hands w after) v ≡ Some (Some hand))
        × (hand.ticket.pass ≡ i))
    all i status (Done e) = inl e
    all i status (Mine hand e n) = inr (w, hand, set-here hands w old after at ∙ ap Some e, n)
    all i status (Others v hand h n other) = inr (
      v,
      hand,
      set-other hands w v after
          (λ e. let a = subst (λ (k : ℕ). slice_get hands k ≡ Some (Some hand)) e h in
          other (same_Some old (Some hand) (sym at ∙ a))) ∙ h,
      n,
    )

    each : (v : ℕ) (hand : Hand) → slice_get (slice_set hands w after) v ≡ Some (Some hand) →
        IsHeld r statuses hand
    each v hand h = by (set_cases hands w v old after (Some hand) at h)
      where
        by : ((v ≡ w) × (after ≡ Some hand)) ⊎ ((v ≡ w → ⊥) × (slice_get hands v ≡ Some (Some hand))) →
            IsHeld r statuses hand
        by (inl e) = (mine hand e.1).held
        by (inr e) = kept v hand e.0 e.1

    only : (u v : ℕ) (a b : Hand) → slice_get (slice_set hands w after) u ≡ Some (Some a) →
        slice_get (slice_set hands w after) v ≡ Some (Some b) → a.ticket.pass ≡ b.ticket.pass → u ≡ v
    only u v a b p q e =
        by (set_cases hands w u old after (Some a) at p) (set_cases hands w v old after (Some b) at q)
      where
        by : ((u ≡ w) × (after ≡ Some a)) ⊎ ((u ≡ w → ⊥) × (slice_get hands u ≡ Some (Some a))) →
            ((v ≡ w) × (after ≡ Some b)) ⊎ ((v ≡ w → ⊥) × (slice_get hands v ≡ Some (Some b))) → u ≡ v
        by (inl x) (inl y) = x.0 ∙ sym y.0
        by (inl x) (inr y) = absurd ((mine a x.1).own v b y.0 y.1 (sym e))
        by (inr x) (inl y) = absurd ((mine b y.1).own u a x.0 x.1 e)
        by (inr x) (inr y) = once u v a b x.1 y.1 e
