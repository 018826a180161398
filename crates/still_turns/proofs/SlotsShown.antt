-- The slots of seats, after one seat has changed.
use Rattle.std.proofs.Common.{◌≡◌, ℕ, ◌⊎◌, inl, inr, List, [], ◌∷◌, ◌++◌, length, sym, ap, ◌∙◌, Some, slice_get}
use Rattle.std.specs.Prelude.{slice_set}
use Rattle.pass_seats.specs.declared.pass.SeatPass.{SeatPass}
use Rattle.pass_seats.specs.Seats.{SeatState}
use Rattle.turn_runs.proofs.ListLemmas.{set_cases, push-cases}
use Rattle.still_turns.specs.Shown.{IsSlot}

module _ (seats : List SeatState) (w : ℕ) (s after : SeatState) (at : slice_get seats w ≡ Some s) where
  -- what stands in a slot of the seat that has changed, or of another one
  slot_cases : (v k : ℕ) (x : SeatPass) → IsSlot (slice_set seats w after) v k x →
      ((v ≡ w) × (slice_get after.passes k ≡ Some x)) ⊎ ((v ≡ w → ⊥) × IsSlot seats v k x)
  slot_cases v k x is = go (set_cases seats w v s after is.seat at is.there)
    where
      go : ((v ≡ w) × (after ≡ is.seat)) ⊎ ((v ≡ w → ⊥) × (slice_get seats v ≡ Some is.seat)) →
          ((v ≡ w) × (slice_get after.passes k ≡ Some x)) ⊎ ((v ≡ w → ⊥) × IsSlot seats v k x)
      go (inl this) =
          inl (this.0, ap (λ (y : SeatState). slice_get y.passes k) this.1 ∙ is.here)
      go (inr other) = inr (other.0, record { seat = is.seat; there = other.1; here = is.here })

  -- a slot of the seat as it was
  old_slot : (v k : ℕ) (x : SeatPass) → v ≡ w → slice_get s.passes k ≡ Some x → IsSlot seats v k x
  old_slot v k x same here =
      record { seat = s; there = ap (λ (n : ℕ). slice_get seats n) same ∙ at; here = here }

  -- where its passes are the same, each slot is as it was
  pub slot_same : after.passes ≡ s.passes → (v k : ℕ) (x : SeatPass) →
      IsSlot (slice_set seats w after) v k x → IsSlot seats v k x
  slot_same same v k x is = go (slot_cases v k x is)
    where
      go : ((v ≡ w) × (slice_get after.passes k ≡ Some x)) ⊎ ((v ≡ w → ⊥) × IsSlot seats v k x) →
          IsSlot seats v k x
      go (inl this) =
          old_slot v k x this.0 (ap (λ (ps : List SeatPass). slice_get ps k) (sym same) ∙ this.1)
      go (inr other) = other.1

  -- where one pass has changed, a slot has it, or is as it was
  pub slot_set : (slot : ℕ) (p q : SeatPass) → slice_get s.passes slot ≡ Some p →
      after.passes ≡ slice_set s.passes slot q → (v k : ℕ) (x : SeatPass) →
      IsSlot (slice_set seats w after) v k x → ((v ≡ w) × (k ≡ slot) × (q ≡ x))
      ⊎ (((v ≡ w) → (k ≡ slot) → ⊥) × IsSlot seats v k x)
  slot_set slot p q there passes v k x is = go (slot_cases v k x is)
    where
      in_seat : v ≡ w → ((k ≡ slot) × (q ≡ x)) ⊎ ((k ≡ slot → ⊥) × (slice_get s.passes k ≡ Some x)) →
          ((v ≡ w) × (k ≡ slot) × (q ≡ x)) ⊎ (((v ≡ w) → (k ≡ slot) → ⊥) × IsSlot seats v k x)
      in_seat same (inl this) = inl (same, this.0, this.1)
      in_seat same (inr other) = inr (λ _ e. other.0 e, old_slot v k x same other.1)

      go : ((v ≡ w) × (slice_get after.passes k ≡ Some x)) ⊎ ((v ≡ w → ⊥) × IsSlot seats v k x) →
          ((v ≡ w) × (k ≡ slot) × (q ≡ x)) ⊎ (((v ≡ w) → (k ≡ slot) → ⊥) × IsSlot seats v k x)
      go (inl this) =
          in_seat this.0 (set_cases s.passes slot k p q x there
          (ap (λ (ps : List SeatPass). slice_get ps k) (sym passes) ∙ this.1))
      go (inr other) = inr (λ e _. other.0 e, other.1)

  -- where one pass more was given, a slot has it, or is as it was
  pub slot_push : (q : SeatPass) → after.passes ≡ s.passes ++ q ∷ [] → (v k : ℕ) (x : SeatPass) →
      IsSlot (slice_set seats w after) v k x → ((v ≡ w) × (k ≡ length s.passes) × (q ≡ x))
      ⊎ IsSlot seats v k x
  slot_push q passes v k x is = go (slot_cases v k x is)
    where
      in_seat : v ≡ w → (slice_get s.passes k ≡ Some x) ⊎ ((k ≡ length s.passes) × (q ≡ x)) →
          ((v ≡ w) × (k ≡ length s.passes) × (q ≡ x)) ⊎ IsSlot seats v k x
      in_seat same (inl there) = inr (old_slot v k x same there)
      in_seat same (inr this) = inl (same, this.0, this.1)

      go : ((v ≡ w) × (slice_get after.passes k ≡ Some x)) ⊎ ((v ≡ w → ⊥) × IsSlot seats v k x) →
          ((v ≡ w) × (k ≡ length s.passes) × (q ≡ x)) ⊎ IsSlot seats v k x
      go (inl this) =
          in_seat this.0 (push-cases s.passes q x k
          (ap (λ (ps : List SeatPass). slice_get ps k) (sym passes) ∙ this.1))
      go (inr other) = inr other.1
