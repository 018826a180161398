-- A call that a worker may make is refused for want of memory alone.
use Rattle.std.proofs.Common.{◌≡◌, ℕ, ◌<◌, sym, ap, ◌∙◌, None, slice_get, arith}
use Rattle.std.specs.Prelude.{◌^◌}
use Rattle.std.proofs.lemmas.Option.{same_Some, none-some}
use Rattle.round_ledger.specs.Cells as L
use Rattle.pass_seats.specs.declared.pass.SeatPass.{SeatPass}
use Rattle.pass_seats.specs.declared.refusal.EngineRefusal.{EngineRefusal}
use Rattle.pass_seats.specs.declared.refusal.EngineRefusal.TheVariants as X
use Rattle.pass_seats.specs.Seats.{SeatState}
use Rattle.pass_engine.specs.Engines.{EngineState}
use Rattle.pass_engine.specs.Calls.{StartRefused, StepRefused, StepWorn, FinishRefused, FinishIsWorn}
use Rattle.pass_engine.specs.Calls.{StandingRefused}
use Rattle.still_turns.specs.WorkerTurns.{IsWant, MayAdvance, MayEnd}

module _ (old new : EngineState) (seat after : SeatState) (going : old.given_up ≡ None) where
  -- a start
  pub start_wants : L.next_stamp 0 old.sched.journal.log < 2 ^ 63 → (r : EngineRefusal) →
      StartRefused old new seat after r → IsWant r
  start_wants left X.Memory refused = tt
  start_wants left (X.Worn stamp) refused = absurd (omega (arith, left, refused.worn.0, refused.worn.1))
  start_wants left (X.GivenUp by) refused = absurd (none-some by (sym going ∙ refused.given_up))

  -- the stamp of a step isn't worn
  step_left : (slot : ℕ) → MayAdvance old seat slot → (stamp : ℕ) → StepWorn old new seat after slot stamp → ⊥
  step_left slot may stamp refused =
      let at = same_Some refused.at.going.pass may.pass (sym refused.at.going.there ∙ may.there) in
      let worn = same_Some refused.worn.pass may.pass (sym refused.worn.there ∙ may.there) in
      let b : may.pass.control.box_number ≡ refused.b =
      ap (λ (p : SeatPass). p.control.box_number) (sym at) ∙ refused.at.going.box in
      let left = may.left refused.cell
      (ap (λ (n : ℕ). slice_get old.boxes n) b ∙ refused.at.there) in
      let clock = ap (λ (p : SeatPass). p.clock) worn in
      let is = refused.worn.stamp_is in
      let high = refused.worn.worn in
      omega (arith, left, clock, is, high)

  -- a step
  pub step_wants : (slot : ℕ) → MayAdvance old seat slot → (r : EngineRefusal) →
      StepRefused old new seat after slot r → IsWant r
  step_wants slot may X.Memory refused = tt
  step_wants slot may (X.Worn stamp) refused = absurd (step_left slot may stamp refused)
  step_wants slot may (X.GivenUp by) refused = absurd (none-some by (sym going ∙ refused.given_up))

  -- the stamp of a finish isn't worn
  finish_left : (slot : ℕ) → MayEnd old seat slot → (stamp : ℕ) →
      FinishIsWorn old new seat after slot stamp → ⊥
  finish_left slot may stamp refused =
      let worn = same_Some refused.worn.pass may.pass (sym refused.worn.there ∙ may.there) in
      let left = may.left in
      let clock = ap (λ (p : SeatPass). p.clock) worn in
      let is = refused.worn.stamp_is in
      let high = refused.worn.worn in
      omega (arith, left, clock, is, high)

  -- a finish
  pub finish_wants : (slot : ℕ) → MayEnd old seat slot → (r : EngineRefusal) →
      FinishRefused old new seat after slot r → IsWant r
  finish_wants slot may X.Memory refused = tt
  finish_wants slot may (X.Worn stamp) refused = absurd (finish_left slot may stamp refused)
  finish_wants slot may (X.GivenUp by) refused = absurd (none-some by (sym going ∙ refused.given_up))

-- whether a run goes on is told where nobody gave the engine up
pub standing_told : (e : EngineState) (seat after : SeatState) → e.given_up ≡ None → (r : EngineRefusal) →
    StandingRefused e seat after r → ⊥
standing_told e seat after going X.Memory refused = refused
standing_told e seat after going (X.Worn stamp) refused = refused
standing_told e seat after going (X.GivenUp by) refused = none-some by (sym going ∙ refused.0)
