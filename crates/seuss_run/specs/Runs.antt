-- What a run prints.
use Rattle.std.specs.Prelude.{◌≡◌, ℕ, ℤ, false, All, List, map}
use Rattle.seuss_base.specs.declared.outcome.Outcome.{Outcome}
use Rattle.seuss_program.specs.declared.program.Program.{Program}
use Rattle.seuss_program.specs.declared.state.State.{State}
use Rattle.seuss_program.specs.declared.order.Placed.{Placed}
use Rattle.seuss_program.specs.declared.order.LastLine.{LastLine}
use Rattle.seuss_program.specs.declared.order.LastLine.TheVariants as L
use Rattle.seuss_program.specs.Attempts.{tight}
use Rattle.seuss_program.specs.Initials.{initial}
use Rattle.seuss_program.specs.Orders.{stops, IsLawful, slots_of}
use Rattle.seuss_program.specs.Reports.{report, last_line}

-- the actions of an order
abbrev pub actions_of : List Placed → List ℕ
actions_of order = map (λ (p : Placed). p.action) order

-- its outcomes
abbrev pub outcomes_of : List Placed → List Outcome
outcomes_of order = map (λ (p : Placed). p.outcome) order

-- Executing the actions of the order one at a time, from the start, each with the whole budget, gives
-- the same outcomes and leaves exactly this state.
pub record IsTight (p : Program) (start : State) (budget : ℕ) (order : List Placed) (state : State) : Type 0
  where
    pub outcomes : (tight p (actions_of order) start budget).outcomes ≡ outcomes_of order
    pub boxes : (tight p (actions_of order) start budget).state ≡ state

-- the status that a run ends with, by its last line
abbrev pub status_of : LastLine → ℕ
status_of L.Done = 0
status_of (L.Trapped a t) = 1
status_of (L.Spent a) = 2

-- The text is the report of this lawful order of attempts and of this state, which executing the actions of
-- the order one at a time, from the initial state with this input, leaves with the same outcomes.
pub record Reports (p : Program) (input : List ℤ) (rounds budget : ℕ) (order : List Placed) (state : State)
    (status : ℕ) (text : List ℕ) : Type 0 where
  pub lawful : IsLawful (slots_of p) rounds order
  pub one_at_a_time : IsTight p (initial p input) budget order state
  pub printed : text ≡ report p rounds order state
  pub ended : status ≡ status_of (last_line order)

-- the text is the report of some lawful order of attempts and of the state that it leaves
abbrev pub IsReport : Program → List ℤ → ℕ → ℕ → ℕ → List ℕ → Type 0
IsReport p input rounds budget status text =
    (order : List Placed) × (state : State) × Reports p input rounds budget order state status text

-- no attempt stopped the run
abbrev pub NoneStops : List Placed → Type 0
NoneStops order = All (λ (p : Placed). stops p.outcome ≡ false) order
