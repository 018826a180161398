-- Where a property holds that every attempt keeps: all along every run.
use Rattle.std.specs.Prelude.{◌≡◌, ℕ, ℤ, All, IsTrue, List, ◌++◌, Ok}
use Rattle.seuss_program.specs.declared.program.Program.{Program}
use Rattle.seuss_program.specs.declared.state.State.{State}
use Rattle.seuss_program.specs.declared.order.Placed.{Placed}
use Rattle.seuss_program.specs.Attempts.{tight}
use Rattle.seuss_program.specs.Initials.{initial}
use Rattle.seuss_program.specs.Values.{fits}
use Rattle.safety_check.specs.declared.property.Property.{Property}
use Rattle.safety_check.specs.Properties.{All_ended, Holds, IsKept}
use Rattle.seuss_run.specs.declared.words.Command.{Command}
use Rattle.seuss_run.specs.Runs.{NoneStops, Reports, actions_of}
use Rattle.seuss_run.specs.Verdicts.{IsVerdict, Loaded, Running}

-- A property holds at each place of an order up to the first attempt that traps or is spent: where the
-- attempts in front of the place are executed one at a time, it holds of the boxes that they leave.
abbrev pub HoldsAlong : Program → Property → List ℤ → ℕ → List Placed → Type 0
HoldsAlong p property input budget order = (front behind : List Placed) → order ≡ front ++ behind →
    NoneStops front → Holds p property (tight p (actions_of front) (initial p input) budget).state

-- A property holds throughout: in every initial state, and after each attempt that is accepted or rejected,
-- from every state in which it holds. So it holds after every row of such attempts, and all along the order
-- that a run prints, of this program with any input, whatever the command.
pub record HoldsThroughout (p : Program) (property : Property) : Type 0 where
  pub kept : IsKept p property
  pub rows : (input : List ℤ) (actions : List ℕ) (budget : ℕ) → All (λ z. IsTrue (fits z)) input →
      All_ended (tight p actions (initial p input) budget).outcomes →
      Holds p property (tight p actions (initial p input) budget).state
  pub runs : (c : Command) (bytes : List ℕ) (given : Loaded) (rounds budget status : ℕ)
      (order : List Placed) (state : State) (text : List ℕ) → IsVerdict c bytes (Ok (Running given)) →
      given.0 ≡ p → Reports given.0 given.1 rounds budget order state status text →
      HoldsAlong p property given.1 budget order
