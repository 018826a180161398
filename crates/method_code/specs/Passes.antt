-- What a chain of compiled steps comes to.
use Rattle.std.specs.Prelude.{◌≡◌, Option, Some}
use Rattle.seuss_program.specs.Bodies.{Called}
use Rattle.method_code.specs.Chains.{Passed, outcome_of}

-- A pass is over, with the outcome, the state and the budget of an attempt.
pub record EndsAs (pass : Option Passed) (called : Called) : Type 0 where
  pub passed : Passed
  pub over : pass ≡ Some passed
  pub outcome : outcome_of passed.end ≡ called.outcome
  pub state : passed.state ≡ called.state
  pub budget : passed.budget ≡ called.budget
