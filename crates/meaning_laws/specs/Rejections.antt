-- A preprocedure that is rejected.
use Rattle.std.specs.Prelude.{◌≡◌, ℕ, List, Some, Ok}
use Rattle.seuss_base.specs.declared.outcome.Outcome.TheVariants as O
use Rattle.seuss_program.specs.declared.program.Program.{Program}
use Rattle.seuss_program.specs.declared.tree.Ref.{Ref}
use Rattle.seuss_program.specs.declared.tree.Pre.{Pre}
use Rattle.seuss_program.specs.declared.tree.Proc.{Proc}
use Rattle.seuss_program.specs.declared.tree.Alternative.{Alternative}
use Rattle.seuss_program.specs.declared.state.State.{State}
use Rattle.seuss_program.specs.declared.state.Value.{Value}
use Rattle.seuss_program.specs.Programs.{target_of, method_of, vars_of}
use Rattle.seuss_program.specs.Bodies.{Called, arguments}
use Rattle.seuss_program.specs.Attempts.{attempt, entry_slots}
use Rattle.meaning_laws.specs.Alternatives.{alternatives_of, IsChosen}

-- The chosen alternative of a procedure has a preprocedure, whose attempt is rejected and leaves this.
pub record PreRejects (p : Program) (depth box : ℕ) (q : Proc Ref) (args : List Value) (state : State)
    (budget : ℕ) (left : Called) : Type 0 where
  pub alternatives : List (Alternative Ref)
  pub form : alternatives_of q.form ≡ Some alternatives
  pub chosen : Alternative Ref
  pub first : IsChosen alternatives (vars_of state box) (entry_slots q args) chosen
  pub pre : Pre Ref
  pub early : chosen.pre ≡ Some pre
  pub given : List Value
  pub evaluated : arguments pre.call.args (vars_of state box) (entry_slots q args) ≡ Ok given
  pub attempted : attempt p depth (target_of p box pre.call.target)
      (method_of pre.call.method) given state budget ≡ left
  pub rejected : left.outcome ≡ O.Rejected
