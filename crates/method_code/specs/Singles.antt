-- A single method, whose run is one step.
use Rattle.std.specs.Prelude.{◌≡◌, ℕ, ℤ, Bool, true, false, ◌&&◌, not, List, [], ◌∷◌, Option, None, Some}
use Rattle.std.specs.Prelude.{Ok, Err, is_none}
use Rattle.seuss_base.specs.declared.outcome.Outcome.{Outcome}
use Rattle.seuss_base.specs.declared.outcome.Outcome.TheVariants as O
use Rattle.seuss_program.specs.declared.tree.Ref.{Ref}
use Rattle.seuss_program.specs.declared.tree.Statement.{Statement, fold-Statement}
use Rattle.seuss_program.specs.declared.tree.Statement.TheOpen as S
use Rattle.seuss_program.specs.declared.tree.Statement.TheOpen.{Statement-F}
use Rattle.seuss_program.specs.declared.tree.Alternative.{Alternative}
use Rattle.seuss_program.specs.declared.tree.Form.{Form}
use Rattle.seuss_program.specs.declared.tree.Form.TheVariants as F
use Rattle.seuss_program.specs.declared.state.Value.{Value}
use Rattle.seuss_program.specs.declared.state.State.{State}
use Rattle.seuss_program.specs.Programs.{vars_of}
use Rattle.seuss_program.specs.Values.{Evaluated, value, bool_of}
use Rattle.seuss_program.specs.Bodies.{Called}
use Rattle.seuss_program.specs.Keeping.{all_true}
use Rattle.method_code.specs.declared.frame.End.{End}
use Rattle.method_code.specs.declared.frame.End.TheVariants as E
use Rattle.method_code.specs.Steps.{Stepped}
use Rattle.method_code.specs.Chains.{with_vars}

-- whether one statement has no call and no loop, over the statements inside it
abbrev pub single_step : Statement-F Ref Bool → Bool
single_step (S.Let name kind e) = true
single_step (S.Assign name e) = true
single_step (S.Call name call) = false
single_step (S.If cond holds fails) = all_true holds && all_true fails
single_step (S.While cond turn) = false

-- whether a statement has no call and no loop in it
unfoldable pub is_single_statement : Statement Ref → Bool
is_single_statement s = fold-Statement Ref Bool single_step s

-- whether a body has no call and no loop in it
abbrev pub is_single_body : List (Statement Ref) → Bool
is_single_body [] = true
is_single_body (s ∷ ss) = is_single_statement s && is_single_body ss

-- whether none of these alternatives has a preprocedure, a call or a loop
abbrev pub are_single : List (Alternative Ref) → Bool
are_single [] = true
are_single (a ∷ alts) = (is_none a.pre && is_single_body a.body) && are_single alts

-- whether a procedure has no preprocedure, no call and no loop
abbrev pub is_single : Form Ref → Bool
is_single (F.Total ss) = is_single_body ss
is_single (F.Partial alts) = are_single alts
is_single (F.Action alts) = are_single alts

-- the outcome of a step that leaves its procedure
abbrev pub outcome_by : End → Option Outcome
outcome_by (E.Call target method args partial) = None
outcome_by (E.Returned found) = Some O.Accepted
outcome_by E.RejectedPlain = Some O.Rejected
outcome_by E.Rejected = Some O.Rejected
outcome_by (E.Trapped t) = Some (O.Trapped t)
outcome_by E.Spent = Some O.Spent

-- the result of a step that leaves its procedure
abbrev pub result_by : End → Option ℤ
result_by (E.Call target method args partial) = None
result_by (E.Returned found) = found
result_by E.RejectedPlain = None
result_by E.Rejected = None
result_by (E.Trapped t) = None
result_by E.Spent = None

-- A step on a box is the whole run of a procedure: it has its outcome, its result and its variables, and
-- nothing else has changed.
pub record IsRun (s : Stepped) (box : ℕ) (before : State) (budget : ℕ) (called : Called) : Type 0 where
  pub outcome : outcome_by s.end ≡ Some called.outcome
  pub result : result_by s.end ≡ called.result
  pub variables : s.vars ≡ vars_of called.state box
  pub state : called.state ≡ with_vars before box s.vars
  pub free : s.budget ≡ budget
  pub called_free : called.budget ≡ budget

-- whether a precondition has the value false
abbrev pub is_false : Evaluated → Bool
is_false (Err t) = false
is_false (Ok v) = not (bool_of v)

-- whether every precondition is false
abbrev pub none_holds : List (Alternative Ref) → List Value → List Value → Bool
none_holds [] vars slots = true
none_holds (a ∷ alts) vars slots = is_false (value a.cond vars slots) && none_holds alts vars slots

-- whether a procedure rejects since no precondition holds
abbrev pub is_plainly_rejected : Form Ref → List Value → List Value → Bool
is_plainly_rejected (F.Total ss) vars slots = false
is_plainly_rejected (F.Partial alts) vars slots = none_holds alts vars slots
is_plainly_rejected (F.Action alts) vars slots = none_holds alts vars slots
