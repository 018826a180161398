-- What an attempt of a procedure does, and a run of attempts one after the other.
use Rattle.std.specs.Prelude.{ℕ, zero, suc, ℤ, pos, Bool, true, false, if◌then◌else◌, List, [], ◌∷◌, ◌++◌}
use Rattle.std.specs.Prelude.{length, slice_index_or, slice_get, Option, None, Some, Result, Ok, Err}
use Rattle.std.specs.List.{flat_map}
use Rattle.seuss_base.specs.declared.outcome.Trap.{Trap}
use Rattle.seuss_base.specs.declared.outcome.Outcome.{Outcome}
use Rattle.seuss_base.specs.declared.outcome.Outcome.TheVariants as O
use Rattle.seuss_program.specs.declared.tree.Ref.{Ref}
use Rattle.seuss_program.specs.declared.tree.Kind.{Kind}
use Rattle.seuss_program.specs.declared.tree.Kind.TheVariants as K
use Rattle.seuss_program.specs.declared.tree.Pre.{Pre}
use Rattle.seuss_program.specs.declared.tree.Proc.{Proc}
use Rattle.seuss_program.specs.declared.tree.Form.{Form}
use Rattle.seuss_program.specs.declared.tree.Form.TheVariants as F
use Rattle.seuss_program.specs.declared.tree.Alternative.{Alternative}
use Rattle.seuss_program.specs.declared.tree.Statement.{Statement, fold-Statement}
use Rattle.seuss_program.specs.declared.tree.Statement.TheOpen as S
use Rattle.seuss_program.specs.declared.tree.Statement.TheOpen.{Statement-F}
use Rattle.seuss_program.specs.declared.program.Program.{Program}
use Rattle.seuss_program.specs.declared.program.ActionInfo.{ActionInfo}
use Rattle.seuss_program.specs.declared.state.Value.{Value}
use Rattle.seuss_program.specs.declared.state.Value.TheVariants as V
use Rattle.seuss_program.specs.declared.state.State.{State}
use Rattle.seuss_program.specs.Values.{value, bool_of, int_of, Evaluated}
use Rattle.seuss_program.specs.Programs.{procedure_of, level_of, target_of, method_of, vars_of}
use Rattle.seuss_program.specs.Bodies.{Finish, Done, Trapped, Spent, Ran, Called, Callee, arguments, bound}
use Rattle.seuss_program.specs.Bodies.{body}

-- what a new local starts with
abbrev pub first_value : Kind → Value
first_value K.Int = V.Int (pos 0)
first_value K.Bool = V.Bool false
first_value K.Seq = V.Seq []

-- the locals that one statement declares, over those of the statements inside it
abbrev pub locals_step : Statement-F Ref (List Value) → List Value
locals_step (S.Let name kind e) = first_value kind ∷ []
locals_step (S.Assign name e) = []
locals_step (S.Call name call) = []
locals_step (S.If cond holds fails) = flat_map (λ vs. vs) holds ++ flat_map (λ vs. vs) fails
locals_step (S.While cond turn) = flat_map (λ vs. vs) turn

-- the locals that a statement declares, in the order of the text
unfoldable pub locals_of : Statement Ref → List Value
locals_of s = fold-Statement Ref (List Value) locals_step s

-- the local that a preprocedure's result is bound to
abbrev pub bound_local : Option (Pre Ref) → List Value
bound_local None = []
bound_local (Some pre) = name_local pre.bind
  where
    name_local : Option Ref → List Value
    name_local None = []
    name_local (Some name) = V.Int (pos 0) ∷ []

-- the locals of a procedure: of each alternative the bound one and those of its body, in the order of the
-- text
abbrev pub form_locals : Form Ref → List Value
form_locals (F.Total ss) = flat_map locals_of ss
form_locals (F.Partial alts) = flat_map
    (λ (a : Alternative Ref). bound_local a.pre ++ flat_map locals_of a.body) alts
form_locals (F.Action alts) = flat_map
    (λ (a : Alternative Ref). bound_local a.pre ++ flat_map locals_of a.body) alts

-- the slots at an entry: the arguments, the result where there is one, and the locals
abbrev pub entry_slots : Proc Ref → List Value → List Value
entry_slots q args = args ++ (if q.gives then V.Int (pos 0) ∷ [] else []) ++ form_locals q.form

-- the result of an accepted call
abbrev pub result_of : Proc Ref → List Value → Option ℤ
result_of q slots = if q.gives then Some (int_of (slice_index_or slots (length q.params) (V.Int (pos 0))))
    else None

-- a body is done: the call accepts, or after `~>` it rejects with the effects of the body
abbrev pub finished : Bool → Proc Ref → Finish → Ran → Called
finished true q Done ran = record
    { outcome = O.Accepted; result = result_of q ran.slots; state = ran.state; budget = ran.budget }
finished false q Done ran = record
    { outcome = O.Rejected; result = None; state = ran.state; budget = ran.budget }
finished positive q (Trapped t) ran = record
    { outcome = O.Trapped t; result = None; state = ran.state; budget = ran.budget }
finished positive q Spent ran = record
    { outcome = O.Spent; result = None; state = ran.state; budget = ran.budget }

-- the call ends without a result
abbrev pub ended : Outcome → State → ℕ → Called
ended outcome state budget = record { outcome = outcome; result = None; state = state; budget = budget }

module _ (p : Program) (callee : Callee) (box : ℕ) (q : Proc Ref) where
  -- the body of an alternative, after its preprocedure
  abbrev pub body_of : Alternative Ref → State → List Value → ℕ → Called
  body_of alt state slots budget = let ran = body p callee box alt.body state slots budget in
      finished alt.positive q ran.finish ran

  -- the preprocedure has ended: where it rejects, the caller rejects with the state that it left
  abbrev pub behind_pre : Alternative Ref → Option Ref → Outcome → Called → List Value → Called
  behind_pre alt name O.Accepted called slots =
      let ran = bound box name called.result called.state slots called.budget in
      body_of alt ran.state ran.slots ran.budget
  behind_pre alt name O.Rejected called slots = ended O.Rejected called.state called.budget
  behind_pre alt name (O.Trapped t) called slots = ended (O.Trapped t) called.state called.budget
  behind_pre alt name O.Spent called slots = ended O.Spent called.state called.budget

  -- a preprocedure is called with its arguments, at no cost
  abbrev pub pre_called : Alternative Ref → Pre Ref → Result (List Value) Trap → State → List Value → ℕ →
      Called
  pre_called alt pre (Err t) state slots budget = ended (O.Trapped t) state budget
  pre_called alt pre (Ok args) state slots budget =
      let called = callee (target_of p box pre.call.target) (method_of pre.call.method) args state budget in
      behind_pre alt pre.bind called.outcome called slots

  -- the chosen alternative
  abbrev pub chosen : Alternative Ref → Option (Pre Ref) → State → List Value → ℕ → Called
  chosen alt None state slots budget = body_of alt state slots budget
  chosen alt (Some pre) state slots budget =
      pre_called alt pre (arguments pre.call.args (vars_of state box) slots) state slots budget

  -- an alternative is chosen where its precondition holds, and else the next ones are tried
  abbrev pub judged : Evaluated → Alternative Ref → Called → State → List Value → ℕ → Called
  judged (Err t) alt others state slots budget = ended (O.Trapped t) state budget
  judged (Ok v) alt others state slots budget = if bool_of v then chosen alt alt.pre state slots budget else
      others

  -- The first alternative in the order of the text whose precondition holds is chosen. Where none
  -- holds, the call rejects and changes nothing.
  abbrev pub choice : List (Alternative Ref) → State → List Value → ℕ → Called
  choice [] state slots budget = ended O.Rejected state budget
  choice (alt ∷ alts) state slots budget =
      judged (value alt.cond (vars_of state box) slots) alt (choice alts state slots budget) state slots
      budget

  -- what a procedure does from its entry
  abbrev pub performed : Form Ref → State → List Value → ℕ → Called
  performed (F.Total ss) state slots budget = let ran = body p callee box ss state slots budget in
      finished true q ran.finish ran
  performed (F.Partial alts) state slots budget = choice alts state slots budget
  performed (F.Action alts) state slots budget = choice alts state slots budget

-- an attempt of a procedure, where there is one
abbrev pub attempt_of : Program → Callee → ℕ → Option (Proc Ref) → List Value → State → ℕ → Called
attempt_of p callee box None args state budget = ended O.Rejected state budget
attempt_of p callee box (Some q) args state budget =
    performed p callee box q q.form state (entry_slots q args) budget

-- An attempt of a procedure of a box, in which calls stand at most this deep in one another.
abbrev pub attempt : Program → ℕ → Callee
attempt p zero box number args state budget = ended O.Rejected state budget
attempt p (suc depth) box number args state budget =
    attempt_of p (attempt p depth) box (procedure_of p box number) args state budget

-- an attempt of an action: calls go strictly downward, so they go no deeper than the level of its box
abbrev pub action_attempt : Program → Option ActionInfo → State → ℕ → Called
action_attempt p None state budget = ended O.Rejected state budget
action_attempt p (Some a) state budget = attempt p (suc (level_of p a.box_number)) a.box_number a.procedure
    [] state budget

-- the outcomes of attempts one after the other, and the state after all of them
pub record TightRun : Type 0 where
  pub outcomes : List Outcome
  pub state : State

-- Attempts of these actions one after the other, each with the whole budget, from a state.
abbrev pub tight : Program → List ℕ → State → ℕ → TightRun
tight p [] state budget = record { outcomes = []; state = state }
tight p (a ∷ actions) state budget =
    let called = action_attempt p (slice_get p.actions a) state budget in
    let rest = tight p actions called.state budget in
    record { outcomes = called.outcome ∷ rest.outcomes; state = rest.state }
