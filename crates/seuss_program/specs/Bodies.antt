-- What the statements of a body do: to the state of the program, to the slots of the procedure and to
-- the budget. A turn of a loop costs 1, after its condition was true; a call costs 1, after its
-- arguments were evaluated. Where a cost comes at budget 0, the attempt is spent.
use Rattle.std.specs.Prelude.{ℕ, zero, suc, ℤ, if◌then◌else◌, List, [], ◌∷◌, ◌++◌, slice_set, Option, None}
use Rattle.std.specs.Prelude.{Some, Result, Ok, Err}
use Rattle.seuss_base.specs.declared.outcome.Trap.{Trap}
use Rattle.seuss_base.specs.declared.outcome.Outcome.{Outcome}
use Rattle.seuss_base.specs.declared.outcome.Outcome.TheVariants as O
use Rattle.seuss_program.specs.declared.tree.Ref.{Ref}
use Rattle.seuss_program.specs.declared.tree.Ref.TheVariants as R
use Rattle.seuss_program.specs.declared.tree.Expr.{Expr}
use Rattle.seuss_program.specs.declared.tree.Call.{Call}
use Rattle.seuss_program.specs.declared.tree.Statement.{Statement, fold-Statement}
use Rattle.seuss_program.specs.declared.tree.Statement.TheOpen as S
use Rattle.seuss_program.specs.declared.tree.Statement.TheOpen.{Statement-F}
use Rattle.seuss_program.specs.declared.program.Program.{Program}
use Rattle.seuss_program.specs.declared.state.Value.{Value}
use Rattle.seuss_program.specs.declared.state.Value.TheVariants as V
use Rattle.seuss_program.specs.declared.state.State.{State}
use Rattle.seuss_program.specs.Values.{value, bool_of, Evaluated}
use Rattle.seuss_program.specs.Programs.{vars_of, with_var, target_of, method_of}

-- how the run of a body ends
pub data Finish : Type 0 where
  Done : Finish
  Trapped : Trap → Finish
  Spent : Finish

-- what the run of a body leaves
pub record Ran : Type 0 where
  pub state : State
  pub slots : List Value
  pub budget : ℕ
  pub finish : Finish

-- what a call leaves
pub record Called : Type 0 where
  pub outcome : Outcome
  pub result : Option ℤ
  pub state : State
  pub budget : ℕ

-- what statements do on a box, from a state, with slots and a budget
abbrev pub Meaning : Type 0
Meaning = State → List Value → ℕ → Ran

-- what a call does: the box, the method, the arguments, the state and the budget
abbrev pub Callee : Type 0
Callee = ℕ → ℕ → List Value → State → ℕ → Called

-- goes on where the run before is done, and else ends as it did
abbrev pub resumed : Finish → Ran → Meaning → Ran
resumed Done ran next = next ran.state ran.slots ran.budget
resumed (Trapped t) ran next = ran
resumed Spent ran next = ran

-- statements one after the other
abbrev pub in_turn : List Meaning → Meaning
in_turn [] state slots budget = record { state = state; slots = slots; budget = budget; finish = Done }
in_turn (m ∷ ms) state slots budget = let ran = m state slots budget in resumed ran.finish ran (in_turn ms)

-- one more argument, and those after it
abbrev pub argument_then : Evaluated → List Value → (List Value → Result (List Value) Trap) →
    Result (List Value) Trap
argument_then (Err t) values next = Err t
argument_then (Ok v) values next = next (values ++ v ∷ [])

-- the values of arguments, from left to right, after those that stand already
abbrev pub arguments_after : List Value → List (Expr Ref) → List Value → List Value →
    Result (List Value) Trap
arguments_after values [] vars slots = Ok values
arguments_after values (e ∷ es) vars slots =
    argument_then (value e vars slots) values (λ more. arguments_after more es vars slots)

-- the values of arguments, from left to right, or the first trap
abbrev pub arguments : List (Expr Ref) → List Value → List Value → Result (List Value) Trap
arguments es vars slots = arguments_after [] es vars slots

-- one of two branches, by the value of the condition
abbrev pub branched : Evaluated → Meaning → Meaning → Meaning
branched (Err t) holds fails state slots budget =
    record { state = state; slots = slots; budget = budget; finish = Trapped t }
branched (Ok v) holds fails state slots budget = if bool_of v then holds state slots budget else fails state
    slots budget

-- nothing more to do
abbrev pub stay : Meaning
stay state slots budget = record { state = state; slots = slots; budget = budget; finish = Done }

-- the budget is used up
abbrev pub spend : Meaning
spend state slots budget = record { state = state; slots = slots; budget = budget; finish = Spent }

-- a turn of a loop that is paid for, and the turns after it
abbrev pub paid_turn : Meaning → Meaning → Meaning
paid_turn turn next state slots zero = spend state slots 0
paid_turn turn next state slots (suc left) = let ran = turn state slots left in resumed ran.finish ran next

module _ (box : ℕ) where
  -- a name takes a value: a variable of the box, or a slot
  abbrev pub assigned : Ref → Value → Meaning
  assigned (R.Var at) v state slots budget = record
      { state = with_var state box at v; slots = slots; budget = budget; finish = Done }
  assigned (R.Slot at) v state slots budget = record
      { state = state; slots = slice_set slots at v; budget = budget; finish = Done }
  assigned (R.Given at) v state slots budget = record
      { state = state; slots = slots; budget = budget; finish = Done }
  assigned (R.Method at) v state slots budget = record
      { state = state; slots = slots; budget = budget; finish = Done }
  assigned (R.Cat at) v state slots budget = record
      { state = state; slots = slots; budget = budget; finish = Done }

  -- a name takes the value of an expression
  abbrev pub evaluated_into : Ref → Evaluated → Meaning
  evaluated_into name (Err t) state slots budget =
      record { state = state; slots = slots; budget = budget; finish = Trapped t }
  evaluated_into name (Ok v) state slots budget = assigned name v state slots budget

  -- a name, where there is one, takes the result of a call, where it has one
  abbrev pub bound : Option Ref → Option ℤ → Meaning
  bound (Some name) (Some z) state slots budget = assigned name (V.Int z) state slots budget
  bound (Some name) None state slots budget = record
      { state = state; slots = slots; budget = budget; finish = Done }
  bound None result state slots budget = record
      { state = state; slots = slots; budget = budget; finish = Done }

  -- A loop, with at most this many turns. It has no more turns than its budget, since each costs 1.
  abbrev pub looped : ℕ → Expr Ref → Meaning → Meaning
  looped zero cond turn state slots budget = branched (value cond (vars_of state box) slots) spend stay
      state slots budget
  looped (suc turns) cond turn state slots budget =
      branched (value cond (vars_of state box) slots) (paid_turn turn (looped turns cond turn)) stay state
      slots budget

module _ (p : Program) (callee : Callee) (box : ℕ) where
  -- a body goes on after a call, unless that ended the attempt
  abbrev pub returned : Outcome → Option Ref → Called → List Value → Ran
  returned O.Accepted name called slots = bound box name called.result called.state slots called.budget
  returned O.Rejected name called slots = bound box name called.result called.state slots called.budget
  returned (O.Trapped t) name called slots = record
      { state = called.state; slots = slots; budget = called.budget; finish = Trapped t }
  returned O.Spent name called slots = record
      { state = called.state; slots = slots; budget = called.budget; finish = Spent }

  -- a call that is paid for
  abbrev pub paid_call : Option Ref → ℕ → ℕ → List Value → State → List Value → ℕ → Ran
  paid_call name target method args state slots zero =
      record { state = state; slots = slots; budget = 0; finish = Spent }
  paid_call name target method args state slots (suc left) =
      let called = callee target method args state left in returned called.outcome name called slots

  -- a call whose arguments were evaluated
  abbrev pub call_with : Option Ref → Call Ref → Result (List Value) Trap → Meaning
  call_with name call (Err t) state slots budget =
      record { state = state; slots = slots; budget = budget; finish = Trapped t }
  call_with name call (Ok args) state slots budget =
      paid_call name (target_of p box call.target) (method_of call.method) args state slots budget

  -- what one statement does, by what its parts do
  abbrev pub statement_step : Statement-F Ref Meaning → Meaning
  statement_step (S.Let name kind e) state slots budget =
      evaluated_into box name (value e (vars_of state box) slots) state slots budget
  statement_step (S.Assign name e) state slots budget =
      evaluated_into box name (value e (vars_of state box) slots) state slots budget
  statement_step (S.Call name call) state slots budget =
      call_with name call (arguments call.args (vars_of state box) slots) state slots budget
  statement_step (S.If cond holds fails) state slots budget =
      branched (value cond (vars_of state box) slots) (in_turn holds) (in_turn fails) state slots budget
  statement_step (S.While cond turn) state slots budget =
      looped box budget cond (in_turn turn) state slots budget

  -- what a statement does
  unfoldable pub statement : Statement Ref → Meaning
  statement s = fold-Statement Ref Meaning statement_step s

  -- what a body does
  abbrev pub body : List (Statement Ref) → Meaning
  body [] state slots budget = stay state slots budget
  body (s ∷ ss) state slots budget = let ran = statement s state slots budget in
      resumed ran.finish ran (body ss)
