-- A method step: the run of one procedure's own instructions, from its entry or from the return of a
-- call, up to its next call, its return, its rejection, a trap or the end of the budget.
use Rattle.std.specs.Prelude.{ℕ, zero, suc, ◌+◌, ◌-◌, ℤ, pos, true, false, if◌then◌else◌, List, [], ◌∷◌}
use Rattle.std.specs.Prelude.{◌++◌, length, take, drop, slice_get, slice_set, slice_index_or, Option, None}
use Rattle.std.specs.Prelude.{Some, Result, Ok, Err}
use Rattle.seuss_base.specs.declared.outcome.Trap.{Trap}
use Rattle.seuss_program.specs.declared.tree.Ref.{Ref}
use Rattle.seuss_program.specs.declared.tree.Ref.TheVariants as R
use Rattle.seuss_program.specs.declared.state.Value.{Value}
use Rattle.seuss_program.specs.declared.state.Value.TheVariants as V
use Rattle.seuss_program.specs.Values.{Evaluated, value, bool_of, int_of}
use Rattle.seuss_program.specs.Bodies.{arguments}
use Rattle.method_code.specs.declared.instruction.CallCode.{CallCode}
use Rattle.method_code.specs.declared.instruction.Instruction.{Instruction}
use Rattle.method_code.specs.declared.instruction.Instruction.TheVariants as I
use Rattle.method_code.specs.declared.instruction.Move.{Move}
use Rattle.method_code.specs.declared.instruction.Move.TheVariants as M
use Rattle.method_code.specs.declared.method.Method.{Method}
use Rattle.method_code.specs.declared.method.Entry.{Entry}
use Rattle.method_code.specs.declared.method.Entry.TheVariants as N
use Rattle.method_code.specs.declared.method.Head.{Head}
use Rattle.method_code.specs.declared.frame.Frame.{Frame}
use Rattle.method_code.specs.declared.frame.End.{End}
use Rattle.method_code.specs.declared.frame.End.TheVariants as E

-- what one instruction leaves, and what comes after it
pub record Acted : Type 0 where
  pub vars : List Value
  pub slots : List Value
  pub move : Move

-- an instruction leaves these variables and these slots, and this comes after it
abbrev pub acts : List Value → List Value → Move → Acted
acts vars slots move = record { vars = vars; slots = slots; move = move }

-- a name takes a value: a variable of the box, or a slot
abbrev pub put : Ref → Value → List Value → List Value → Acted
put (R.Var at) v vars slots = acts (slice_set vars at v) slots (M.On 0)
put (R.Slot at) v vars slots = acts vars (slice_set slots at v) (M.On 0)
put (R.Given at) v vars slots = acts vars slots (M.On 0)
put (R.Method at) v vars slots = acts vars slots (M.On 0)
put (R.Cat at) v vars slots = acts vars slots (M.On 0)

-- a name takes the value of an expression, or the step traps
abbrev pub put_value : Ref → Evaluated → List Value → List Value → Acted
put_value name (Err t) vars slots = acts vars slots (M.Trap t)
put_value name (Ok v) vars slots = put name v vars slots

-- the last slot, as a number
abbrev pub last_number : List Value → ℤ
last_number slots = int_of (slice_index_or slots (length slots - 1) (V.Int (pos 0)))

-- the slots without the last one
abbrev pub all_but_last : List Value → List Value
all_but_last slots = take (length slots - 1) slots

-- the last slot is taken off, into a name where there is one
abbrev pub taken : Option Ref → List Value → List Value → Acted
taken None vars slots = acts vars (all_but_last slots) (M.On 0)
taken (Some name) vars slots = put name (V.Int (last_number slots)) vars (all_but_last slots)

-- one of two ways on, by a condition
abbrev pub decided : Evaluated → Move → Move → Move
decided (Err t) holds fails = M.Trap t
decided (Ok v) holds fails = if bool_of v then holds else fails

-- a call whose arguments were evaluated
abbrev pub called_with : CallCode → Result (List Value) Trap → Move
called_with call (Err t) = M.Trap t
called_with call (Ok args) = M.Call call.target call.method args

-- what one instruction does
abbrev pub acted : Instruction → List Value → List Value → Acted
acted (I.Set name e) vars slots = put_value name (value e vars slots) vars slots
acted (I.SkipUnless cond many) vars slots = acts vars slots
    (decided (value cond vars slots) (M.On 0) (M.On many))
acted (I.Skip many) vars slots = acts vars slots (M.On many)
acted (I.Again cond many) vars slots = acts vars slots
    (decided (value cond vars slots) (M.Back many) (M.On 0))
acted (I.Call call) vars slots = acts vars slots (called_with call (arguments call.args vars slots))
acted (I.Take name) vars slots = taken name vars slots
acted I.Return vars slots = acts vars slots M.Return
acted I.Reject vars slots = acts vars slots M.Reject

-- where the instructions from a place on halt: at the first one that doesn't go on to a later one
pub record Halted : Type 0 where
  pub at : ℕ
  pub vars : List Value
  pub slots : List Value
  pub move : Move

-- an instruction halts at this place
abbrev pub halts : ℕ → Acted → Halted
halts at a = record { at = at; vars = a.vars; slots = a.slots; move = a.move }

-- goes on after an instruction that goes on to a later one, and else halts at it
abbrev pub walked : Move → ℕ → Acted → (ℕ → List Value → List Value → Halted) → Halted
walked (M.On many) at a next = next many a.vars a.slots
walked (M.Back many) at a next = halts at a
walked (M.Call target method args) at a next = halts at a
walked M.Return at a next = halts at a
walked M.Reject at a next = halts at a
walked (M.Trap t) at a next = halts at a

-- The instructions from a place on, of which so many are passed over first. After the last one it
-- rejects, which no compiled code comes to.
abbrev pub walk : List Instruction → ℕ → ℕ → List Value → List Value → Halted
walk [] at skip vars slots = halts (at + skip) (acts vars slots M.Reject)
walk (i ∷ is) at (suc skip) vars slots = walk is (suc at) skip vars slots
walk (i ∷ is) at zero vars slots = walked (acted i vars slots).move at (acted i vars slots)
    (walk is (suc at))

-- what a step leaves: the variables of the box, the frame and the budget after it, and its end
pub record Stepped : Type 0 where
  pub vars : List Value
  pub frame : Frame
  pub budget : ℕ
  pub end : End

-- a step that leaves its procedure
abbrev pub leaves : ℕ → ℕ → List Value → End → Stepped
leaves method budget vars end =
    record {
      vars = vars;
      frame = record { method = method; place = 0; slots = [] };
      budget = budget;
      end =
          end;
    }

-- A step that calls. Its procedure waits after the instruction that takes the result.
abbrev pub waits : ℕ → ℕ → ℕ → List Value → List Value → End → Stepped
waits method start budget vars slots end =
    record {
      vars = vars;
      frame = record { method = method; place = start + 2; slots = slots };
      budget =
          budget;
      end = end;
    }

-- a call that is to be paid for
abbrev pub paid : ℕ → ℕ → ℕ → List Value → List Value → End → Stepped
paid method zero at vars slots end = leaves method 0 vars E.Spent
paid method (suc budget) at vars slots end = waits method (at + 1) budget vars slots end

-- the result of a procedure that has one, from its slot
abbrev pub result_in : Option ℕ → List Value → Option ℤ
result_in None slots = None
result_in (Some at) slots = Some (int_of (slice_index_or slots at (V.Int (pos 0))))

-- the instructions have halted: the step ends, or one more turn of a loop is made
abbrev pub settled : Method → ℕ → ℕ → (ℕ → List Value → List Value → Stepped) → Halted → Move → Stepped
settled m method budget turn h (M.On many) = leaves method budget h.vars E.Rejected
settled m method budget turn h (M.Back many) = turn (h.at - many) h.vars h.slots
settled m method budget turn h (M.Call target called args) =
    paid method budget h.at h.vars h.slots (E.Call target called args false)
settled m method budget turn h M.Return = leaves method budget h.vars
    (E.Returned (result_in m.result h.slots))
settled m method budget turn h M.Reject = leaves method budget h.vars E.Rejected
settled m method budget turn h (M.Trap t) = leaves method budget h.vars (E.Trapped t)

-- a step that begins at an instruction
abbrev pub runs : Method → ℕ → ℕ → ℕ → List Value → List Value → Stepped
runs m method zero at vars slots =
    let h = walk (drop at m.instructions) at 0 vars slots in
    settled m method 0 (λ to vs ss. leaves method 0 vs E.Spent) h h.move
runs m method (suc budget) at vars slots =
    let h = walk (drop at m.instructions) at 0 vars slots in
    settled m method (suc budget) (runs m method budget) h h.move

-- the first alternative whose precondition holds
abbrev pub judged_head : Evaluated → Head → Result (Option Head) Trap → Result (Option Head) Trap
judged_head (Err t) head others = Err t
judged_head (Ok v) head others = if bool_of v then Ok (Some head) else others

-- the first alternative whose precondition holds, where there is one
abbrev pub chosen_head : List Head → List Value → List Value → Result (Option Head) Trap
chosen_head [] vars slots = Ok None
chosen_head (head ∷ others) vars slots = judged_head (value head.cond vars slots) head
    (chosen_head others vars slots)

-- the call of a preprocedure, which costs nothing
abbrev pub called_early : ℕ → ℕ → ℕ → CallCode → Result (List Value) Trap → List Value → List Value → Stepped
called_early method start budget call (Err t) vars slots = leaves method budget vars (E.Trapped t)
called_early method start budget call (Ok args) vars slots =
    waits method start budget vars slots (E.Call call.target call.method args true)

-- the chosen alternative begins
abbrev pub begun : Method → ℕ → ℕ → ℕ → Option CallCode → List Value → List Value → Stepped
begun m method budget start None vars slots = runs m method budget start vars slots
begun m method budget start (Some call) vars slots =
    called_early method start budget call (arguments call.args vars slots) vars slots

-- a procedure that may reject begins
abbrev pub chosen : Method → ℕ → ℕ → Result (Option Head) Trap → List Value → List Value → Stepped
chosen m method budget (Err t) vars slots = leaves method budget vars (E.Trapped t)
chosen m method budget (Ok None) vars slots = leaves method budget vars E.RejectedPlain
chosen m method budget (Ok (Some head)) vars slots = begun m method budget head.start head.early vars slots

-- a procedure begins: with its body, or with the choice of an alternative
abbrev pub entered : Method → ℕ → ℕ → Entry → List Value → List Value → Stepped
entered m method budget N.Total vars slots = runs m method budget 0 vars slots
entered m method budget (N.Partial heads) vars slots =
    chosen m method budget (chosen_head heads vars slots) vars slots

-- a step from a place: the entry, or an instruction
abbrev pub from_place : Method → ℕ → ℕ → ℕ → List Value → List Value → Stepped
from_place m method budget zero vars slots = entered m method budget m.entry vars slots
from_place m method budget (suc at) vars slots = runs m method budget at vars slots

-- a method step, by the code of all procedures; where there is no such procedure, it rejects
abbrev pub step_in : Option Method → Frame → ℕ → List Value → Stepped
step_in None frame budget vars = leaves frame.method budget vars E.Rejected
step_in (Some m) frame budget vars = from_place m frame.method budget frame.place vars frame.slots

-- A method step, by the code of all procedures. Where there is no such procedure, it rejects.
abbrev pub step : List Method → Frame → ℕ → List Value → Stepped
step code frame budget vars = step_in (slice_get code frame.method) frame budget vars

-- the slots of a procedure after its arguments, as they are at its entry; one that isn't there has none
abbrev pub locals_in : Option Method → List Value
locals_in None = []
locals_in (Some m) = m.locals

-- the frame at the entry of a procedure, with these arguments
abbrev pub entry : List Method → ℕ → List Value → Frame
entry code method args = record
    { method = method; place = 0; slots = args ++ locals_in (slice_get code method) }
