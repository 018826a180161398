-- A pass: a chain of method steps, each of which touches one box.
use Rattle.std.specs.Prelude.{ℕ, zero, suc, ◌-◌, ℤ, Bool, true, false, if◌then◌else◌, List, [], ◌∷◌, ◌++◌}
use Rattle.std.specs.Prelude.{length, take, slice_get, slice_set, slice_index_or, Option, None, Some}
use Rattle.seuss_base.specs.declared.outcome.Outcome.{Outcome}
use Rattle.seuss_base.specs.declared.outcome.Outcome.TheVariants as O
use Rattle.seuss_base.specs.declared.outcome.PassEnd.{PassEnd}
use Rattle.seuss_base.specs.declared.outcome.PassEnd.TheVariants as P
use Rattle.seuss_program.specs.declared.tree.Ref.TheVariants as R
use Rattle.seuss_program.specs.declared.program.Program.{Program}
use Rattle.seuss_program.specs.declared.program.ActionInfo.{ActionInfo}
use Rattle.seuss_program.specs.declared.state.Value.{Value}
use Rattle.seuss_program.specs.declared.state.Value.TheVariants as V
use Rattle.seuss_program.specs.declared.state.State.{State}
use Rattle.seuss_program.specs.Programs.{vars_of, target_of}
use Rattle.method_code.specs.declared.frame.Frame.{Frame}
use Rattle.method_code.specs.declared.frame.End.{End}
use Rattle.method_code.specs.declared.frame.End.TheVariants as E
use Rattle.method_code.specs.declared.activation.Waiting.{Waiting}
use Rattle.method_code.specs.declared.activation.Activation.{Activation}
use Rattle.method_code.specs.Codes.{number_of, compiled}
use Rattle.method_code.specs.Steps.{step, entry}

-- what comes after a step: the next one, or the end of the pass
pub data Turned : Type 0 where
  Next : Activation → Turned
  Over : PassEnd → Turned

-- the pass of an action at its beginning
abbrev pub begun : Program → ActionInfo → Activation
begun p action = record {
  box_number = action.box_number;
  frame = entry (compiled p) (number_of p action.box_number action.procedure) [];
  waiting = [];
  plain = false;
}

-- the pass of the action of this number at its beginning
abbrev pub beginning : Program → ℕ → Activation
beginning p action = begun p (slice_index_or p.actions action (record { box_number = 0; procedure = 0 }))

-- a call begins, on the box that the number of a given box stands for, and the caller waits
abbrev pub calling : Program → Activation → ℕ → ℕ → List Value → Bool → Activation
calling p a target method args partial =
    let box = target_of p a.box_number (R.Given target) in
    record {
      box_number = box;
      frame = entry (compiled p) (number_of p box method) args;
      waiting = a.waiting ++ record { box_number = a.box_number; frame = a.frame; partial = partial } ∷ [];
      plain = a.plain;
    }

-- A caller goes on after an accepted call: at the instruction that takes the result, which is then the
-- last slot; and after that instruction where there is no result.
abbrev pub after_accepted : Frame → Option ℤ → Frame
after_accepted frame None = frame
after_accepted frame (Some z) =
    record { method = frame.method; place = frame.place - 1; slots = frame.slots ++ V.Int z ∷ [] }

-- A caller goes on after a rejected call: it rejects too where that was its preprocedure. No total
-- call rejects.
abbrev pub after_rejected : Waiting → Frame
after_rejected w = record
    { method = w.frame.method; place = if w.partial then 1 else w.frame.place; slots = w.frame.slots }

-- the procedure that has waited last goes on
abbrev pub back_in : List Waiting → Bool → Waiting → Frame → Turned
back_in waiting plain w frame = Next
    (record { box_number = w.box_number; frame = frame; waiting = waiting; plain = plain })

-- the procedure that has waited last
abbrev pub last_of : List Waiting → Option Waiting
last_of waiting = slice_get waiting (length waiting - 1)

-- the procedures that wait, without the last one
abbrev pub all_but_last : List Waiting → List Waiting
all_but_last waiting = take (length waiting - 1) waiting

-- a call is accepted; where nothing waits for it, the pass is over
abbrev pub accepted : Activation → Option ℤ → Option Waiting → Turned
accepted a found None = Over P.Accepted
accepted a found (Some w) = back_in (all_but_last a.waiting) a.plain w (after_accepted w.frame found)

-- a call is rejected; where nothing waits for it, the pass is over
abbrev pub rejected : Activation → Bool → Option Waiting → Turned
rejected a plain None = Over (if plain then P.PlainRejected else P.Rejected)
rejected a plain (Some w) = back_in (all_but_last a.waiting) plain w (after_rejected w)

-- what comes after a step that has left this activation, by the end of the step
abbrev pub turned : Program → Activation → End → Turned
turned p a (E.Call target method args partial) = Next (calling p a target method args partial)
turned p a (E.Returned found) = accepted a found (last_of a.waiting)
turned p a E.RejectedPlain = rejected a true (last_of a.waiting)
turned p a E.Rejected = rejected a a.plain (last_of a.waiting)
turned p a (E.Trapped t) = Over (P.Trapped t)
turned p a E.Spent = Over P.Spent

-- the state with the variables of one box changed
abbrev pub with_vars : State → ℕ → List Value → State
with_vars state box vars = record { boxes = slice_set state.boxes box (record { values = vars }) }

-- what a pass leaves
pub record Passed : Type 0 where
  pub end : PassEnd
  pub state : State
  pub budget : ℕ

-- a pass goes on by a chain of steps, or is over
abbrev pub went_on : Turned → State → ℕ → (Activation → State → ℕ → Option Passed) → Option Passed
went_on (Next a) state budget chain = chain a state budget
went_on (Over end) state budget chain = Some (record { end = end; state = state; budget = budget })

-- A pass with nothing between its steps, where it is over after at most so many: each step is made on
-- the variables of its box.
abbrev pub chain : Program → ℕ → Activation → State → ℕ → Option Passed
chain p zero a state budget = None
chain p (suc steps) a state budget =
    let s = step (compiled p) a.frame budget (vars_of state a.box_number) in
    went_on (turned p (record a { frame = s.frame }) s.end) (with_vars state a.box_number s.vars) s.budget
    (chain p steps)

-- the outcome of a pass
abbrev pub outcome_of : PassEnd → Outcome
outcome_of P.Accepted = O.Accepted
outcome_of P.PlainRejected = O.Rejected
outcome_of P.Rejected = O.Rejected
outcome_of (P.Trapped t) = O.Trapped t
outcome_of P.Spent = O.Spent
