-- The kinds of method steps, and the steps of a pass between which others may change the variables.
use Rattle.std.specs.Prelude.{◌≡◌, ℕ, Bool, true, false, ◌||◌, not, ◌==◌, List, [], ◌∷◌, ◌++◌, map}
use Rattle.std.specs.Prelude.{replicate, slice_get, Option, None, Some, IsTrue}
use Rattle.seuss_base.specs.declared.outcome.PassEnd.{PassEnd}
use Rattle.seuss_base.specs.declared.outcome.PassEnd.TheVariants as P
use Rattle.seuss_program.specs.declared.tree.Proc.{Proc}
use Rattle.seuss_program.specs.declared.tree.Ref.{Ref}
use Rattle.seuss_program.specs.declared.program.Program.{Program}
use Rattle.seuss_program.specs.declared.program.ActionInfo.{ActionInfo}
use Rattle.seuss_program.specs.declared.state.Value.{Value}
use Rattle.seuss_program.specs.Programs.{procedure_of}
use Rattle.seuss_program.specs.Keeping.{is_action}
use Rattle.method_code.specs.declared.method.Method.{Method}
use Rattle.method_code.specs.declared.method.Entry.{Entry}
use Rattle.method_code.specs.declared.method.Entry.TheVariants as N
use Rattle.method_code.specs.declared.frame.Frame.{Frame}
use Rattle.method_code.specs.declared.frame.End.{End}
use Rattle.method_code.specs.declared.frame.End.TheVariants as E
use Rattle.method_code.specs.declared.activation.Activation.{Activation}
use Rattle.method_code.specs.Codes.{compiled}
use Rattle.method_code.specs.Steps.{Stepped, step}
use Rattle.method_code.specs.Chains.{Turned, Next, Over, turned}

-- the three kinds of steps
pub data Kind : Type 0 where
  Early : Kind
  Commit : Kind
  Late : Kind

-- whether an entry is that of a total method
abbrev pub begins_total : Entry → Bool
begins_total N.Total = true
begins_total (N.Partial heads) = false

-- whether a procedure is there and total
abbrev pub is_total : Option Method → Bool
is_total None = false
is_total (Some m) = begins_total m.entry

-- a step is late where it begins at a place of a total method, or at a place that isn't an entry
abbrev pub is_late : List Method → Frame → Bool
is_late code frame = not (frame.place == 0) || is_total (slice_get code frame.method)

-- whether a step ends by the call of a preprocedure
abbrev pub calls_early : End → Bool
calls_early (E.Call target method args partial) = partial
calls_early (E.Returned found) = false
calls_early E.RejectedPlain = false
calls_early E.Rejected = false
calls_early (E.Trapped t) = false
calls_early E.Spent = false

-- a step that isn't late is early where it ends by the call of a preprocedure, and else a commit step
abbrev pub kind_by : Bool → Bool → Kind
kind_by true early = Late
kind_by false true = Early
kind_by false false = Commit

-- the kind of a step: late, early or commit
abbrev pub kind_of : List Method → Frame → End → Kind
kind_of code frame end = kind_by (is_late code frame) (calls_early end)

-- a step of a pass: where it begins, what it finds, and what it leaves
pub record Made : Type 0 where
  pub box : ℕ
  pub frame : Frame
  pub budget : ℕ
  pub vars : List Value
  pub stepped : Stepped

-- the steps of a pass that goes on; one that is over has none left
abbrev pub steps_on : Turned → ℕ → (Activation → ℕ → List Made) → List Made
steps_on (Next a) budget steps = steps a budget
steps_on (Over end) budget steps = []

-- the steps of a pass, each of which finds the next of these variables in its box
abbrev pub steps_made : Program → List (List Value) → Activation → ℕ → List Made
steps_made p [] a budget = []
steps_made p (vars ∷ row) a budget =
    let s = step (compiled p) a.frame budget vars in
    record { box = a.box_number; frame = a.frame; budget = budget; vars = vars; stepped = s }
    ∷ steps_on (turned p (record a { frame = s.frame }) s.end) s.budget (steps_made p row)

-- the end of a pass, which goes on or is over
abbrev pub end_on : Turned → ℕ → (Activation → ℕ → Option PassEnd) → Option PassEnd
end_on (Next a) budget ends = ends a budget
end_on (Over end) budget ends = Some end

-- the end of such a pass, where it is over after these steps
abbrev pub pass_end : Program → List (List Value) → Activation → ℕ → Option PassEnd
pass_end p [] a budget = None
pass_end p (vars ∷ row) a budget =
    let s = step (compiled p) a.frame budget vars in
    end_on (turned p (record a { frame = s.frame }) s.end) s.budget (pass_end p row)

-- an action of its box
pub record IsAction (p : Program) (a : ActionInfo) : Type 0 where
  pub procedure : Proc Ref
  pub there : procedure_of p a.box_number a.procedure ≡ Some procedure
  pub form : IsTrue (is_action procedure.form)

-- the kinds of steps that were made
abbrev pub kinds_of : List Method → List Made → List Kind
kinds_of code steps = map (λ (s : Made). kind_of code s.frame s.stepped.end) steps

-- one commit step, with early ones before it and late ones after it
abbrev pub IsInOrder : List Kind → Type 0
IsInOrder kinds = (early late : ℕ) × (kinds ≡ replicate early Early ++ Commit ∷ replicate late Late)

-- whether a step ended by a plain rejection
abbrev pub rejects_plainly : End → Bool
rejects_plainly (E.Call target method args partial) = false
rejects_plainly (E.Returned found) = false
rejects_plainly E.RejectedPlain = true
rejects_plainly E.Rejected = false
rejects_plainly (E.Trapped t) = false
rejects_plainly E.Spent = false

-- whether a pass ended by a plain rejection
abbrev pub is_plain : PassEnd → Bool
is_plain P.Accepted = false
is_plain P.PlainRejected = true
is_plain P.Rejected = false
is_plain (P.Trapped t) = false
is_plain P.Spent = false

-- each step leaves the variables that it found
abbrev pub AllIdle : List Made → Type 0
AllIdle [] = Unit {0}
AllIdle (s ∷ steps) = (s.stepped.vars ≡ s.vars) × AllIdle steps

-- A step that isn't late and only reads: it leaves the variables and the budget that it found, and a
-- procedure that waits after it keeps its slots.
pub record OnlyReads (code : List Method) (frame : Frame) (budget : ℕ) (vars : List Value) (s : Stepped) :
    Type 0 where
  pub fresh : is_late code frame ≡ false
  pub variables : s.vars ≡ vars
  pub free : s.budget ≡ budget
  pub slots : calls_early s.end ≡ true → s.frame.slots ≡ frame.slots
