-- The frames of a program's code, and what a step from one of them leaves.
use Rattle.std.specs.Prelude.{◌≡◌, ℕ, ◌+◌, Bool, true, false, not, List, [], ◌∷◌, ◌++◌, slice_get}
use Rattle.std.specs.Prelude.{Option, Some, IsTrue, IfSome}
use Rattle.seuss_program.specs.declared.tree.Ref.{Ref}
use Rattle.seuss_program.specs.declared.tree.Ref.TheVariants as R
use Rattle.seuss_program.specs.declared.tree.Kind.TheVariants as K
use Rattle.seuss_program.specs.declared.tree.Proc.{Proc}
use Rattle.seuss_program.specs.declared.program.Program.{Program}
use Rattle.seuss_program.specs.declared.state.Value.{Value}
use Rattle.seuss_program.specs.Programs.{cat_of, procedure_of, target_of}
use Rattle.seuss_program.specs.Values.{fits}
use Rattle.seuss_program.specs.Keeping.{AreOf, vars_in, slot_kinds, param_kinds, is_total}
use Rattle.method_code.specs.declared.instruction.Instruction.TheVariants as I
use Rattle.method_code.specs.declared.frame.Frame.{Frame}
use Rattle.method_code.specs.declared.frame.End.{End}
use Rattle.method_code.specs.declared.frame.End.TheVariants as E
use Rattle.method_code.specs.Codes.{form_code, number_of}
use Rattle.method_code.specs.Steps.{Stepped}

-- variables of a box: a value of its kind for each variable of its cat; every number has 64 bits
abbrev pub HasVars : Program → ℕ → List Value → Type 0
HasVars p box vars = AreOf vars (vars_in (cat_of p box))

-- slots of a procedure, of the kinds that it declares
abbrev pub HasSlots : Proc Ref → List Value → Type 0
HasSlots q slots = AreOf slots (slot_kinds q)

-- slots of a procedure, with the result of a call as one more
abbrev pub HasResult : Proc Ref → List Value → Type 0
HasResult q slots = AreOf slots (slot_kinds q ++ K.Int ∷ [])

-- an instruction of a procedure that takes the result of a call
abbrev pub TakesAt : Proc Ref → ℕ → Type 0
TakesAt q at = (name : Option Ref) × (slice_get (form_code q.form) at ≡ Some (I.Take name))

-- A place of a procedure at which a step begins: its entry; where a preprocedure rejected; the return of a
-- call with a result, which is the last slot; and the return without one, or of a call that hasn't ended.
pub data IsPlace (q : Proc Ref) (place : ℕ) (slots : List Value) : Type 0 where
  Entry : place ≡ 0 → HasSlots q slots → IsPlace q place slots
  Rejection : place ≡ 1 → is_total q.form ≡ false → HasSlots q slots → IsPlace q place slots
  Result : (at : ℕ) → place ≡ at + 1 → TakesAt q at → HasResult q slots → IsPlace q place slots
  Return : (at : ℕ) → place ≡ at + 2 → TakesAt q at → HasSlots q slots → IsPlace q place slots

-- a frame of a procedure of a box
pub record IsFrame (p : Program) (box : ℕ) (frame : Frame) : Type 0 where
  pub number : ℕ
  pub procedure : Proc Ref
  pub there : procedure_of p box number ≡ Some procedure
  pub method : frame.method ≡ number_of p box number
  pub place : IsPlace procedure frame.place frame.slots

-- A frame of a procedure of a box that waits for a call, at the return place. Only a procedure that may
-- reject waits for a preprocedure.
pub record IsWaiting (p : Program) (box number : ℕ) (frame : Frame) (partial : Bool) : Type 0 where
  pub procedure : Proc Ref
  pub there : procedure_of p box number ≡ Some procedure
  pub method : frame.method ≡ number_of p box number
  pub at : ℕ
  pub place : frame.place ≡ at + 2
  pub takes : TakesAt procedure at
  pub slots : HasSlots procedure frame.slots
  pub early : partial ≡ true → is_total procedure.form ≡ false

-- A call of a procedure of a box, with arguments for its parameters: a total one unless it is that of a
-- preprocedure.
pub record IsCall (p : Program) (box number : ℕ) (given : List Value) (partial : Bool) : Type 0 where
  pub procedure : Proc Ref
  pub there : procedure_of p box number ≡ Some procedure
  pub form : is_total procedure.form ≡ not partial
  pub args : AreOf given (param_kinds procedure.params)

-- The end of a step of a procedure: at a call the procedure waits, and a returned number has 64 bits.
abbrev pub FitsEnd : Program → ℕ → ℕ → Frame → End → Type 0
FitsEnd p box number frame (E.Call target method args partial) =
    IsWaiting p box number frame partial × IsCall p (target_of p box (R.Given target)) method args partial
FitsEnd p box number frame (E.Returned found) = IfSome found (λ z. IsTrue (fits z))
FitsEnd p box number frame E.RejectedPlain = Unit {0}
FitsEnd p box number frame E.Rejected = Unit {0}
FitsEnd p box number frame (E.Trapped t) = Unit {0}
FitsEnd p box number frame E.Spent = Unit {0}

-- what a step of a procedure of a box leaves: variables of the box, and an end that fits
pub record FitsStep (p : Program) (box number : ℕ) (s : Stepped) : Type 0 where
  pub vars : HasVars p box s.vars
  pub end : FitsEnd p box number s.frame s.end
