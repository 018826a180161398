-- What the code of a procedure calls, beside what its text calls.
use Rattle.std.specs.Prelude.{◌≡◌, ℕ, if◌then◌else◌, IsTrue, List, [], Option, Some}
use Rattle.seuss_program.specs.declared.tree.Ref.{Ref}
use Rattle.seuss_program.specs.declared.tree.Ref.TheVariants as R
use Rattle.seuss_program.specs.declared.tree.Call.{Call}
use Rattle.seuss_program.specs.declared.tree.Form.{Form}
use Rattle.seuss_program.specs.Programs.{method_of}
use Rattle.seuss_program.specs.Keeping.{Scope, call_fits, is_partial, is_total}
use Rattle.seuss_program.specs.Lines.{IsIn, body_calls, early_calls}
use Rattle.method_code.specs.declared.instruction.Instruction.{Instruction}
use Rattle.method_code.specs.declared.instruction.Instruction.TheVariants as I
use Rattle.method_code.specs.declared.method.Entry.{Entry}
use Rattle.method_code.specs.declared.method.Entry.TheVariants as N
use Rattle.method_code.specs.declared.method.Head.{Head}
use Rattle.method_code.specs.declared.frame.End.{End}
use Rattle.method_code.specs.declared.frame.End.TheVariants as E
use Rattle.method_code.specs.Codes.{call_code}

-- the alternatives of an entry
abbrev pub heads_of : Entry → List Head
heads_of N.Total = []
heads_of (N.Partial heads) = heads

-- among these calls of a text is one of the given box and the method with these numbers
pub record IsCallAmong (calls : List (Call Ref)) (target method : ℕ) : Type 0 where
  pub call : Call Ref
  pub among : IsIn call calls
  pub target_is : call.target ≡ R.Given target
  pub method_is : method_of call.method ≡ method

-- the call by which a step ends, if it ends by one, is in the text: of a preprocedure, or in a body
abbrev pub CallsByText : Form Ref → End → Type 0
CallsByText f (E.Call target method args partial) =
    IsCallAmong (if partial then early_calls f else body_calls f) target method
CallsByText f (E.Returned found) = Unit {0}
CallsByText f E.RejectedPlain = Unit {0}
CallsByText f E.Rejected = Unit {0}
CallsByText f (E.Trapped t) = Unit {0}
CallsByText f E.Spent = Unit {0}

-- a call in a body fits what its text sees, and an instruction makes it
pub record IsBodyCall (s : Scope) (call : Call Ref) (code : List Instruction) : Type 0 where
  pub bind : Option Ref
  pub fits : IsTrue (call_fits s is_total bind call)
  pub stands : IsIn (I.Call (call_code call)) code

-- the call of a preprocedure fits what its text sees, and an alternative begins with it
pub record IsHeadCall (s : Scope) (call : Call Ref) (heads : List Head) : Type 0 where
  pub bind : Option Ref
  pub fits : IsTrue (call_fits s is_partial bind call)
  pub head : Head
  pub stands : IsIn head heads
  pub early : head.early ≡ Some (call_code call)
