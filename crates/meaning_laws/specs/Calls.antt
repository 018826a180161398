-- What a call of a checked program goes to.
use Rattle.std.specs.Prelude.{◌≡◌, ℕ, ◌<◌, Bool, true, List, slice_get, Option, Some, IfOk, IsTrue}
use Rattle.seuss_program.specs.declared.tree.Ref.{Ref}
use Rattle.seuss_program.specs.declared.tree.Ref.TheVariants as R
use Rattle.seuss_program.specs.declared.tree.Kind.TheVariants as K
use Rattle.seuss_program.specs.declared.tree.Call.{Call}
use Rattle.seuss_program.specs.declared.tree.Form.{Form}
use Rattle.seuss_program.specs.declared.tree.Proc.{Proc}
use Rattle.seuss_program.specs.declared.program.BoxInfo.{BoxInfo}
use Rattle.seuss_program.specs.declared.program.Program.{Program}
use Rattle.seuss_program.specs.declared.state.Value.{Value}
use Rattle.seuss_program.specs.Programs.{procedure_of, level_of, target_of, method_of}
use Rattle.seuss_program.specs.Bodies.{arguments}
use Rattle.seuss_program.specs.Keeping.{AreOf, Scope, kind_set, param_kinds}

-- A call from the text of a box goes to a box that this one is given and that is of a lower level, and there
-- to a procedure of this form.
pub record GoesDown (p : Program) (form : Form Ref → Bool) (box : ℕ) (call : Call Ref)
    (callee : Proc Ref) : Type 0 where
  pub caller : BoxInfo
  pub caller_there : slice_get p.boxes box ≡ Some caller
  pub given : ℕ
  pub target_named : call.target ≡ R.Given given
  pub target_given : slice_get caller.given given ≡ Some (target_of p box call.target)
  pub lower : level_of p (target_of p box call.target) < level_of p box
  pub method_named : call.method ≡ R.Method (method_of call.method)
  pub there : procedure_of p (target_of p box call.target) (method_of call.method) ≡ Some callee
  pub form_is : IsTrue (form callee.form)

-- The arguments of a call are a trap or values of the kinds of the parameters. A name that takes its result
-- is that of an int, and the procedure has a result.
pub record Matches (s : Scope) (bind : Option Ref) (call : Call Ref) (callee : Proc Ref) : Type 0 where
  pub args : (vars slots : List Value) → AreOf vars s.vars → AreOf slots s.slots →
      IfOk (arguments call.args vars slots) (λ values. AreOf values (param_kinds callee.params))
  pub bound : (name : Ref) → bind ≡ Some name → (kind_set s name ≡ Some K.Int) × (callee.gives ≡ true)
