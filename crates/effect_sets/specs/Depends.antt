-- What the effects of a procedure mean for its steps.
use Rattle.std.specs.Prelude.{◌≡◌, ℕ, Bool, true, false, List, length, slice_get}
use Rattle.seuss_program.specs.declared.tree.Ref.{Ref}
use Rattle.seuss_program.specs.declared.tree.Form.{Form}
use Rattle.seuss_program.specs.declared.state.Value.{Value}
use Rattle.method_code.specs.declared.method.Method.{Method}
use Rattle.method_code.specs.declared.frame.Frame.{Frame}
use Rattle.method_code.specs.Steps.{step}
use Rattle.method_code.specs.Kinds.{Early, kind_of}
use Rattle.method_code.specs.Beside.{SameResult}
use Rattle.effect_sets.specs.Effects.{tests, reads, writes}

-- lists of variables of the same length that agree where the set holds
pub record Agree (set : ℕ → Bool) (vars others : List Value) : Type 0 where
  pub length : length vars ≡ length others
  pub values : (v : ℕ) → set v ≡ true → slice_get vars v ≡ slice_get others v

-- A step of a procedure, from a frame and a budget: its result depends on the variables that the procedure
-- reads; a variable after it, on these and on its own value before; and variables that it doesn't write
-- stay.
pub record StaysInSets (code : List Method) (form : Form Ref) (frame : Frame) (budget : ℕ) : Type 0 where
  pub result : (vars others : List Value) → Agree (λ v. reads v form) vars others →
      SameResult (step code frame budget vars) (step code frame budget others)
  pub written : (vars others : List Value) (at : ℕ) → Agree (λ v. reads v form) vars others →
      slice_get vars at ≡ slice_get others at →
      slice_get (step code frame budget vars).vars at ≡ slice_get (step code frame budget others).vars at
  pub others : (vars : List Value) (at : ℕ) → writes at form ≡ false →
      slice_get (step code frame budget vars).vars at ≡ slice_get vars at
  pub many : (vars : List Value) → length (step code frame budget vars).vars ≡ length vars

-- An early step depends on the variables that the procedure tests, and changes none.
pub record EarlyStaysInTests (code : List Method) (form : Form Ref) (frame : Frame)
    (budget : ℕ) : Type 0 where
  pub result : (vars others : List Value) → Agree (λ v. tests v form) vars others →
      kind_of code frame (step code frame budget vars).end ≡ Early →
      SameResult (step code frame budget vars) (step code frame budget others)
  pub idle : (vars : List Value) → kind_of code frame (step code frame budget vars).end ≡ Early →
      (step code frame budget vars).vars ≡ vars
