-- The code of a statement that fits does what the statement means.
use Rattle.std.proofs.Common.{◌≡◌, ℕ, Bool, true, IsTrue, List, [], ◌∷◌, Option, Some, sym}
use Rattle.std.proofs.Common.{subst, subst₂}
use Rattle.std.specs.Prelude.{slice_get}
use Rattle.std.specs.List.{flat_map}
use Rattle.seuss_program.specs.declared.program.Program.{Program}
use Rattle.seuss_program.specs.declared.tree.Ref.{Ref}
use Rattle.seuss_program.specs.declared.tree.Ref.TheVariants as R
use Rattle.seuss_program.specs.declared.tree.Kind.TheVariants as KV
use Rattle.seuss_program.specs.declared.tree.Call.{Call}
use Rattle.seuss_program.specs.declared.tree.Statement.{Statement, fold-roll-Statement, map-Statement}
use Rattle.seuss_program.specs.declared.tree.Statement.{roll-Statement, ind-Statement}
use Rattle.seuss_program.specs.declared.tree.Statement.TheOpen as S
use Rattle.seuss_program.specs.declared.tree.Statement.TheOpen.{Statement-F}
use Rattle.seuss_program.specs.Programs.{target_of, method_of}
use Rattle.seuss_program.specs.Bodies.{Callee, Meaning, statement, statement_step, body, in_turn}
use Rattle.seuss_program.specs.Keeping.{Scope, statement_fits, body_fits, call_fits, is_total, all_true}
use Rattle.seuss_program.specs.Keeping.{kind_in, is_of}
use Rattle.seuss_program.specs.Keeping as K
use Rattle.method_code.specs.declared.instruction.Instruction.{Instruction}
use Rattle.method_code.specs.declared.method.Method.{Method}
use Rattle.method_code.specs.declared.activation.Waiting.{Waiting}
use Rattle.method_code.specs.Codes.{compiled, code_of, code_step, joined, given_number}
pub use Rattle.method_code.proofs.CodeLemmas.{each, each_each, code-layer}
use Rattle.method_code.proofs.Following.{Performs}
use Rattle.method_code.proofs.Simulation.{Simulates, set_simulates, none_simulates, then_simulates}
use Rattle.method_code.proofs.Simulation.{all_simulate, if_simulates, while_simulates, and_left, and_right}
use Rattle.method_code.proofs.Calling.{call_simulates}

-- whether a statement fits, by those inside it
pub fits-layer : (s : Scope) (d : Statement-F Ref (Statement Ref)) →
    statement_fits s (roll-Statement Ref d) ≡ K.statement_step s
    (map-Statement Ref (Statement Ref) Bool (statement_fits s) d)
unfolding statement_fits
fits-layer s d = fold-roll-Statement Ref Bool (K.statement_step s) d

-- what a statement means, by those inside it
pub meaning-layer : (p : Program) (callee : Callee) (box : ℕ) (d : Statement-F Ref (Statement Ref)) →
    statement p callee box (roll-Statement Ref d)
    ≡ statement_step p callee box (map-Statement Ref (Statement Ref) Meaning (statement p callee box) d)
unfolding statement
meaning-layer p callee box d = fold-roll-Statement Ref Meaning (statement_step p callee box) d

-- A total call that fits is of a box that was given, and its procedure does what the callee means.
pub record TotalCalls (p : Program) (callee : Callee) (s : Scope) (box : ℕ) : Type 0 where
  pub given : (bind : Option Ref) (call : Call Ref) → IsTrue (call_fits s is_total bind call) →
      call.target ≡ R.Given (given_number call.target)
  pub performs : (bind : Option Ref) (call : Call Ref) → IsTrue (call_fits s is_total bind call) →
      Performs p callee true 0 (target_of p box call.target) (method_of call.method)

module _ (p : Program) (callee : Callee) (s : Scope) (box : ℕ) (m : Method) (method : ℕ) (ws : List Waiting)
    (plain : Bool)
    (coded : slice_get (compiled p) method ≡ Some m) (calls : TotalCalls p callee s box) where
  -- where the statement fits, its code does what it means
  FitsSo : Statement Ref → Type 0
  FitsSo t = IsTrue (statement_fits s t) → Simulates p box m method ws plain (code_of t)
      (statement p callee box t)

  -- the same, of the code and the meaning of one layer
  layer_fits : (d : Statement-F Ref (Statement Ref)) →
      (IsTrue (K.statement_step s (map-Statement Ref (Statement Ref) Bool (statement_fits s) d)) →
      Simulates p box m method ws plain
      (code_step (map-Statement Ref (Statement Ref) (List Instruction) code_of d))
      (statement_step p callee box
      (map-Statement Ref (Statement Ref) Meaning (statement p callee box) d))) →
      FitsSo (roll-Statement Ref d)
  unfolding FitsSo
  layer_fits d h fits =
      subst₂ (λ c f. Simulates p box m method ws plain c f) (sym (code-layer d))
      (sym (meaning-layer p callee box d)) (h (subst (λ b. IsTrue b) (fits-layer s d) fits))

  module _ (X : Type 0) (f : X → Statement Ref) (each_fits : (x : X) → FitsSo (f x)) where
    -- statements inside a statement
    inner : (xs : List X) → IsTrue (all_true (each (statement_fits s) (each f xs))) →
        Simulates p box m method ws plain (joined (each code_of (each f xs)))
        (in_turn (each (statement p callee box) (each f xs)))
    unfolding FitsSo
    inner xs fits =
        subst₂ (λ c g. Simulates p box m method ws plain (joined c) (in_turn g))
        (sym (each_each f code_of xs)) (sym (each_each f (statement p callee box) xs))
        (all_simulate p box m method ws plain (λ x. code_of (f x)) (λ x. statement p callee box (f x))
        (λ x. statement_fits s (f x)) each_fits xs
        (subst (λ l. IsTrue (all_true l)) (each_each f (statement_fits s) xs) fits))

    -- one layer of a statement
    layer : (y : Statement-F Ref X) → FitsSo (roll-Statement Ref (map-Statement Ref X (Statement Ref) f y))
    layer (S.Let name kind e) = layer_fits (S.Let name kind e)
        (λ fits. set_simulates p box m method ws plain name e)
    layer (S.Assign name e) = layer_fits (S.Assign name e)
        (λ fits. set_simulates p box m method ws plain name e)
    layer (S.Call bind call) = layer_fits (S.Call bind call)
        (λ fits. call_simulates p box m method ws plain coded callee bind call (calls.given bind call fits)
        (calls.performs bind call fits))
    layer (S.If cond holds fails) = layer_fits (S.If cond (each f holds) (each f fails)) (λ fits.
        let both = and_right (is_of KV.Bool (kind_in s cond)) _ fits in
        if_simulates p box m method ws plain cond (joined (each code_of (each f holds)))
        (joined (each code_of (each f fails)))
        (in_turn (each (statement p callee box) (each f holds)))
        (in_turn (each (statement p callee box) (each f fails)))
        (inner holds (and_left _ _ both))
        (inner fails (and_right (all_true (each (statement_fits s) (each f holds))) _ both)))
    layer (S.While cond turn) = layer_fits (S.While cond (each f turn)) (λ fits.
        while_simulates p box m method ws plain cond (joined (each code_of (each f turn)))
        (in_turn (each (statement p callee box) (each f turn)))
        (inner turn (and_right (is_of KV.Bool (kind_in s cond)) _ fits)))

  -- the code of each statement simulates it
  pub statement_simulates : (t : Statement Ref) → IsTrue (statement_fits s t) →
      Simulates p box m method ws plain (code_of t) (statement p callee box t)
  unfolding FitsSo
  statement_simulates = ind-Statement Ref FitsSo
      (λ x y is. subst (λ z. FitsSo (roll-Statement Ref z)) is (layer _ (λ e. e.0) (λ e. e.1) y))

  -- the code of a body does what the body means
  pub body_simulates : (ts : List (Statement Ref)) → IsTrue (body_fits s ts) →
      Simulates p box m method ws plain (flat_map code_of ts) (body p callee box ts)
  body_simulates [] fits = none_simulates p box m method ws plain
  body_simulates (t ∷ ts) fits =
      then_simulates p box m method ws plain (code_of t) (flat_map code_of ts) (statement p callee box t)
      (body p callee box ts)
      (statement_simulates t (and_left (statement_fits s t) _ fits))
      (body_simulates ts (and_right (statement_fits s t) _ fits))
