-- The procedures that a pass of an action may run.
use Rattle.std.specs.Prelude.{◌≡◌, ℕ, ◌⊎◌, List, [], ◌∷◌, ◌++◌, Option, None, Some}
use Rattle.std.specs.List.{flat_map}
use Rattle.seuss_program.specs.declared.tree.Ref.{Ref}
use Rattle.seuss_program.specs.declared.tree.Call.{Call}
use Rattle.seuss_program.specs.declared.tree.Pre.{Pre}
use Rattle.seuss_program.specs.declared.tree.Alternative.{Alternative}
use Rattle.seuss_program.specs.declared.tree.Statement.{Statement, fold-Statement}
use Rattle.seuss_program.specs.declared.tree.Statement.TheOpen as S
use Rattle.seuss_program.specs.declared.tree.Statement.TheOpen.{Statement-F}
use Rattle.seuss_program.specs.declared.tree.Form.{Form}
use Rattle.seuss_program.specs.declared.tree.Form.TheVariants as F
use Rattle.seuss_program.specs.declared.tree.Proc.{Proc}
use Rattle.seuss_program.specs.declared.program.Program.{Program}
use Rattle.seuss_program.specs.declared.program.ActionInfo.{ActionInfo}
use Rattle.seuss_program.specs.Programs.{procedure_of, target_of, method_of}

-- an item of a list
abbrev pub IsIn : {A : Type 0} → A → List A → Type 0
IsIn x [] = ⊥
IsIn x (y ∷ ys) = (y ≡ x) ⊎ IsIn x ys

-- the calls of one statement, over those of the statements inside it
abbrev pub calls_step : Statement-F Ref (List (Call Ref)) → List (Call Ref)
calls_step (S.Let name kind e) = []
calls_step (S.Assign name e) = []
calls_step (S.Call name call) = call ∷ []
calls_step (S.If cond holds fails) = flat_map (λ cs. cs) holds ++ flat_map (λ cs. cs) fails
calls_step (S.While cond turn) = flat_map (λ cs. cs) turn

-- the calls in a statement, in the order of the text
unfoldable pub calls_of : Statement Ref → List (Call Ref)
calls_of s = fold-Statement Ref (List (Call Ref)) calls_step s

-- the calls in the bodies of a procedure
abbrev pub body_calls : Form Ref → List (Call Ref)
body_calls (F.Total ss) = flat_map calls_of ss
body_calls (F.Partial alts) = flat_map (λ (a : Alternative Ref). flat_map calls_of a.body) alts
body_calls (F.Action alts) = flat_map (λ (a : Alternative Ref). flat_map calls_of a.body) alts

-- the preprocedure of an alternative, where there is one
abbrev pub pre_calls : Option (Pre Ref) → List (Call Ref)
pre_calls None = []
pre_calls (Some pre) = pre.call ∷ []

-- the preprocedures that a procedure calls
abbrev pub early_calls : Form Ref → List (Call Ref)
early_calls (F.Total ss) = []
early_calls (F.Partial alts) = flat_map (λ (a : Alternative Ref). pre_calls a.pre) alts
early_calls (F.Action alts) = flat_map (λ (a : Alternative Ref). pre_calls a.pre) alts

-- The line of an action: the action on its own box, and with each procedure in it the preprocedures that it
-- calls, on the boxes that they name.
pub data InLine (p : Program) (a : ActionInfo) : ℕ → ℕ → Type 0 where
  Own : InLine p a a.box_number a.procedure
  Early : (box number : ℕ) (q : Proc Ref) (call : Call Ref) → InLine p a box number →
      procedure_of p box number ≡ Some q →
      IsIn call (early_calls q.form) → InLine p a (target_of p box call.target) (method_of call.method)

-- The tail of an action: each method called in a body of a procedure in its line or in its tail, on its box.
pub data InTail (p : Program) (a : ActionInfo) : ℕ → ℕ → Type 0 where
  OfLine : (box number : ℕ) (q : Proc Ref) (call : Call Ref) → InLine p a box number →
      procedure_of p box number ≡ Some q →
      IsIn call (body_calls q.form) → InTail p a (target_of p box call.target) (method_of call.method)
  OfTail : (box number : ℕ) (q : Proc Ref) (call : Call Ref) → InTail p a box number →
      procedure_of p box number ≡ Some q →
      IsIn call (body_calls q.form) → InTail p a (target_of p box call.target) (method_of call.method)
