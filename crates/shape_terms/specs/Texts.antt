-- Whether a variable stands in the text of a procedure: in an expression, or as what is assigned.
use Rattle.std.specs.Prelude.{ℕ, ◌==◌, Bool, false, ◌||◌, List, [], ◌∷◌, Option, None, Some}
use Rattle.seuss_program.specs.declared.tree.Ref.{Ref}
use Rattle.seuss_program.specs.declared.tree.Ref.TheVariants as R
use Rattle.seuss_program.specs.declared.tree.Node.TheOpen as N
use Rattle.seuss_program.specs.declared.tree.Node.TheOpen.{Node-F}
use Rattle.seuss_program.specs.declared.tree.Expr.{Expr, fold-Expr}
use Rattle.seuss_program.specs.declared.tree.Call.{Call}
use Rattle.seuss_program.specs.declared.tree.Pre.{Pre}
use Rattle.seuss_program.specs.declared.tree.Statement.{Statement, fold-Statement}
use Rattle.seuss_program.specs.declared.tree.Statement.TheOpen as S
use Rattle.seuss_program.specs.declared.tree.Statement.TheOpen.{Statement-F}
use Rattle.seuss_program.specs.declared.tree.Alternative.{Alternative}
use Rattle.seuss_program.specs.declared.tree.Form.{Form}
use Rattle.seuss_program.specs.declared.tree.Form.TheVariants as F

-- whether some of them is true
abbrev pub some_true : List Bool → Bool
some_true [] = false
some_true (b ∷ bs) = b || some_true bs

-- whether a name is that of this variable
abbrev pub is_variable : ℕ → Ref → Bool
is_variable v (R.Var number) = number == v
is_variable v (R.Slot number) = false
is_variable v (R.Given number) = false
is_variable v (R.Method number) = false
is_variable v (R.Cat number) = false

-- whether the name that takes a result is there and is this variable
abbrev pub is_bound : ℕ → Option Ref → Bool
is_bound v None = false
is_bound v (Some name) = is_variable v name

-- whether a variable stands in one node of an expression, over its parts
abbrev pub in_node : ℕ → Node-F Ref Bool Bool → Bool
in_node v (N.Int z) = false
in_node v (N.Bool b) = false
in_node v N.Empty = false
in_node v (N.Name name) = is_variable v name
in_node v (N.Neg e) = e
in_node v (N.Not e) = e
in_node v (N.Two op l r) = l || r
in_node v (N.One fun e) = e

-- whether a variable stands in an expression
unfoldable pub in_expression : ℕ → Expr Ref → Bool
in_expression v e = fold-Expr Ref Bool Bool (in_node v) (λ layer. layer.node) e

-- whether a variable stands in some of these expressions
abbrev pub in_some : ℕ → List (Expr Ref) → Bool
in_some v [] = false
in_some v (e ∷ es) = in_expression v e || in_some v es

-- whether a variable stands in the arguments of a call, or takes its result
abbrev pub in_call : ℕ → Option Ref → Call Ref → Bool
in_call v bind call = is_bound v bind || in_some v call.args

-- whether a variable stands in one statement, over the statements inside it
abbrev pub in_step : ℕ → Statement-F Ref Bool → Bool
in_step v (S.Let name kind e) = is_variable v name || in_expression v e
in_step v (S.Assign name e) = is_variable v name || in_expression v e
in_step v (S.Call bind call) = in_call v bind call
in_step v (S.If cond holds fails) = in_expression v cond || (some_true holds || some_true fails)
in_step v (S.While cond turn) = in_expression v cond || some_true turn

-- whether a variable stands in a statement
unfoldable pub in_statement : ℕ → Statement Ref → Bool
in_statement v s = fold-Statement Ref Bool (in_step v) s

-- whether a variable stands in a body
abbrev pub in_body : ℕ → List (Statement Ref) → Bool
in_body v [] = false
in_body v (s ∷ ss) = in_statement v s || in_body v ss

-- whether a variable stands in a preprocedure, where there is one
abbrev pub in_pre : ℕ → Option (Pre Ref) → Bool
in_pre v None = false
in_pre v (Some pre) = in_call v pre.bind pre.call

-- whether a variable stands in an alternative
abbrev pub in_alternative : ℕ → Alternative Ref → Bool
in_alternative v a = in_expression v a.cond || (in_pre v a.pre || in_body v a.body)

-- whether a variable stands in some of these alternatives
abbrev pub in_alternatives : ℕ → List (Alternative Ref) → Bool
in_alternatives v [] = false
in_alternatives v (a ∷ alts) = in_alternative v a || in_alternatives v alts

-- whether a variable stands in the text of a procedure
abbrev pub in_form : ℕ → Form Ref → Bool
in_form v (F.Total ss) = in_body v ss
in_form v (F.Partial alts) = in_alternatives v alts
in_form v (F.Action alts) = in_alternatives v alts
