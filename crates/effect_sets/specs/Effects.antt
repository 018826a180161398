-- The variables that a procedure tests, reads and writes, by its own text alone.
use Rattle.std.specs.Prelude.{◌≡◌, ◌<◌, ◌==◌, ◌||◌, ℕ, Bool, true, false, List, [], ◌∷◌, Option, None, Some}
use Rattle.std.specs.Int.{bit_at}
use Rattle.seuss_program.specs.declared.tree.Ref.{Ref}
use Rattle.seuss_program.specs.declared.tree.Ref.TheVariants as R
use Rattle.seuss_program.specs.declared.tree.Node.TheOpen as N
use Rattle.seuss_program.specs.declared.tree.Node.TheOpen.{Node-F}
use Rattle.seuss_program.specs.declared.tree.Expr.{Expr, fold-Expr}
use Rattle.seuss_program.specs.declared.tree.Call.{Call}
use Rattle.seuss_program.specs.declared.tree.Pre.{Pre}
use Rattle.seuss_program.specs.declared.tree.Alternative.{Alternative}
use Rattle.seuss_program.specs.declared.tree.Statement.{Statement, fold-Statement}
use Rattle.seuss_program.specs.declared.tree.Statement.TheOpen as S
use Rattle.seuss_program.specs.declared.tree.Statement.TheOpen.{Statement-F}
use Rattle.seuss_program.specs.declared.tree.Form.{Form}
use Rattle.seuss_program.specs.declared.tree.Form.TheVariants as F
use Rattle.seuss_program.specs.declared.tree.Proc.{Proc}
use Rattle.seuss_program.specs.Lines.{early_calls, body_calls}
use Rattle.method_code.specs.Singles.{is_single}
use Rattle.effect_sets.specs.declared.sets.Effects.{Effects}

-- whether some of them is true
abbrev pub some_true : List Bool → Bool
some_true [] = false
some_true (b ∷ bs) = b || some_true bs

-- whether a name is that of this variable
abbrev pub is_variable : ℕ → Ref → Bool
is_variable v (R.Var number) = number == v
is_variable v (R.Slot number) = false
is_variable v (R.Given number) = false
is_variable v (R.Method number) = false
is_variable v (R.Cat number) = false

-- whether the name that takes a result is there and is this variable
abbrev pub binds : ℕ → Option Ref → Bool
binds v None = false
binds v (Some name) = is_variable v name

-- whether a variable stands in one node of an expression, over its parts
abbrev pub node_mentions : ℕ → Node-F Ref Bool Bool → Bool
node_mentions v (N.Int z) = false
node_mentions v (N.Bool b) = false
node_mentions v N.Empty = false
node_mentions v (N.Name name) = is_variable v name
node_mentions v (N.Neg e) = e
node_mentions v (N.Not e) = e
node_mentions v (N.Two op l r) = l || r
node_mentions v (N.One fun e) = e

-- whether a variable stands in an expression
unfoldable pub mentions : ℕ → Expr Ref → Bool
mentions v e = fold-Expr Ref Bool Bool (node_mentions v) (λ layer. layer.node) e

-- whether a variable stands in some of these expressions
abbrev pub any_mentions : ℕ → List (Expr Ref) → Bool
any_mentions v [] = false
any_mentions v (e ∷ es) = mentions v e || any_mentions v es

-- whether a variable stands in an expression of one statement, over the statements inside it
abbrev pub reads_step : ℕ → Statement-F Ref Bool → Bool
reads_step v (S.Let name kind e) = mentions v e
reads_step v (S.Assign name e) = mentions v e
reads_step v (S.Call bind call) = any_mentions v call.args
reads_step v (S.If cond holds fails) = mentions v cond || (some_true holds || some_true fails)
reads_step v (S.While cond turn) = mentions v cond || some_true turn

-- whether a variable stands in an expression of a statement
unfoldable pub statement_reads : ℕ → Statement Ref → Bool
statement_reads v s = fold-Statement Ref Bool (reads_step v) s

-- whether one statement assigns a variable, also from a call's result, over the statements inside it
abbrev pub writes_step : ℕ → Statement-F Ref Bool → Bool
writes_step v (S.Let name kind e) = is_variable v name
writes_step v (S.Assign name e) = is_variable v name
writes_step v (S.Call bind call) = binds v bind
writes_step v (S.If cond holds fails) = some_true holds || some_true fails
writes_step v (S.While cond turn) = some_true turn

-- whether a statement assigns a variable, also from a call's result
unfoldable pub statement_writes : ℕ → Statement Ref → Bool
statement_writes v s = fold-Statement Ref Bool (writes_step v) s

-- whether a variable stands in an expression of a body
abbrev pub body_reads : ℕ → List (Statement Ref) → Bool
body_reads v [] = false
body_reads v (s ∷ ss) = statement_reads v s || body_reads v ss

-- whether a body assigns a variable, also from a call's result
abbrev pub body_writes : ℕ → List (Statement Ref) → Bool
body_writes v [] = false
body_writes v (s ∷ ss) = statement_writes v s || body_writes v ss

-- whether a variable stands in the arguments of a preprocedure, where there is one
abbrev pub pre_mentions : ℕ → Option (Pre Ref) → Bool
pre_mentions v None = false
pre_mentions v (Some pre) = any_mentions v pre.call.args

-- whether a variable takes the result of a preprocedure
abbrev pub pre_binds : ℕ → Option (Pre Ref) → Bool
pre_binds v None = false
pre_binds v (Some pre) = binds v pre.bind

-- whether a variable stands in a precondition of these alternatives, or in the arguments of a
-- preprocedure
abbrev pub alternatives_test : ℕ → List (Alternative Ref) → Bool
alternatives_test v [] = false
alternatives_test v (a ∷ alts) = (mentions v a.cond || pre_mentions v a.pre) || alternatives_test v alts

-- whether a variable stands in any expression of these alternatives
abbrev pub alternatives_read : ℕ → List (Alternative Ref) → Bool
alternatives_read v [] = false
alternatives_read v (a ∷ alts) =
    (mentions v a.cond || (pre_mentions v a.pre || body_reads v a.body)) || alternatives_read v alts

-- whether these alternatives assign a variable, also from a call's result
abbrev pub alternatives_write : ℕ → List (Alternative Ref) → Bool
alternatives_write v [] = false
alternatives_write v (a ∷ alts) = (pre_binds v a.pre || body_writes v a.body) || alternatives_write v alts

-- whether a variable stands in a precondition of a procedure, or in the arguments of a preprocedure
abbrev pub tests : ℕ → Form Ref → Bool
tests v (F.Total ss) = false
tests v (F.Partial alts) = alternatives_test v alts
tests v (F.Action alts) = alternatives_test v alts

-- whether a variable stands in any expression of a procedure
abbrev pub reads : ℕ → Form Ref → Bool
reads v (F.Total ss) = body_reads v ss
reads v (F.Partial alts) = alternatives_read v alts
reads v (F.Action alts) = alternatives_read v alts

-- whether a procedure assigns a variable, also from a call's result
abbrev pub writes : ℕ → Form Ref → Bool
writes v (F.Total ss) = body_writes v ss
writes v (F.Partial alts) = alternatives_write v alts
writes v (F.Action alts) = alternatives_write v alts

-- whether there is a call
abbrev pub is_some_call : List (Call Ref) → Bool
is_some_call [] = false
is_some_call (call ∷ calls) = true

-- whether some alternative has a preprocedure
abbrev pub has_early : Form Ref → Bool
has_early form = is_some_call (early_calls form)

-- whether some alternative has a preprocedure, or some body has a call
abbrev pub has_late : Form Ref → Bool
has_late form = has_early form || is_some_call (body_calls form)

-- whether the bit of value 2 ^ v of a set is 1
abbrev pub has_bit : ℕ → ℕ → Bool
has_bit set v = bit_at set v == 1

-- The effects of a procedure. The bit of value 2 ^ v of a set says that variable v of the cat is in it.
pub record IsEffects (q : Proc Ref) (e : Effects) : Type 0 where
  pub tests : (v : ℕ) → v < 32 → has_bit e.tests v ≡ tests v q.form
  pub reads : (v : ℕ) → v < 32 → has_bit e.reads v ≡ reads v q.form
  pub writes : (v : ℕ) → v < 32 → has_bit e.writes v ≡ writes v q.form
  pub early : e.has_early ≡ has_early q.form
  pub late : e.has_late ≡ has_late q.form
  pub single : e.single ≡ is_single q.form

-- the effects of a procedure that isn't there: none
abbrev pub no_effects : Effects
no_effects = record { tests = 0; reads = 0; writes = 0; has_early = false; has_late = false; single = true }
