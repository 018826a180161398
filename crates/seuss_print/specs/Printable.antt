-- Which trees are printed: those that some text spells.
use Rattle.std.specs.Prelude.{◌≡◌, ℕ, suc, ◌+◌, ◌^◌, ◌<◌, ◌≤◌, max, pos, negsuc, Bool, true, false, List}
use Rattle.std.specs.Prelude.{[], ◌∷◌, ◌++◌, length, count_by, All, Option, None, Some}
use Rattle.seuss_text.specs.Limits.{max_name, max_number}
use Rattle.seuss_text.specs.Words.{kind_of}
use Rattle.seuss_text.specs.declared.token.TokenKind.TheVariants.{Name as IsName}
use Rattle.seuss_parser.specs.Grammar.{max_marks, max_nesting}
use Rattle.seuss_parser.specs.declared.symbol.Symbol.{Symbol}
use Rattle.seuss_parser.specs.declared.symbol.Symbol.TheVariants as S
use Rattle.seuss_parser.specs.declared.word.Sort.{Sort}
use Rattle.seuss_parser.specs.declared.word.Sort.TheVariants.{Fixed, Name as Named, Number}
use Rattle.seuss_program.specs.declared.tree.Name.{Name}
use Rattle.seuss_program.specs.declared.tree.Expr.{Expr}
use Rattle.seuss_program.specs.declared.tree.Pre.{Pre}
use Rattle.seuss_program.specs.declared.tree.Statement.{Statement, fold-Statement}
use Rattle.seuss_program.specs.declared.tree.Statement.TheOpen as T
use Rattle.seuss_program.specs.declared.tree.Statement.TheOpen.{Statement-F}
use Rattle.seuss_program.specs.declared.tree.Alternative.{Alternative}
use Rattle.seuss_program.specs.declared.tree.Form.{Form}
use Rattle.seuss_program.specs.declared.tree.Form.TheVariants as F
use Rattle.seuss_program.specs.declared.tree.Proc.{Proc}
use Rattle.seuss_program.specs.declared.tree.Cat.{Cat}
use Rattle.seuss_program.specs.declared.tree.Tree.{Tree}
use Rattle.seuss_program.specs.WellFormed.{IsWellFormed}
use Rattle.seuss_print.specs.Items.{Item, tokens_in}
use Rattle.seuss_print.specs.Expressions.{expression}
use Rattle.seuss_print.specs.Canonical.{program}

-- A name is a name of at most 32 bytes, and a number lies between 0 and 9,223,372,036,854,775,807. This is
-- asked of the tokens that are printed, so of numbers in expressions, of start values without their minus,
-- and of depths.
abbrev pub IsWithinLimit : Sort → Type 0
IsWithinLimit (Fixed symbol) = Unit {0}
IsWithinLimit (Named text) = (kind_of text ≡ Some IsName) × (length text ≤ max_name)
IsWithinLimit (Number (pos n)) = n ≤ max_number
IsWithinLimit (Number (negsuc n)) = ⊥

-- the marks of an expression: its operators, its function words and its opening brackets
abbrev pub is_mark : Symbol → Bool
is_mark S.Or = true
is_mark S.And = true
is_mark S.Not = true
is_mark S.Equal = true
is_mark S.NotEqual = true
is_mark S.Less = true
is_mark S.LessOrEqual = true
is_mark S.Greater = true
is_mark S.GreaterOrEqual = true
is_mark S.Plus = true
is_mark S.Minus = true
is_mark S.WrapPlus = true
is_mark S.WrapMinus = true
is_mark S.Times = true
is_mark S.Divide = true
is_mark S.Remainder = true
is_mark S.First = true
is_mark S.Last = true
is_mark S.Rest = true
is_mark S.Front = true
is_mark S.Len = true
is_mark S.At = true
is_mark S.Add = true
is_mark S.Open = true
is_mark S.OpenSquare = true
is_mark symbol = false

-- whether a token counts as a mark
abbrev pub counts : Sort → Bool
counts (Fixed symbol) = is_mark symbol
counts (Named text) = false
counts (Number z) = false

-- how many marks are printed
abbrev pub marks_in : List Item → ℕ
marks_in items = count_by counts (tokens_in items)

-- a whole expression is printed with no more marks than it may have
abbrev pub HasFewMarks : Expr Name → Type 0
HasFewMarks e = marks_in (expression e) ≤ max_marks

-- what a statement contains: its whole expressions, and how deep `if` and `while` stand in one another
pub record Content : Type 0 where
  pub expressions : List (Expr Name)
  pub depth : ℕ

-- the expressions of several statements, and the deepest depth
abbrev pub joined : List Content → Content
joined [] = record { expressions = []; depth = 0 }
joined (c ∷ cs) = record {
  expressions = c.expressions ++ (joined cs).expressions;
  depth = max c.depth (joined cs).depth;
}

-- an `if` or a `while` around what these contain
abbrev pub around : Expr Name → Content → Content
around cond inner = record { expressions = cond ∷ inner.expressions; depth = suc inner.depth }

-- only these expressions
abbrev pub only : List (Expr Name) → Content
only expressions = record { expressions = expressions; depth = 0 }

-- the expressions of one statement and how deep it is, over the statements inside it
abbrev pub statement_step : Statement-F Name Content → Content
statement_step (T.Let name kind e) = only (e ∷ [])
statement_step (T.Assign name e) = only (e ∷ [])
statement_step (T.Call bind call) = only call.args
statement_step (T.If cond holds fails) = around cond (joined (holds ++ fails))
statement_step (T.While cond turn) = around cond (joined turn)

-- the expressions of a statement, and how deep `if` and `while` stand in one another in it
unfoldable pub content : Statement Name → Content
content s = fold-Statement Name Content statement_step s

-- the lines inside this statement stand inside so few others, beside those around it, that they can be
-- counted
abbrev pub HasRoom : ℕ → Statement Name → Type 0
HasRoom depth s = depth + (content s).depth < 2 ^ 32

-- a statement keeps the limits of marks and of nesting
pub record IsKeptStatement (s : Statement Name) : Type 0 where
  pub marks : All HasFewMarks (content s).expressions
  pub nesting : (content s).depth ≤ max_nesting

-- the arguments of a preprocedure, where there is one
abbrev pub pre_args : Option (Pre Name) → List (Expr Name)
pre_args None = []
pre_args (Some pre) = pre.call.args

-- an alternative keeps the limits of marks and of nesting
pub record IsKeptAlternative (a : Alternative Name) : Type 0 where
  pub cond : HasFewMarks a.cond
  pub pre : All HasFewMarks (pre_args a.pre)
  pub body : All IsKeptStatement a.body

-- all statements of a body, or all alternatives, keep the limits of marks and of nesting
abbrev pub IsKeptForm : Form Name → Type 0
IsKeptForm (F.Total statements) = All IsKeptStatement statements
IsKeptForm (F.Partial alternatives) = All IsKeptAlternative alternatives
IsKeptForm (F.Action alternatives) = All IsKeptAlternative alternatives

-- all procedures of a cat keep the limits of marks and of nesting
pub record IsKeptCat (c : Cat Name) : Type 0 where
  pub procs : All (λ (q : Proc Name). IsKeptForm q.form) c.procs

-- A tree is printable where it is well formed, its names and numbers are within their limits, and each whole
-- expression has at most 256 marks and at most 64 `if` and `while` stand in one another.
pub record IsPrintable (tree : Tree) : Type 0 where
  pub formed : IsWellFormed tree
  pub tokens : All IsWithinLimit (tokens_in (program tree))
  pub kept : All IsKeptCat tree.cats
