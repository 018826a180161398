-- How statements are printed: each on lines of its own, inside so many others.
use Rattle.std.specs.Prelude.{ℕ, ◌+◌, List, [], ◌∷◌, ◌++◌, Option, None, Some}
use Rattle.std.specs.List.{flat_map}
use Rattle.seuss_parser.specs.declared.symbol.Symbol.{Symbol}
use Rattle.seuss_parser.specs.declared.symbol.Symbol.TheVariants as S
use Rattle.seuss_program.specs.declared.tree.Name.{Name}
use Rattle.seuss_program.specs.declared.tree.Kind.{Kind}
use Rattle.seuss_program.specs.declared.tree.Kind.TheVariants as K
use Rattle.seuss_program.specs.declared.tree.Call.{Call}
use Rattle.seuss_program.specs.declared.tree.Expr.{Expr}
use Rattle.seuss_program.specs.declared.tree.Statement.{Statement, fold-Statement}
use Rattle.seuss_program.specs.declared.tree.Statement.TheOpen as T
use Rattle.seuss_program.specs.declared.tree.Statement.TheOpen.{Statement-F}
use Rattle.seuss_print.specs.Items.{Item, Space, symbol, named, spaced, line, bracketed, separated}
use Rattle.seuss_print.specs.Expressions.{expression}

-- the keyword of a type
abbrev pub kind_symbol : Kind → Symbol
kind_symbol K.Int = S.Int
kind_symbol K.Bool = S.Bool
kind_symbol K.Seq = S.Seq

-- `name : kind`
abbrev pub typed : Name → Kind → List Item
typed name kind = named name ∷ spaced (symbol S.Colon) ++ symbol (kind_symbol kind) ∷ []

-- `name := `, or nothing
abbrev pub binding : Option Name → List Item
binding None = []
binding (Some name) = named name ∷ spaced (symbol S.Assign)

-- `target.method(args)`
abbrev pub call_items : Call Name → List Item
call_items call =
    named call.target ∷ symbol S.Dot ∷ named call.method ∷ bracketed (separated expression call.args)

-- the lines of a statement or of a block, by how many others they stand inside
abbrev pub Lines : Type 0
Lines = ℕ → List Item

-- the line `let name : kind := value`
abbrev pub let_line : Name → Kind → Expr Name → Lines
let_line name kind value n =
    line n (symbol S.Let ∷ Space ∷ typed name kind ++ spaced (symbol S.Assign) ++ expression value)

-- the line `name := value`
abbrev pub assignment_line : Name → Expr Name → Lines
assignment_line name value n = line n (named name ∷ spaced (symbol S.Assign) ++ expression value)

-- the line of a call, with the name that takes its result
abbrev pub call_line : Option Name → Call Name → Lines
call_line bind call n = line n (binding bind ++ call_items call)

-- the first line of an `if` or a `while`
abbrev pub head_line : Symbol → Expr Name → Symbol → Lines
head_line first cond last n = line n (symbol first ∷ Space ∷ expression cond ++ Space ∷ symbol last ∷ [])

-- the lines of statements, one after the other
abbrev pub in_turn : List Lines → Lines
in_turn statements n = flat_map (λ (lines : Lines). lines n) statements

-- `else` and its block, where that isn't empty
abbrev pub else_lines : List Lines → Lines
else_lines [] n = []
else_lines (first ∷ others) n = line n (symbol S.Else ∷ []) ++ in_turn (first ∷ others) (n + 1)

-- one statement, over the lines of the statements inside it
abbrev pub statement_step : Statement-F Name Lines → Lines
statement_step (T.Let name kind value) n = let_line name kind value n
statement_step (T.Assign name value) n = assignment_line name value n
statement_step (T.Call bind call) n = call_line bind call n
statement_step (T.If cond holds fails) n =
    head_line S.If cond S.Then n ++ in_turn holds (n + 1) ++ else_lines fails n ++ line n (symbol S.End ∷ [])
statement_step (T.While cond turn) n =
    head_line S.While cond S.Do n ++ in_turn turn (n + 1) ++ line n (symbol S.End ∷ [])

-- the lines of a statement
unfoldable pub statement : Statement Name → Lines
statement s = fold-Statement Name Lines statement_step s

-- the statements of a body
abbrev pub body : List (Statement Name) → Lines
body statements n = flat_map (λ s. statement s n) statements

-- the same of whole statements: `else` and its block, an `if`, a `while`
abbrev pub else_of : List (Statement Name) → Lines
else_of [] n = []
else_of (first ∷ others) n = line n (symbol S.Else ∷ []) ++ body (first ∷ others) (n + 1)

abbrev pub if_lines : Expr Name → List (Statement Name) → List (Statement Name) → Lines
if_lines cond holds fails n =
    head_line S.If cond S.Then n ++ body holds (n + 1) ++ else_of fails n ++ line n (symbol S.End ∷ [])

abbrev pub while_lines : Expr Name → List (Statement Name) → Lines
while_lines cond turn n = head_line S.While cond S.Do n ++ body turn (n + 1) ++ line n (symbol S.End ∷ [])
