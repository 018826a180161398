-- Reading calls, statements and alternatives.
use Rattle.std.specs.Prelude.{ℕ, zero, suc, pred, ◌==◌, Bool, List, Some, None}
use Rattle.seuss_parser.specs.Readings.{Reading, Refused, TooDeep, one_word, ends, either, optional, many}
use Rattle.seuss_parser.specs.Readings.{◌>>=◌, ◌>>◌}
use Rattle.seuss_parser.specs.CommonReading.{read_symbol, read_one_of, read_name, read_arguments}
use Rattle.seuss_parser.specs.ExpressionReading.{read_whole_expression}
use Rattle.seuss_parser.specs.Fronts.{begins_with, begins_with_name, begins_statement, begins_call}
use Rattle.seuss_parser.specs.Grammar.{max_nesting}
use Rattle.seuss_parser.specs.Trees.{small_kind, arrow, with_first, listed}
use Rattle.seuss_parser.specs.Words.{as_symbol}
use Rattle.seuss_parser.specs.declared.symbol.Symbol.TheVariants as S
use Rattle.seuss_program.specs.declared.tree.Name.{Name}
use Rattle.seuss_program.specs.declared.tree.Statement.{Statement}
use Rattle.seuss_program.specs.declared.tree.Statement.TheVariants as T
use Rattle.seuss_program.specs.declared.tree.Call.{Call}
use Rattle.seuss_program.specs.declared.tree.Pre.{Pre}
use Rattle.seuss_program.specs.declared.tree.Alternative.{Alternative}

-- "." NAME "(" [ expr { "," expr } ] ")", after the name of the box that is called
unfoldable pub read_call_of : Name → Reading (Call Name)
read_call_of target = do
  read_symbol S.Dot
  method ← read_name
  args ← read_arguments read_whole_expression
  ends (record { target = target; method = method; args = args })

-- NAME "." NAME "(" [ expr { "," expr } ] ")"
unfoldable pub read_call : Reading (Call Name)
read_call = do
  target ← read_name
  read_call_of target

-- "let" NAME ":" ( "int" | "bool" ) ":=" expr
unfoldable pub read_let : Reading (Statement Name)
read_let = do
  read_symbol S.Let
  name ← read_name
  read_symbol S.Colon
  kind ← read_one_of small_kind
  read_symbol S.Assign
  value ← read_whole_expression
  ends (T.Let name kind.is value)

-- the call of this box
unfoldable pub read_plain_call : Name → Reading (Statement Name)
read_plain_call target = do
  call ← read_call_of target
  ends (T.Call None call)

-- the call whose result is bound to this name
unfoldable pub read_bound_call : Name → Reading (Statement Name)
read_bound_call name = do
  call ← read_call
  ends (T.Call (Some name) call)

-- the value that this name is assigned
unfoldable pub read_assigned : Name → Reading (Statement Name)
read_assigned name = do
  value ← read_whole_expression
  ends (T.Assign name value)

-- ":=" ( call | expr ), after this name
unfoldable pub read_binding : Name → Reading (Statement Name)
read_binding name = do
  read_symbol S.Assign
  either begins_call (read_bound_call name) (read_assigned name)

-- NAME ":=" expr, or a call as a statement
unfoldable pub read_named : Reading (Statement Name)
read_named = do
  name ← read_name
  either (begins_with S.Dot) (read_plain_call name) (read_binding name)

-- statements by the block inside them, where `if` and `while` may pass the limit of nesting
module _ (passes : Bool) (block : Reading (List (Statement Name))) where
  -- "else" block
  unfoldable pub read_else : Reading (List (Statement Name))
  read_else = do
    read_symbol S.Else
    block

  -- "if" expr "then" block [ "else" block ] "end"
  unfoldable pub read_if : Reading (Statement Name)
  read_if = do
    one_word (as_symbol S.If) passes
    cond ← read_whole_expression
    read_symbol S.Then
    holds ← block
    fails ← optional (begins_with S.Else) read_else
    read_symbol S.End
    ends (T.If cond holds (listed fails))

  -- "while" expr "do" block "end"
  unfoldable pub read_while : Reading (Statement Name)
  read_while = do
    one_word (as_symbol S.While) passes
    cond ← read_whole_expression
    read_symbol S.Do
    turn ← block
    read_symbol S.End
    ends (T.While cond turn)

  -- a statement of any form
  unfoldable pub read_any_statement : Reading (Statement Name)
  read_any_statement =
      either (begins_with S.Let) read_let
      (either begins_with_name read_named
      (either (begins_with S.If) read_if read_while))

-- a statement in which blocks stand so deep in one another, where so many more are within the limit
abbrev pub read_statement : ℕ → ℕ → Reading (Statement Name)
read_statement zero nesting room words = Refused TooDeep words
read_statement (suc blocks) nesting room words =
    read_any_statement (nesting == 0) (many begins_statement (read_statement blocks (pred nesting)))
    room words

-- the limit of nesting is met before this depth
abbrev pub most_blocks : ℕ
most_blocks = 65

-- the statements of a body
abbrev pub read_body : Reading (List (Statement Name))
read_body = many begins_statement (read_statement most_blocks max_nesting)

-- the call of this box, at the begin of an alternative
unfoldable pub read_plain_pre : Name → Reading (Pre Name)
read_plain_pre target = do
  call ← read_call_of target
  ends (record { bind = None; call = call })

-- ":=" call, after this name
unfoldable pub read_bound_pre : Name → Reading (Pre Name)
read_bound_pre name = do
  read_symbol S.Assign
  call ← read_call
  ends (record { bind = Some name; call = call })

-- ";" [ NAME ":=" ] call
unfoldable pub read_pre : Reading (Pre Name)
read_pre = do
  read_symbol S.Semicolon
  name ← read_name
  either (begins_with S.Dot) (read_plain_pre name) (read_bound_pre name)

-- "when" expr [ ";" [ NAME ":=" ] call ] ( "->" | "~>" ) block
unfoldable pub read_alternative : Reading (Alternative Name)
read_alternative = do
  line ← read_symbol S.When
  cond ← read_whole_expression
  pre ← optional (begins_with S.Semicolon) read_pre
  positive ← read_one_of arrow
  body ← read_body
  ends (record { line = line; cond = cond; pre = pre; positive = positive.is; body = body })

-- alternative { alternative }
unfoldable pub read_alternatives : Reading (List (Alternative Name))
read_alternatives = do
  first ← read_alternative
  others ← many (begins_with S.When) read_alternative
  ends (with_first first others)
