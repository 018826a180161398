-- The grammar of the notation. `brackets` and `blocks` say how deep, at most, brackets and the blocks of
-- `if` and `while` stand in one another; a text spells what it spells at some depth.
use Rattle.std.specs.Prelude.{ℕ, zero, suc, pred, ℤ, ◌==◌, Bool, false, List, [], Option, is_some, nat_abs}
use Rattle.seuss_parser.specs.Phrases.{Phrase, OneWord, OneMark, Only, Nothing, Either, Optional, Many}
use Rattle.seuss_parser.specs.Phrases.{Whole}
use Rattle.seuss_parser.specs.Phrases.{◌>>=◌, ◌>>◌}
use Rattle.seuss_parser.specs.Words.{as_symbol, as_name, as_numeral, as_version, as_one_of}
use Rattle.seuss_parser.specs.Trees.{disjunction, conjunction, comparison, addition, multiplication}
use Rattle.seuss_parser.specs.Trees.{function, pair_function, truth, small_kind, arrow, side}
use Rattle.seuss_parser.specs.Trees.{expression, grouped, compared, negated, minus, bracketed}
use Rattle.seuss_parser.specs.Trees.{signed, with_first, listed, int_variable, bool_variable, seq_variable}
use Rattle.seuss_parser.specs.declared.word.Numeral.{Numeral}
use Rattle.seuss_parser.specs.declared.word.Marked.{Marked}
use Rattle.seuss_parser.specs.declared.word.Behind.{Behind}
use Rattle.seuss_parser.specs.declared.symbol.Symbol.{Symbol}
use Rattle.seuss_parser.specs.declared.symbol.Symbol.TheVariants as S
use Rattle.seuss_program.specs.declared.tree.Name.{Name}
use Rattle.seuss_program.specs.declared.tree.Expr.{Expr}
use Rattle.seuss_program.specs.declared.tree.Node.TheVariants as N
use Rattle.seuss_program.specs.declared.tree.Op.{Op}
use Rattle.seuss_program.specs.declared.tree.Statement.{Statement}
use Rattle.seuss_program.specs.declared.tree.Statement.TheVariants as T
use Rattle.seuss_program.specs.declared.tree.Form.TheVariants as F
use Rattle.seuss_program.specs.declared.tree.Call.{Call}
use Rattle.seuss_program.specs.declared.tree.Pre.{Pre}
use Rattle.seuss_program.specs.declared.tree.Alternative.{Alternative}
use Rattle.seuss_program.specs.declared.tree.Param.{Param}
use Rattle.seuss_program.specs.declared.tree.Var.{Var}
use Rattle.seuss_program.specs.declared.tree.Given.{Given}
use Rattle.seuss_program.specs.declared.tree.Proc.{Proc}
use Rattle.seuss_program.specs.declared.tree.Hint.{Hint}
use Rattle.seuss_program.specs.declared.tree.Semi.{Semi}
use Rattle.seuss_program.specs.declared.tree.Cat.{Cat}
use Rattle.seuss_program.specs.declared.tree.BoxDecl.{BoxDecl}
use Rattle.seuss_program.specs.declared.tree.Tree.{Tree}

-- how many marks a whole expression has at most
abbrev pub max_marks : ℕ
max_marks = 256

-- how many `if` and `while` stand in one another at most
abbrev pub max_nesting : ℕ
max_nesting = 64

-- a keyword or a sign, by its line
abbrev pub IsSymbol : Symbol → Phrase ℕ
IsSymbol symbol = OneWord (as_symbol symbol) false

-- a keyword or a sign that counts as a mark, by its line
abbrev pub IsMark : Symbol → Phrase ℕ
IsMark symbol = OneMark (as_symbol symbol)

-- one of the symbols of a table
abbrev pub IsOneOf : {A : Type 0} → (Symbol → Option A) → Phrase (Marked A)
IsOneOf table = OneWord (as_one_of table) false

-- one of the symbols of a table, which counts as a mark
abbrev pub IsMarkOf : {A : Type 0} → (Symbol → Option A) → Phrase (Marked A)
IsMarkOf table = OneMark (as_one_of table)

-- NAME
abbrev pub IsName : Phrase Name
IsName = OneWord as_name false

-- NUMBER
abbrev pub IsNumeral : Phrase Numeral
IsNumeral = OneWord as_numeral false

-- a comma, and one more item
unfoldable pub IsNext : {A : Type 0} → Phrase A → Phrase A
IsNext P = do
  IsSymbol S.Comma
  P

-- item { "," item }
unfoldable pub IsSeparated : {A : Type 0} → Phrase A → Phrase (List A)
IsSeparated P = do
  first ← P
  others ← Many (IsNext P)
  Only (with_first first others)

-- [ item { "," item } ]
unfoldable pub IsPerhapsSeparated : {A : Type 0} → Phrase A → Phrase (List A)
IsPerhapsSeparated P = do
  items ← Optional (IsSeparated P)
  Only (listed items)

-- "(" item { "," item } ")"
unfoldable pub IsGroup : {A : Type 0} → Phrase A → Phrase (List A)
IsGroup P = do
  IsSymbol S.Open
  items ← IsSeparated P
  IsSymbol S.Close
  Only items

-- [ "(" item { "," item } ")" ]
unfoldable pub IsPerhapsGroup : {A : Type 0} → Phrase A → Phrase (List A)
IsPerhapsGroup P = do
  items ← Optional (IsGroup P)
  Only (listed items)

-- "(" [ item { "," item } ] ")"
unfoldable pub IsArguments : {A : Type 0} → Phrase A → Phrase (List A)
IsArguments P = do
  IsSymbol S.Open
  items ← IsPerhapsSeparated P
  IsSymbol S.Close
  Only items

-- [ "-" ] NUMBER
unfoldable pub IsSigned : Phrase ℤ
IsSigned = do
  sign ← Optional (IsSymbol S.Minus)
  number ← IsNumeral
  Only (signed sign number)

-- NUMBER
unfoldable pub IsNumber : Phrase (Expr Name)
IsNumber = do
  number ← IsNumeral
  Only (expression number.line (N.Int number.value))

-- "true" | "false"
unfoldable pub IsTruth : Phrase (Expr Name)
IsTruth = do
  word ← IsOneOf truth
  Only (expression word.line (N.Bool word.is))

-- NAME
unfoldable pub IsValueName : Phrase (Expr Name)
IsValueName = do
  name ← IsName
  Only (expression name.line (N.Name name))

-- "[" "]"
unfoldable pub IsEmpty : Phrase (Expr Name)
IsEmpty = do
  line ← IsMark S.OpenSquare
  IsSymbol S.CloseSquare
  Only (expression line N.Empty)

-- an operator of a level, and a part
unfoldable pub IsBehind : (Symbol → Option Op) → Phrase (Expr Name) → Phrase Behind
IsBehind ops Part = do
  op ← IsMarkOf ops
  part ← Part
  Only (record { op = op.is; part = part })

-- part { operator part }, grouped to the left
unfoldable pub IsChain : (Symbol → Option Op) → Phrase (Expr Name) → Phrase (Expr Name)
IsChain ops Part = do
  first ← Part
  others ← Many (IsBehind ops Part)
  Only (grouped first others)

-- expressions, by the expressions that may stand in brackets
module _ (Inner : Phrase (Expr Name)) where
  -- "(" expr ")", which has the line of its opening bracket
  unfoldable pub IsBracketed : Phrase (Expr Name)
  IsBracketed = do
    line ← IsMark S.Open
    inner ← Inner
    IsSymbol S.Close
    Only (bracketed line inner)

  -- ( "first" | "last" | "rest" | "front" | "len" ) "(" expr ")"
  unfoldable pub IsFunction : Phrase (Expr Name)
  IsFunction = do
    word ← IsMarkOf function
    IsMark S.Open
    part ← Inner
    IsSymbol S.Close
    Only (expression word.line (N.One word.is part))

  -- ( "at" | "add" ) "(" expr "," expr ")"
  unfoldable pub IsPairFunction : Phrase (Expr Name)
  IsPairFunction = do
    word ← IsMarkOf pair_function
    IsMark S.Open
    left ← Inner
    IsSymbol S.Comma
    right ← Inner
    IsSymbol S.Close
    Only (expression word.line (N.Two word.is left right))

  -- NUMBER | "true" | "false" | NAME | "[" "]" | "(" expr ")" | a function
  unfoldable pub IsPrimary : Phrase (Expr Name)
  IsPrimary = Either IsNumber (Either IsTruth (Either IsValueName (Either IsEmpty
      (Either IsBracketed (Either IsFunction IsPairFunction)))))

  -- { "-" } primary
  unfoldable pub IsUnary : Phrase (Expr Name)
  IsUnary = do
    lines ← Many (IsMark S.Minus)
    part ← IsPrimary
    Only (minus lines part)

  -- unary { ( "*" | "/" | "%" ) unary }
  unfoldable pub IsProduct : Phrase (Expr Name)
  IsProduct = IsChain multiplication IsUnary

  -- product { ( "+" | "-" | "&+" | "&-" ) product }
  unfoldable pub IsSum : Phrase (Expr Name)
  IsSum = IsChain addition IsProduct

  -- sum [ ( "=" | "<>" | "<" | "<=" | ">" | ">=" ) sum ]
  unfoldable pub IsComparison : Phrase (Expr Name)
  IsComparison = do
    left ← IsSum
    right ← Optional (IsBehind comparison IsSum)
    Only (compared left right)

  -- { "not" } comparison
  unfoldable pub IsNegation : Phrase (Expr Name)
  IsNegation = do
    lines ← Many (IsMark S.Not)
    part ← IsComparison
    Only (negated lines part)

  -- negation { "and" negation }
  unfoldable pub IsConjunction : Phrase (Expr Name)
  IsConjunction = IsChain conjunction IsNegation

  -- conjunction { "or" conjunction }
  unfoldable pub IsDisjunction : Phrase (Expr Name)
  IsDisjunction = IsChain disjunction IsConjunction

-- an expression in which brackets stand so deep in one another
abbrev pub IsExpression : ℕ → Phrase (Expr Name)
IsExpression zero = Nothing
IsExpression (suc brackets) = IsDisjunction (IsExpression brackets)

module _ (brackets : ℕ) where
  -- an expression that no other one contains
  unfoldable pub IsWholeExpression : Phrase (Expr Name)
  IsWholeExpression = Whole max_marks (IsExpression brackets)

  -- NAME "." NAME "(" [ expr { "," expr } ] ")"
  unfoldable pub IsCall : Phrase (Call Name)
  IsCall = do
    target ← IsName
    IsSymbol S.Dot
    method ← IsName
    args ← IsArguments IsWholeExpression
    Only (record { target = target; method = method; args = args })

  -- "let" NAME ":" ( "int" | "bool" ) ":=" expr
  unfoldable pub IsLet : Phrase (Statement Name)
  IsLet = do
    IsSymbol S.Let
    name ← IsName
    IsSymbol S.Colon
    kind ← IsOneOf small_kind
    IsSymbol S.Assign
    value ← IsWholeExpression
    Only (T.Let name kind.is value)

  -- NAME ":=" expr
  unfoldable pub IsAssignment : Phrase (Statement Name)
  IsAssignment = do
    name ← IsName
    IsSymbol S.Assign
    value ← IsWholeExpression
    Only (T.Assign name value)

  -- NAME ":="
  unfoldable pub IsBinding : Phrase Name
  IsBinding = do
    name ← IsName
    IsSymbol S.Assign
    Only name

  -- [ NAME ":=" ] call
  unfoldable pub IsCallStatement : Phrase (Statement Name)
  IsCallStatement = do
    bind ← Optional IsBinding
    call ← IsCall
    Only (T.Call bind call)

  -- `blocks` inside this statement, which begins with a word that may pass the limit of nesting
  module _ (passes : Bool) (Block : Phrase (List (Statement Name))) where
    -- "else" block
    unfoldable pub IsElse : Phrase (List (Statement Name))
    IsElse = do
      IsSymbol S.Else
      Block

    -- "if" expr "then" block [ "else" block ] "end"
    unfoldable pub IsIf : Phrase (Statement Name)
    IsIf = do
      OneWord (as_symbol S.If) passes
      cond ← IsWholeExpression
      IsSymbol S.Then
      holds ← Block
      fails ← Optional IsElse
      IsSymbol S.End
      Only (T.If cond holds (listed fails))

    -- "while" expr "do" block "end"
    unfoldable pub IsWhile : Phrase (Statement Name)
    IsWhile = do
      OneWord (as_symbol S.While) passes
      cond ← IsWholeExpression
      IsSymbol S.Do
      turn ← Block
      IsSymbol S.End
      Only (T.While cond turn)

    -- a statement of any form
    unfoldable pub IsAnyStatement : Phrase (Statement Name)
    IsAnyStatement = Either IsLet (Either IsAssignment (Either IsCallStatement (Either IsIf IsWhile)))

  -- a statement in which blocks stand so deep in one another, where so many more are within the limit
  abbrev pub IsStatement : ℕ → ℕ → Phrase (Statement Name)
  IsStatement zero nesting = Nothing
  IsStatement (suc blocks) nesting = IsAnyStatement (nesting == 0) (Many (IsStatement blocks (pred nesting)))

  -- the statements of a body
  abbrev pub IsBody : ℕ → Phrase (List (Statement Name))
  IsBody blocks = Many (IsStatement blocks max_nesting)

  -- ";" [ NAME ":=" ] call
  unfoldable pub IsPre : Phrase (Pre Name)
  IsPre = do
    IsSymbol S.Semicolon
    bind ← Optional IsBinding
    call ← IsCall
    Only (record { bind = bind; call = call })

  module _ (blocks : ℕ) where
    -- "when" expr [ ";" [ NAME ":=" ] call ] ( "->" | "~>" ) block
    unfoldable pub IsAlternative : Phrase (Alternative Name)
    IsAlternative = do
      line ← IsSymbol S.When
      cond ← IsWholeExpression
      pre ← Optional IsPre
      positive ← IsOneOf arrow
      body ← IsBody blocks
      Only (record { line = line; cond = cond; pre = pre; positive = positive.is; body = body })

    -- alternative { alternative }
    unfoldable pub AreAlternatives : Phrase (List (Alternative Name))
    AreAlternatives = do
      first ← IsAlternative
      others ← Many IsAlternative
      Only (with_first first others)

    -- NAME ":" ( "int" | "bool" )
    unfoldable pub IsParam : Phrase Param
    IsParam = do
      name ← IsName
      IsSymbol S.Colon
      kind ← IsOneOf small_kind
      Only (record { name = name; kind = kind.is })

    -- ":" "int"
    unfoldable pub IsResult : Phrase ℕ
    IsResult = do
      IsSymbol S.Colon
      IsSymbol S.Int

    -- "total" NAME "(" [ params ] ")" [ ":" "int" ] "is" block "end"
    unfoldable pub IsTotal : Phrase (Proc Name)
    IsTotal = do
      IsSymbol S.Total
      name ← IsName
      params ← IsArguments IsParam
      gives ← Optional IsResult
      IsSymbol S.Is
      body ← IsBody blocks
      IsSymbol S.End
      Only (record { name = name; params = params; gives = is_some gives; form = F.Total body })

    -- "partial" NAME "(" [ params ] ")" [ ":" "int" ] alternatives "end"
    unfoldable pub IsPartial : Phrase (Proc Name)
    IsPartial = do
      IsSymbol S.Partial
      name ← IsName
      params ← IsArguments IsParam
      gives ← Optional IsResult
      alternatives ← AreAlternatives
      IsSymbol S.End
      Only (record { name = name; params = params; gives = is_some gives; form = F.Partial alternatives })

    -- "action" NAME alternatives "end"
    unfoldable pub IsAction : Phrase (Proc Name)
    IsAction = do
      IsSymbol S.Action
      name ← IsName
      alternatives ← AreAlternatives
      IsSymbol S.End
      Only (record { name = name; params = []; gives = false; form = F.Action alternatives })

    -- a procedure of any form
    unfoldable pub IsProcedure : Phrase (Proc Name)
    IsProcedure = Either IsTotal (Either IsPartial IsAction)

-- NAME ":" NAME
unfoldable pub IsGiven : Phrase (Given Name)
IsGiven = do
  name ← IsName
  IsSymbol S.Colon
  cat ← IsName
  Only (record { name = name; cat = cat })

-- "=" and a start value
unfoldable pub IsStart : {A : Type 0} → Phrase A → Phrase A
IsStart P = do
  IsSymbol S.Equal
  P

-- "[" [ signed { "," signed } ] "]"
unfoldable pub IsSequence : Phrase (List ℤ)
IsSequence = do
  IsSymbol S.OpenSquare
  numbers ← IsPerhapsSeparated IsSigned
  IsSymbol S.CloseSquare
  Only numbers

-- the type int and a start value, of the variable of this name
unfoldable pub IsIntOf : Name → Phrase Var
IsIntOf name = do
  IsSymbol S.Int
  start ← Optional (IsStart IsSigned)
  Only (int_variable name start)

-- the type bool and a start value, of the variable of this name
unfoldable pub IsBoolOf : Name → Phrase Var
IsBoolOf name = do
  IsSymbol S.Bool
  start ← Optional (IsStart (IsOneOf truth))
  Only (bool_variable name start)

-- the type seq and a start value, of the variable of this name
unfoldable pub IsSeqOf : Name → Phrase Var
IsSeqOf name = do
  IsSymbol S.Seq
  start ← Optional (IsStart IsSequence)
  Only (seq_variable name start)

-- "var" NAME ":" a type and a start value
unfoldable pub IsVariable : Phrase Var
IsVariable = do
  IsSymbol S.Var
  name ← IsName
  IsSymbol S.Colon
  Either (IsIntOf name) (Either (IsBoolOf name) (IsSeqOf name))

-- ( "front" | "back" ) NAME NUMBER, on the line of the number
unfoldable pub IsHint : Phrase (Hint Name)
IsHint = do
  end ← IsOneOf side
  name ← IsName
  depth ← IsNumeral
  Only (record { front = end.is; name = name; depth = nat_abs depth.value; line = depth.line })

-- "semi" NAME "," NAME { hint }
unfoldable pub IsSemi : Phrase (Semi Name)
IsSemi = do
  line ← IsSymbol S.Semi
  first ← IsName
  IsSymbol S.Comma
  second ← IsName
  hints ← Many IsHint
  Only (record { line = line; first = first; second = second; hints = hints })

-- "box" NAME ":" NAME [ "(" NAME { "," NAME } ")" ]
unfoldable pub IsBox : Phrase BoxDecl
IsBox = do
  IsSymbol S.Box
  name ← IsName
  IsSymbol S.Colon
  cat ← IsName
  given ← IsPerhapsGroup IsName
  Only (record { name = name; cat = cat; given = given })

module _ (brackets blocks : ℕ) where
  -- "cat" NAME [ "(" given { "," given } ")" ] { var } { proc } { semi } "end"
  unfoldable pub IsCat : Phrase (Cat Name)
  IsCat = do
    IsSymbol S.Cat
    name ← IsName
    given ← IsPerhapsGroup IsGiven
    vars ← Many IsVariable
    procs ← Many (IsProcedure brackets blocks)
    semis ← Many IsSemi
    IsSymbol S.End
    Only (record { name = name; given = given; vars = vars; procs = procs; semis = semis })

  -- "seuss" "1" { cat } { box }, where the number is 1 by its value
  unfoldable pub IsProgram : Phrase Tree
  IsProgram = do
    IsSymbol S.Seuss
    OneWord as_version false
    cats ← Many IsCat
    boxes ← Many IsBox
    Only (record { cats = cats; boxes = boxes })
