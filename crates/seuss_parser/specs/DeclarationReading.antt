-- Reading procedures, variables, certificates, cats, boxes and programs.
use Rattle.std.specs.Prelude.{ℕ, ℤ, List, [], is_some, nat_abs, false}
use Rattle.seuss_parser.specs.Readings.{Reading, one_word, ends, either, optional, many, ◌>>=◌, ◌>>◌}
use Rattle.seuss_parser.specs.CommonReading.{read_symbol, read_one_of, read_name, read_numeral, read_signed}
use Rattle.seuss_parser.specs.CommonReading.{read_perhaps_separated, read_perhaps_group, read_arguments}
use Rattle.seuss_parser.specs.StatementReading.{read_body, read_alternatives}
use Rattle.seuss_parser.specs.Fronts.{begins_with, begins_with_one_of, begins_procedure}
use Rattle.seuss_parser.specs.Trees.{small_kind, truth, side, int_variable, bool_variable, seq_variable}
use Rattle.seuss_parser.specs.Words.{as_version}
use Rattle.seuss_parser.specs.declared.symbol.Symbol.TheVariants as S
use Rattle.seuss_program.specs.declared.tree.Name.{Name}
use Rattle.seuss_program.specs.declared.tree.Form.TheVariants as F
use Rattle.seuss_program.specs.declared.tree.Param.{Param}
use Rattle.seuss_program.specs.declared.tree.Var.{Var}
use Rattle.seuss_program.specs.declared.tree.Given.{Given}
use Rattle.seuss_program.specs.declared.tree.Proc.{Proc}
use Rattle.seuss_program.specs.declared.tree.Hint.{Hint}
use Rattle.seuss_program.specs.declared.tree.Semi.{Semi}
use Rattle.seuss_program.specs.declared.tree.Cat.{Cat}
use Rattle.seuss_program.specs.declared.tree.BoxDecl.{BoxDecl}
use Rattle.seuss_program.specs.declared.tree.Tree.{Tree}

-- NAME ":" ( "int" | "bool" )
unfoldable pub read_param : Reading Param
read_param = do
  name ← read_name
  read_symbol S.Colon
  kind ← read_one_of small_kind
  ends (record { name = name; kind = kind.is })

-- ":" "int"
unfoldable pub read_result : Reading ℕ
read_result = do
  read_symbol S.Colon
  read_symbol S.Int

-- "total" NAME "(" [ params ] ")" [ ":" "int" ] "is" block "end"
unfoldable pub read_total : Reading (Proc Name)
read_total = do
  read_symbol S.Total
  name ← read_name
  params ← read_arguments read_param
  gives ← optional (begins_with S.Colon) read_result
  read_symbol S.Is
  body ← read_body
  read_symbol S.End
  ends (record { name = name; params = params; gives = is_some gives; form = F.Total body })

-- "partial" NAME "(" [ params ] ")" [ ":" "int" ] alternatives "end"
unfoldable pub read_partial : Reading (Proc Name)
read_partial = do
  read_symbol S.Partial
  name ← read_name
  params ← read_arguments read_param
  gives ← optional (begins_with S.Colon) read_result
  alternatives ← read_alternatives
  read_symbol S.End
  ends (record { name = name; params = params; gives = is_some gives; form = F.Partial alternatives })

-- "action" NAME alternatives "end"
unfoldable pub read_action : Reading (Proc Name)
read_action = do
  read_symbol S.Action
  name ← read_name
  alternatives ← read_alternatives
  read_symbol S.End
  ends (record { name = name; params = []; gives = false; form = F.Action alternatives })

-- a procedure of any form
unfoldable pub read_procedure : Reading (Proc Name)
read_procedure =
    either (begins_with S.Total) read_total (either (begins_with S.Partial) read_partial read_action)

-- NAME ":" NAME
unfoldable pub read_given : Reading (Given Name)
read_given = do
  name ← read_name
  read_symbol S.Colon
  cat ← read_name
  ends (record { name = name; cat = cat })

-- "=" and a start value
unfoldable pub read_start : {A : Type 0} → Reading A → Reading A
read_start one = do
  read_symbol S.Equal
  one

-- "[" [ signed { "," signed } ] "]"
unfoldable pub read_sequence : Reading (List ℤ)
read_sequence = do
  read_symbol S.OpenSquare
  numbers ← read_perhaps_separated S.CloseSquare read_signed
  read_symbol S.CloseSquare
  ends numbers

-- a type and a start value, of the variable of this name
unfoldable pub read_int_of : Name → Reading Var
read_int_of name = do
  read_symbol S.Int
  start ← optional (begins_with S.Equal) (read_start read_signed)
  ends (int_variable name start)

unfoldable pub read_bool_of : Name → Reading Var
read_bool_of name = do
  read_symbol S.Bool
  start ← optional (begins_with S.Equal) (read_start (read_one_of truth))
  ends (bool_variable name start)

unfoldable pub read_seq_of : Name → Reading Var
read_seq_of name = do
  read_symbol S.Seq
  start ← optional (begins_with S.Equal) (read_start read_sequence)
  ends (seq_variable name start)

-- "var" NAME ":" a type and a start value
unfoldable pub read_variable : Reading Var
read_variable = do
  read_symbol S.Var
  name ← read_name
  read_symbol S.Colon
  either (begins_with S.Int) (read_int_of name)
      (either (begins_with S.Bool) (read_bool_of name) (read_seq_of name))

-- ( "front" | "back" ) NAME NUMBER, on the line of the number
unfoldable pub read_hint : Reading (Hint Name)
read_hint = do
  end ← read_one_of side
  name ← read_name
  depth ← read_numeral
  ends (record { front = end.is; name = name; depth = nat_abs depth.value; line = depth.line })

-- "semi" NAME "," NAME { hint }
unfoldable pub read_semi : Reading (Semi Name)
read_semi = do
  line ← read_symbol S.Semi
  first ← read_name
  read_symbol S.Comma
  second ← read_name
  hints ← many (begins_with_one_of side) read_hint
  ends (record { line = line; first = first; second = second; hints = hints })

-- "box" NAME ":" NAME [ "(" NAME { "," NAME } ")" ]
unfoldable pub read_box : Reading BoxDecl
read_box = do
  read_symbol S.Box
  name ← read_name
  read_symbol S.Colon
  cat ← read_name
  given ← read_perhaps_group read_name
  ends (record { name = name; cat = cat; given = given })

-- "cat" NAME [ "(" given { "," given } ")" ] { var } { proc } { semi } "end"
unfoldable pub read_cat : Reading (Cat Name)
read_cat = do
  read_symbol S.Cat
  name ← read_name
  given ← read_perhaps_group read_given
  vars ← many (begins_with S.Var) read_variable
  procs ← many begins_procedure read_procedure
  semis ← many (begins_with S.Semi) read_semi
  read_symbol S.End
  ends (record { name = name; given = given; vars = vars; procs = procs; semis = semis })

-- "seuss" "1" { cat } { box }, where the number is 1 by its value
unfoldable pub read_program : Reading Tree
read_program = do
  read_symbol S.Seuss
  one_word as_version false
  cats ← many (begins_with S.Cat) read_cat
  boxes ← many (begins_with S.Box) read_box
  ends (record { cats = cats; boxes = boxes })
