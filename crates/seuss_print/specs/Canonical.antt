-- The canonical text of a tree. Each line ends with a line feed.
use Rattle.std.specs.Prelude.{ℕ, ℤ, pos, negsuc, suc, Bool, true, false, if◌then◌else◌, List, [], ◌∷◌, ◌++◌}
use Rattle.std.specs.Prelude.{Option, None, Some}
use Rattle.std.specs.List.{flat_map}
use Rattle.std.specs.Ordering.{int_eq}
use Rattle.seuss_parser.specs.declared.symbol.Symbol.{Symbol}
use Rattle.seuss_parser.specs.declared.symbol.Symbol.TheVariants as S
use Rattle.seuss_program.specs.declared.state.Value.{Value}
use Rattle.seuss_program.specs.declared.state.Value.TheVariants as V
use Rattle.seuss_program.specs.declared.tree.Name.{Name}
use Rattle.seuss_program.specs.declared.tree.Statement.{Statement}
use Rattle.seuss_program.specs.declared.tree.Pre.{Pre}
use Rattle.seuss_program.specs.declared.tree.Alternative.{Alternative}
use Rattle.seuss_program.specs.declared.tree.Param.{Param}
use Rattle.seuss_program.specs.declared.tree.Form.{Form}
use Rattle.seuss_program.specs.declared.tree.Form.TheVariants as F
use Rattle.seuss_program.specs.declared.tree.Proc.{Proc}
use Rattle.seuss_program.specs.declared.tree.Var.{Var}
use Rattle.seuss_program.specs.declared.tree.Given.{Given}
use Rattle.seuss_program.specs.declared.tree.Hint.{Hint}
use Rattle.seuss_program.specs.declared.tree.Semi.{Semi}
use Rattle.seuss_program.specs.declared.tree.Cat.{Cat}
use Rattle.seuss_program.specs.declared.tree.BoxDecl.{BoxDecl}
use Rattle.seuss_program.specs.declared.tree.Tree.{Tree}
use Rattle.seuss_print.specs.Items.{Item, Space, symbol, named, number, spaced, line, bracketed, separated}
use Rattle.seuss_print.specs.Items.{perhaps_bracketed, text_of}
use Rattle.seuss_print.specs.Expressions.{expression, truth_symbol}
use Rattle.seuss_print.specs.Statements.{typed, binding, call_items, body}

-- ` ; call` or ` ; name := call`, where an alternative begins with a call
abbrev pub pre_items : Option (Pre Name) → List Item
pre_items None = []
pre_items (Some pre) = spaced (symbol S.Semicolon) ++ binding pre.bind ++ call_items pre.call

-- the arrow of an alternative, by whether it accepts
abbrev pub arrow_symbol : Bool → Symbol
arrow_symbol true = S.Arrow
arrow_symbol false = S.NegativeArrow

-- `when cond ; call ->`, and the statements of its body
abbrev pub alternative : Alternative Name → List Item
alternative a =
    line 2 (symbol S.When ∷ Space ∷ expression a.cond ++ pre_items a.pre
    ++ Space ∷ symbol (arrow_symbol a.positive) ∷ [])
    ++ body a.body 3

-- `name : kind` of a parameter
abbrev pub param : Param → List Item
param p = typed p.name p.kind

-- ` : int`, where a method has a result
abbrev pub result_items : Bool → List Item
result_items true = spaced (symbol S.Colon) ++ symbol S.Int ∷ []
result_items false = []

-- ` name(params) : int`
abbrev pub method_head : Proc Name → List Item
method_head q = Space ∷ named q.name ∷ bracketed (separated param q.params) ++ result_items q.gives

-- the lines of a total method but for its `end`
abbrev pub total_items : Proc Name → List (Statement Name) → List Item
total_items q statements =
    line 1 (symbol S.Total ∷ method_head q ++ Space ∷ symbol S.Is ∷ []) ++ body statements 2

-- the lines of a partial method but for its `end`
abbrev pub partial_items : Proc Name → List (Alternative Name) → List Item
partial_items q alternatives = line 1 (symbol S.Partial ∷ method_head q) ++ flat_map alternative alternatives

-- the lines of an action but for its `end`
abbrev pub action_items : Proc Name → List (Alternative Name) → List Item
action_items q alternatives =
    line 1 (symbol S.Action ∷ Space ∷ named q.name ∷ []) ++ flat_map alternative alternatives

-- the lines of a procedure but for its `end`
abbrev pub form_items : Proc Name → Form Name → List Item
form_items q (F.Total statements) = total_items q statements
form_items q (F.Partial alternatives) = partial_items q alternatives
form_items q (F.Action alternatives) = action_items q alternatives

-- the lines of a procedure
abbrev pub procedure : Proc Name → List Item
procedure q = form_items q q.form ++ line 1 (symbol S.End ∷ [])

-- a number with a minus where it is negative
abbrev pub signed : ℤ → List Item
signed (pos n) = number (pos n) ∷ []
signed (negsuc n) = symbol S.Minus ∷ number (pos (suc n)) ∷ []

-- ` = ` and these items
abbrev pub equals : List Item → List Item
equals items = spaced (symbol S.Equal) ++ items

-- ` = value`, where the start value isn't 0, false or the empty sequence
abbrev pub start_items : Value → List Item
start_items (V.Int z) = if int_eq z (pos 0) then [] else equals (signed z)
start_items (V.Bool b) = if b then equals (symbol (truth_symbol b) ∷ []) else []
start_items (V.Seq []) = []
start_items (V.Seq (z ∷ zs)) =
    equals (symbol S.OpenSquare ∷ separated signed (z ∷ zs) ++ symbol S.CloseSquare ∷ [])

-- the line of a variable
abbrev pub variable : Var → List Item
variable v = line 1 (symbol S.Var ∷ Space ∷ typed v.name v.kind ++ start_items v.start)

-- the keyword of the end of a sequence that a hint is about
abbrev pub side_symbol : Bool → Symbol
side_symbol true = S.Front
side_symbol false = S.Back

-- ` front name depth` or ` back name depth`
abbrev pub hint : Hint Name → List Item
hint h = Space ∷ symbol (side_symbol h.front) ∷ Space ∷ named h.name ∷ Space ∷ number (pos h.depth) ∷ []

-- `semi first, second` and its hints
abbrev pub semi : Semi Name → List Item
semi s =
    line 1 (symbol S.Semi ∷ Space ∷ named s.first ∷ symbol S.Comma ∷ Space ∷ named s.second
    ∷ flat_map hint s.hints)

-- `name : cat`
abbrev pub given : Given Name → List Item
given g = named g.name ∷ spaced (symbol S.Colon) ++ named g.cat ∷ []

-- the lines of a cat
abbrev pub cat : Cat Name → List Item
cat c =
    line 0 (symbol S.Cat ∷ Space ∷ named c.name ∷ perhaps_bracketed given c.given)
    ++ flat_map variable c.vars ++ flat_map procedure c.procs ++ flat_map semi c.semis
    ++ line 0 (symbol S.End ∷ [])

-- the name of a given box
abbrev pub box_name : Name → List Item
box_name name = named name ∷ []

-- `box name : cat(given)`
abbrev pub box : BoxDecl → List Item
box b =
    line 0 (symbol S.Box ∷ Space ∷ named b.name ∷ spaced (symbol S.Colon)
    ++ named b.cat ∷ perhaps_bracketed box_name b.given)

-- all that is printed of a tree
abbrev pub program : Tree → List Item
program tree =
    line 0 (symbol S.Seuss ∷ Space ∷ number (pos 1) ∷ []) ++ flat_map cat tree.cats
    ++ flat_map box tree.boxes

-- the canonical text of a tree, byte for byte
abbrev pub canonical_text : Tree → List ℕ
canonical_text tree = text_of (program tree)
