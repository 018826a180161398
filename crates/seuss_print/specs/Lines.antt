-- Trees that differ in line numbers alone.
use Rattle.std.specs.Prelude.{◌≡◌, map, Option, None, Some}
use Rattle.seuss_program.specs.declared.tree.Name.{Name}
use Rattle.seuss_program.specs.declared.tree.Node.{Node}
use Rattle.seuss_program.specs.declared.tree.Node.TheVariants as N
use Rattle.seuss_program.specs.declared.tree.Node.TheOpen as L
use Rattle.seuss_program.specs.declared.tree.Node.TheOpen.{Node-F}
use Rattle.seuss_program.specs.declared.tree.Expr.{Expr, fold-Expr}
use Rattle.seuss_program.specs.declared.tree.Call.{Call}
use Rattle.seuss_program.specs.declared.tree.Pre.{Pre}
use Rattle.seuss_program.specs.declared.tree.Statement.{Statement, fold-Statement}
use Rattle.seuss_program.specs.declared.tree.Statement.TheVariants as T
use Rattle.seuss_program.specs.declared.tree.Statement.TheOpen as P
use Rattle.seuss_program.specs.declared.tree.Statement.TheOpen.{Statement-F}
use Rattle.seuss_program.specs.declared.tree.Alternative.{Alternative}
use Rattle.seuss_program.specs.declared.tree.Param.{Param}
use Rattle.seuss_program.specs.declared.tree.Form.{Form}
use Rattle.seuss_program.specs.declared.tree.Form.TheVariants as F
use Rattle.seuss_program.specs.declared.tree.Proc.{Proc}
use Rattle.seuss_program.specs.declared.tree.Var.{Var}
use Rattle.seuss_program.specs.declared.tree.Given.{Given}
use Rattle.seuss_program.specs.declared.tree.Hint.{Hint}
use Rattle.seuss_program.specs.declared.tree.Semi.{Semi}
use Rattle.seuss_program.specs.declared.tree.Cat.{Cat}
use Rattle.seuss_program.specs.declared.tree.BoxDecl.{BoxDecl}
use Rattle.seuss_program.specs.declared.tree.Tree.{Tree}

-- a name on line 0
abbrev pub name : Name → Name
name n = record { text = n.text; line = 0 }

-- the same of what may be left out
abbrev pub perhaps : {A : Type 0} → (A → A) → Option A → Option A
perhaps f None = None
perhaps f (Some a) = Some (f a)

-- one node of an expression, whose names are on line 0
abbrev pub node_step : Node-F Name (Node Name) (Expr Name) → Node Name
node_step (L.Int z) = N.Int z
node_step (L.Bool b) = N.Bool b
node_step L.Empty = N.Empty
node_step (L.Name n) = N.Name (name n)
node_step (L.Neg e) = N.Neg e
node_step (L.Not e) = N.Not e
node_step (L.Two op l r) = N.Two op l r
node_step (L.One fun e) = N.One fun e

-- an expression with all its lines made 0
unfoldable pub expression : Expr Name → Expr Name
expression e = fold-Expr Name (Node Name) (Expr Name) node_step
    (λ layer. record { line = 0; node = layer.node }) e

-- a call with all its lines made 0
abbrev pub call : Call Name → Call Name
call c = record { target = name c.target; method = name c.method; args = map expression c.args }

-- one statement with all its lines made 0, over the statements inside it
abbrev pub statement_step : Statement-F Name (Statement Name) → Statement Name
statement_step (P.Let n kind e) = T.Let (name n) kind (expression e)
statement_step (P.Assign n e) = T.Assign (name n) (expression e)
statement_step (P.Call bind c) = T.Call (perhaps name bind) (call c)
statement_step (P.If cond holds fails) = T.If (expression cond) holds fails
statement_step (P.While cond turn) = T.While (expression cond) turn

-- a statement with all its lines made 0
unfoldable pub statement : Statement Name → Statement Name
statement s = fold-Statement Name (Statement Name) statement_step s

-- a preprocedure with all its lines made 0
abbrev pub pre : Pre Name → Pre Name
pre p = record { bind = perhaps name p.bind; call = call p.call }

-- an alternative with all its lines made 0
abbrev pub alternative : Alternative Name → Alternative Name
alternative a = record {
  line = 0;
  cond = expression a.cond;
  pre = perhaps pre a.pre;
  positive = a.positive;
  body = map statement a.body;
}

-- a body or alternatives with all their lines made 0
abbrev pub form : Form Name → Form Name
form (F.Total statements) = F.Total (map statement statements)
form (F.Partial alternatives) = F.Partial (map alternative alternatives)
form (F.Action alternatives) = F.Action (map alternative alternatives)

-- a parameter with its line made 0
abbrev pub param : Param → Param
param p = record { name = name p.name; kind = p.kind }

-- a procedure with all its lines made 0
abbrev pub procedure : Proc Name → Proc Name
procedure q = record { name = name q.name; params = map param q.params; gives = q.gives; form = form q.form }

-- a variable with its line made 0
abbrev pub variable : Var → Var
variable v = record { name = name v.name; kind = v.kind; start = v.start }

-- a given box of a cat with its lines made 0
abbrev pub given : Given Name → Given Name
given g = record { name = name g.name; cat = name g.cat }

-- a hint with its lines made 0
abbrev pub hint : Hint Name → Hint Name
hint h = record { front = h.front; name = name h.name; depth = h.depth; line = 0 }

-- a certificate with all its lines made 0
abbrev pub semi : Semi Name → Semi Name
semi s = record { line = 0; first = name s.first; second = name s.second; hints = map hint s.hints }

-- a cat with all its lines made 0
abbrev pub cat : Cat Name → Cat Name
cat c = record {
  name = name c.name;
  given = map given c.given;
  vars = map variable c.vars;
  procs = map procedure c.procs;
  semis = map semi c.semis;
}

-- a box with all its lines made 0
abbrev pub box : BoxDecl → BoxDecl
box b = record { name = name b.name; cat = name b.cat; given = map name b.given }

-- a tree with all its lines made 0
abbrev pub without_lines : Tree → Tree
without_lines tree = record { cats = map cat tree.cats; boxes = map box tree.boxes }

-- the trees are the same but for their lines
abbrev pub SameUpToLines : Tree → Tree → Type 0
SameUpToLines tree other = without_lines tree ≡ without_lines other
