-- The program that a text stands for: each name as the number that it has.
use Rattle.std.specs.Prelude.{ℕ, true, false, List, [], ◌∷◌, map, Option, None, Some, option_map, unwrap_or}
use Rattle.seuss_program.specs.declared.tree.Name.{Name}
use Rattle.seuss_program.specs.declared.tree.Kind.TheVariants as K
use Rattle.seuss_program.specs.declared.tree.Ref.{Ref}
use Rattle.seuss_program.specs.declared.tree.Ref.TheVariants as R
use Rattle.seuss_program.specs.declared.tree.Param.{Param}
use Rattle.seuss_program.specs.declared.tree.Given.{Given}
use Rattle.seuss_program.specs.declared.tree.Expr.{Expr, fold-Expr}
use Rattle.seuss_program.specs.declared.tree.Node.{Node}
use Rattle.seuss_program.specs.declared.tree.Node.TheVariants as N
use Rattle.seuss_program.specs.declared.tree.Node.TheOpen as L
use Rattle.seuss_program.specs.declared.tree.Node.TheOpen.{Node-F}
use Rattle.seuss_program.specs.declared.tree.Call.{Call}
use Rattle.seuss_program.specs.declared.tree.Pre.{Pre}
use Rattle.seuss_program.specs.declared.tree.Statement.{Statement, fold-Statement}
use Rattle.seuss_program.specs.declared.tree.Statement.TheVariants as S
use Rattle.seuss_program.specs.declared.tree.Statement.TheOpen as P
use Rattle.seuss_program.specs.declared.tree.Statement.TheOpen.{Statement-F}
use Rattle.seuss_program.specs.declared.tree.Alternative.{Alternative}
use Rattle.seuss_program.specs.declared.tree.Form.{Form}
use Rattle.seuss_program.specs.declared.tree.Form.TheVariants as F
use Rattle.seuss_program.specs.declared.tree.Proc.{Proc}
use Rattle.seuss_program.specs.declared.tree.Hint.{Hint}
use Rattle.seuss_program.specs.declared.tree.Semi.{Semi}
use Rattle.seuss_program.specs.declared.tree.Cat.{Cat}
use Rattle.seuss_program.specs.declared.tree.BoxDecl.{BoxDecl}
use Rattle.seuss_program.specs.declared.tree.Tree.{Tree}
use Rattle.seuss_program.specs.declared.program.BoxInfo.{BoxInfo}
use Rattle.seuss_program.specs.declared.program.Program.{Program}
use Rattle.box_types.specs.declared.scopes.Local.{Local}
use Rattle.box_types.specs.declared.scopes.Scope.{Scope}
use Rattle.box_types.specs.declared.scopes.Meaning.{Meaning}
use Rattle.box_types.specs.declared.scopes.Meaning.TheVariants as M
use Rattle.box_types.specs.Scopes.{number_of, meaning_of, meaning_in, target_cat, proc_number, declared}
use Rattle.box_types.specs.Scopes.{behind, at_head, with_result}
use Rattle.box_types.specs.BuiltInTexts.{with_built_ins}
use Rattle.box_types.specs.Actions.{actions_of}

-- the number of what a name stands for; in a text that passes the checks each name stands for something
abbrev pub ref_of : Meaning → Ref
ref_of (M.Slot slot kind is_param) = R.Slot slot
ref_of (M.Variable n kind) = R.Var n
ref_of (M.GivenBox n) = R.Given n
ref_of (M.Procedure n) = R.Method n
ref_of M.Nothing = R.Var 0

-- the number of what a name stands for at a place of a procedure
abbrev pub name_ref : Cat Name → List Local → Name → Ref
name_ref own visible name = ref_of (meaning_of own visible name)

-- one node of an expression with its names as numbers, over its parts
abbrev pub node_step : Cat Name → List Local → Node-F Name (Node Ref) (Expr Ref) → Node Ref
node_step own visible (L.Int z) = N.Int z
node_step own visible (L.Bool b) = N.Bool b
node_step own visible L.Empty = N.Empty
node_step own visible (L.Name name) = N.Name (name_ref own visible name)
node_step own visible (L.Neg e) = N.Neg e
node_step own visible (L.Not e) = N.Not e
node_step own visible (L.Two op l r) = N.Two op l r
node_step own visible (L.One fun e) = N.One fun e

-- an expression with each name as its number
unfoldable pub expression : Cat Name → List Local → Expr Name → Expr Ref
expression own visible e =
    fold-Expr Name (Node Ref) (Expr Ref) (node_step own visible)
    (λ layer. record { line = layer.line; node = layer.node }) e

-- the number of a method in the cat that is called
abbrev pub method_in : Option (Cat Name) → Name → Ref
method_in None name = R.Method 0
method_in (Some c) name = R.Method (unwrap_or (proc_number c name) 0)

-- a call with its names as numbers
abbrev pub call : List (Cat Name) → Cat Name → List Local → Call Name → Call Ref
call cats own visible c = record {
  target = name_ref own visible c.target;
  method = method_in (target_cat cats own visible c.target) c.method;
  args = map (expression own visible) c.args;
}

-- a part with its names as numbers, and the scope after it
pub record Numbered (A : Type 0) : Type 0 where
  pub part : A
  pub scope : Scope

-- what becomes of a statement, by the scope ahead of it
abbrev pub Numbering : Type 0
Numbering = Scope → Numbered (Statement Ref)

-- statements one after the other
abbrev pub in_turn : List Numbering → Scope → Numbered (List (Statement Ref))
in_turn [] scope = record { part = []; scope = scope }
in_turn (s ∷ ss) scope =
    let first = s scope in
    let rest = in_turn ss first.scope in record { part = first.part ∷ rest.part; scope = rest.scope }

-- one statement, by its parts; a name that it declares has the next slot
abbrev pub statement_step : List (Cat Name) → Cat Name → Statement-F Name Numbering → Numbering
statement_step cats own (P.Let name kind e) scope =
    record {
      part = S.Let (R.Slot scope.next) kind (expression own scope.visible e);
      scope = declared name kind false scope;
    }
statement_step cats own (P.Assign name e) scope =
    record {
      part = S.Assign (name_ref own scope.visible name) (expression own scope.visible e);
      scope = scope;
    }
statement_step cats own (P.Call bind c) scope =
    record {
      part = S.Call (option_map (name_ref own scope.visible) bind) (call cats own scope.visible c);
      scope = scope;
    }
statement_step cats own (P.If cond holds fails) scope =
    let first = in_turn holds scope in let second = in_turn fails (behind scope first.scope) in record {
      part = S.If (expression own scope.visible cond) first.part second.part;
      scope = behind scope second.scope;
    }
statement_step cats own (P.While cond turn) scope =
    let inside = in_turn turn scope in
    record {
      part = S.While (expression own scope.visible cond) inside.part;
      scope = behind scope inside.scope;
    }

-- a statement with its names as numbers, by the scope ahead of it
unfoldable pub statement : List (Cat Name) → Cat Name → Statement Name → Numbering
statement cats own s = fold-Statement Name Numbering (statement_step cats own) s

-- the parameters have the first slots
abbrev pub with_params : List Param → Scope → Scope
with_params [] scope = scope
with_params (p ∷ ps) scope = with_params ps (declared p.name p.kind true scope)

module _ (cats : List (Cat Name)) (own : Cat Name) where
  -- statements one after the other
  abbrev pub body : List (Statement Name) → Scope → Numbered (List (Statement Ref))
  body [] scope = record { part = []; scope = scope }
  body (s ∷ ss) scope =
      let first = statement cats own s scope in
      let rest = body ss first.scope in record { part = first.part ∷ rest.part; scope = rest.scope }

  -- the call that an alternative begins with; the name that its result is bound to has the next slot
  abbrev pub bound : Option Name → Call Name → Scope → Numbered (Pre Ref)
  bound None c scope =
      record { part = record { bind = None; call = call cats own scope.visible c }; scope = scope }
  bound (Some name) c scope = record {
    part = record { bind = Some (R.Slot scope.next); call = call cats own scope.visible c };
    scope = declared name K.Int false scope;
  }

  -- a preprocedure with its names as numbers, as one that is there
  abbrev pub some_pre : Numbered (Pre Ref) → Numbered (Option (Pre Ref))
  some_pre n = record { part = Some n.part; scope = n.scope }

  -- a preprocedure with its names as numbers, where there is one, and the scope after it
  abbrev pub early : Option (Pre Name) → Scope → Numbered (Option (Pre Ref))
  early None scope = record { part = None; scope = scope }
  early (Some pre) scope = some_pre (bound pre.bind pre.call scope)

  -- an alternative with its names as numbers; names of its own aren't visible after it, and keep their
  -- slots
  abbrev pub alternative : Alternative Name → Scope → Numbered (Alternative Ref)
  alternative a scope =
      let first = early a.pre scope in let rest = body a.body first.scope in record {
        part = record {
          line = a.line;
          cond = expression own scope.visible a.cond;
          pre = first.part;
          positive = a.positive;
          body = rest.part;
        };
        scope = behind scope rest.scope;
      }

  -- alternatives one after the other, with their names as numbers
  abbrev pub alternatives : List (Alternative Name) → Scope → List (Alternative Ref)
  alternatives [] scope = []
  alternatives (a ∷ rest) scope =
      let first = alternative a scope in first.part ∷ alternatives rest first.scope

  -- the body or the alternatives of a procedure, with their names as numbers
  abbrev pub form : Form Name → Scope → Form Ref
  form (F.Total ss) scope = F.Total (body ss scope).part
  form (F.Partial alts) scope = F.Partial (alternatives alts scope)
  form (F.Action alts) scope = F.Action (alternatives alts scope)

  -- a procedure with its names as numbers
  abbrev pub procedure : Proc Name → Proc Ref
  procedure q = record {
    name = q.name;
    params = q.params;
    gives = q.gives;
    form = form q.form (with_result q (with_params q.params (at_head q [])));
  }

-- the methods and the variables of a certificate
abbrev pub hint : Cat Name → Hint Name → Hint Ref
hint own h = record {
  front = h.front;
  name = ref_of (meaning_in own h.name);
  depth = h.depth;
  line =
      h.line;
}

-- a certificate with its methods and the variables of its hints as numbers
abbrev pub semi : Cat Name → Semi Name → Semi Ref
semi own s = record {
  line = s.line;
  first = ref_of (meaning_in own s.first);
  second = ref_of (meaning_in own s.second);
  hints = map (hint own) s.hints;
}

-- the number of a cat by its name
abbrev pub cat_number : List (Cat Name) → Name → ℕ
cat_number cats name = unwrap_or (number_of (λ (c : Cat Name). c.name) cats name) 0

-- the number of a box by its name, in order of declaration
abbrev pub box_number : List BoxDecl → Name → ℕ
box_number boxes name = unwrap_or (number_of (λ (b : BoxDecl). b.name) boxes name) 0

-- a given box of a cat, with the number of its cat
abbrev pub given : List (Cat Name) → Given Name → Given Ref
given cats g = record { name = g.name; cat = R.Cat (cat_number cats g.cat) }

-- a cat with its names as numbers
abbrev pub cat : List (Cat Name) → Cat Name → Cat Ref
cat cats own = record {
  name = own.name;
  given = map (given cats) own.given;
  vars = own.vars;
  procs = map (procedure cats own) own.procs;
  semis = map (semi own) own.semis;
}

-- a box, before its level is known
abbrev pub box_info : List (Cat Name) → List BoxDecl → BoxDecl → BoxInfo
box_info cats boxes b =
    record { name = b.name; cat = cat_number cats b.cat; given = map (box_number boxes) b.given; level = 0 }

-- the program of a text with the built-in cats in front; actions are numbered by box, then by text
abbrev pub program_of : Tree → Program
program_of tree = numbered (map (cat tree.cats) tree.cats) (map (box_info tree.cats tree.boxes) tree.boxes)
  where
    numbered : List (Cat Ref) → List BoxInfo → Program
    numbered cats boxes = record { cats = cats; boxes = boxes; actions = actions_of cats 0 boxes }

-- the program that a text stands for, in which all levels are 0
abbrev pub named : Tree → Program
named tree = program_of (with_built_ins tree)
