-- The places of a text where a check may fail, in the order of its tokens. A test gives the lines that
-- fail at one place, and a walk puts together what it gives at each of them.
use Rattle.std.specs.Prelude.{ℕ, ◌+◌, true, false, List, [], ◌∷◌, ◌++◌, slice_get, Option, None, Some}
use Rattle.std.specs.Prelude.{option_map}
use Rattle.seuss_program.specs.declared.tree.Name.{Name}
use Rattle.seuss_program.specs.declared.tree.Kind.{Kind}
use Rattle.seuss_program.specs.declared.tree.Kind.TheVariants as K
use Rattle.seuss_program.specs.declared.tree.Var.{Var}
use Rattle.seuss_program.specs.declared.tree.Param.{Param}
use Rattle.seuss_program.specs.declared.tree.Given.{Given}
use Rattle.seuss_program.specs.declared.tree.Expr.{Expr}
use Rattle.seuss_program.specs.declared.tree.Call.{Call}
use Rattle.seuss_program.specs.declared.tree.Pre.{Pre}
use Rattle.seuss_program.specs.declared.tree.Statement.{Statement, fold-Statement}
use Rattle.seuss_program.specs.declared.tree.Statement.TheOpen as S
use Rattle.seuss_program.specs.declared.tree.Statement.TheOpen.{Statement-F}
use Rattle.seuss_program.specs.declared.tree.Alternative.{Alternative}
use Rattle.seuss_program.specs.declared.tree.Form.{Form}
use Rattle.seuss_program.specs.declared.tree.Form.TheVariants as F
use Rattle.seuss_program.specs.declared.tree.Proc.{Proc}
use Rattle.seuss_program.specs.declared.tree.Hint.{Hint}
use Rattle.seuss_program.specs.declared.tree.Semi.{Semi}
use Rattle.seuss_program.specs.declared.tree.Cat.{Cat}
use Rattle.seuss_program.specs.declared.tree.BoxDecl.{BoxDecl}
use Rattle.seuss_program.specs.declared.tree.Tree.{Tree}
use Rattle.box_types.specs.declared.scopes.Local.{Local}
use Rattle.box_types.specs.declared.scopes.Scope.{Scope}
use Rattle.box_types.specs.declared.scopes.Meaning.{Meaning}
use Rattle.box_types.specs.declared.scopes.Meaning.TheVariants as M
use Rattle.box_types.specs.Scopes.{meaning_of, method_called, declared, behind, at_head, with_result}

-- A place of a text. Numbers count from 0: a cat among all cats, with the built-in ones in front, a
-- procedure, a given box, a variable and a certificate in its cat, an alternative in its procedure, a
-- hint in its certificate, a box among all boxes.
pub data Place : Type 0 where
  -- a declared name: of a cat, of a given box, of a variable, of a procedure, of a local
  CatName : List (Cat Name) → ℕ → Name → Place
  GivenName : Cat Name → ℕ → Name → Place
  VarName : Cat Name → ℕ → Name → Place
  ProcName : Cat Name → ℕ → Proc Name → List Name → Place
  LocalName : Cat Name → ℕ → Scope → Name → Place
  -- the cat of a given box
  GivenCat : List (Cat Name) → Name → Place
  -- the head of an alternative, with its line
  When : ℕ → ℕ → Place
  -- an expression, and the type that is wanted where there is one
  Value : Cat Name → List Local → Option Kind → Expr Name → Place
  -- an assigned name
  Assigned : Cat Name → List Local → Name → Place
  -- a name of this type, where it is known, that takes the result of a call
  Takes : List (Cat Name) → Cat Name → List Local → Option Kind → Name → Call Name → Place
  -- the box and the method that a call names
  Target : Cat Name → List Local → Name → Place
  Method : List (Cat Name) → Cat Name → List Local → Call Name → Place
  -- the two names of a certificate, and a hint of it
  First : Cat Name → ℕ → Semi Name → Place
  Second : Cat Name → Name → Place
  HintName : Cat Name → Semi Name → ℕ → Hint Name → Place
  -- a box: its name, its cat, and a box that it is given
  BoxName : List (Cat Name) → List BoxDecl → ℕ → BoxDecl → Place
  BoxCat : List (Cat Name) → BoxDecl → Place
  BoxGiven : List (Cat Name) → List BoxDecl → BoxDecl → ℕ → Name → Place

-- the lines that fail at a place
abbrev pub Test : Type 0
Test = Place → List ℕ

-- what is found in a part of a text, and the scope after it
pub record Walked : Type 0 where
  pub lines : List ℕ
  pub scope : Scope

-- what is found in a part of a text and the scope after it, by the scope ahead of it
abbrev pub Walk : Type 0
Walk = Scope → Walked

-- the type of what a name stands for, where it has one
abbrev pub kind_of : Meaning → Option Kind
kind_of (M.Slot slot kind is_param) = Some kind
kind_of (M.Variable n kind) = Some kind
kind_of (M.GivenBox n) = None
kind_of (M.Procedure n) = None
kind_of M.Nothing = None

-- the types of the parameters of a method
abbrev pub params_of : Option (Proc Name) → List Param
params_of None = []
params_of (Some q) = q.params

-- the type of the parameter of this number, where there is one
abbrev pub kind_at : List Param → ℕ → Option Kind
kind_at params n = option_map (λ (p : Param). p.kind) (slice_get params n)

-- parts one after the other
abbrev pub in_turn : List Walk → Walk
in_turn [] scope = record { lines = []; scope = scope }
in_turn (w ∷ ws) scope =
    let first = w scope in
    let rest = in_turn ws first.scope in record { lines = first.lines ++ rest.lines; scope = rest.scope }

-- the parts of a block, whose names aren't visible after it
abbrev pub closed : Scope → Walked → Walked
closed before inside = record { lines = inside.lines; scope = behind before inside.scope }

-- what is found at items one after the other, of which the first has this number
abbrev pub numbered : {X : Type 0} → (ℕ → X → List ℕ) → ℕ → List X → List ℕ
numbered at n [] = []
numbered at n (x ∷ xs) = at n x ++ numbered at (n + 1) xs

-- walks through items one after the other, of which the first has this number
abbrev pub walked : {X : Type 0} → (ℕ → X → Walk) → ℕ → List X → Walk
walked at n [] scope = record { lines = []; scope = scope }
walked at n (x ∷ xs) scope =
    let first = at n x scope in
    let rest = walked at (n + 1) xs first.scope in
    record { lines = first.lines ++ rest.lines; scope = rest.scope }

-- three parts one after the other, of which the first leaves the scope as it is
abbrev pub three : List ℕ → Walk → Walk → Walk
three lines w v scope =
    let first = w scope in
    let rest = v first.scope in record { lines = lines ++ (first.lines ++ rest.lines); scope = rest.scope }

module _ (test : Test) (cats : List (Cat Name)) where
  module _ (own : Cat Name) where
    -- an argument; one that is beyond the parameters has no wanted type
    abbrev pub argument : List Local → List Param → ℕ → Expr Name → List ℕ
    argument visible params n e = test (Value own visible (kind_at params n) e)

    -- what is found in a call: at its box, at its method and in its arguments
    abbrev pub call : List Local → Call Name → List ℕ
    call visible c =
        test (Target own visible c.target) ++ (test (Method cats own visible c)
        ++ numbered (argument visible (params_of (method_called cats own visible c))) 0 c.args)

    -- an assigned name that takes the result of a call
    abbrev pub taken : List Local → Option Name → Call Name → List ℕ
    taken visible None c = []
    taken visible (Some name) c =
        test (Assigned own visible name)
        ++ test (Takes cats own visible (kind_of (meaning_of own visible name)) name c)

    module _ (number : ℕ) where
      -- one statement of the procedure of this number, by its parts
      abbrev pub statement_step : Statement-F Name Walk → Walk
      statement_step (S.Let name kind e) scope =
          record {
            lines = test (LocalName own number scope name) ++ test (Value own scope.visible (Some kind) e);
            scope = declared name kind false scope;
          }
      statement_step (S.Assign name e) scope =
          record {
            lines = test (Assigned own scope.visible name)
                ++ test (Value own scope.visible (kind_of (meaning_of own scope.visible name)) e);
            scope = scope;
          }
      statement_step (S.Call bind c) scope =
          record { lines = taken scope.visible bind c ++ call scope.visible c; scope = scope }
      statement_step (S.If cond holds fails) scope =
          let first = closed scope (in_turn holds scope) in
          let second = closed scope (in_turn fails first.scope) in
          record {
            lines = test (Value own scope.visible (Some K.Bool) cond) ++ (first.lines ++ second.lines);
            scope = second.scope;
          }
      statement_step (S.While cond turn) scope =
          let inside = closed scope (in_turn turn scope) in
          record {
            lines = test (Value own scope.visible (Some K.Bool) cond) ++ inside.lines;
            scope = inside.scope;
          }

      -- what is found in a statement of the procedure of this number
      unfoldable pub statement : Statement Name → Walk
      statement s = fold-Statement Name Walk statement_step s

      -- statements one after the other
      abbrev pub body : List (Statement Name) → Walk
      body [] scope = record { lines = []; scope = scope }
      body (s ∷ ss) scope =
          let first = statement s scope in
          let rest = body ss first.scope in record { lines = first.lines ++ rest.lines; scope = rest.scope }

      -- The call that an alternative begins with. A name that its result is bound to stands before the
      -- call, and is visible from after it on.
      abbrev pub bound : Option Name → Call Name → Walk
      bound None c scope = record { lines = call scope.visible c; scope = scope }
      bound (Some name) c scope = record {
        lines = test (LocalName own number scope name)
            ++ (test (Takes cats own scope.visible (Some K.Int) name c) ++ call scope.visible c);
        scope = declared name K.Int false scope;
      }

      -- what is found in a preprocedure, where there is one
      abbrev pub early : Option (Pre Name) → Walk
      early None scope = record { lines = []; scope = scope }
      early (Some pre) scope = bound pre.bind pre.call scope

      -- the head of an alternative: its line and its precondition
      abbrev pub head : List Local → ℕ → Alternative Name → List ℕ
      head visible n a = test (When n a.line) ++ test (Value own visible (Some K.Bool) a.cond)

      -- the alternative of this number
      abbrev pub alternative : ℕ → Alternative Name → Walk
      alternative n a scope = closed scope (three (head scope.visible n a) (early a.pre) (body a.body) scope)

      -- what is found in the body or in the alternatives of a procedure
      abbrev pub form : Form Name → Walk
      form (F.Total ss) scope = body ss scope
      form (F.Partial alts) scope = walked alternative 0 alts scope
      form (F.Action alts) scope = walked alternative 0 alts scope

      -- what is found at a parameter, which is visible from here on
      abbrev pub param : Param → Walk
      param p scope =
          record {
            lines = test (LocalName own number scope p.name);
            scope = declared p.name p.kind true scope;
          }

      -- the parameters of a procedure, after which its result has a slot
      abbrev pub signature : Proc Name → Walk
      signature q scope =
          let inside = walked (λ (n : ℕ). param) 0 q.params (at_head q scope.earlier) in
          record { lines = inside.lines; scope = with_result q inside.scope }

    -- the procedure of this number, after the locals of those before it
    abbrev pub procedure : ℕ → Proc Name → Walk
    procedure n q scope = three (test (ProcName own n q scope.earlier)) (signature n q) (form n q.form) scope

    -- all procedures of the cat
    abbrev pub procedures : List ℕ
    procedures = (walked procedure 0 own.procs (record { visible = []; next = 0; earlier = [] })).lines

    -- what is found at the given box of this number, and at its cat
    abbrev pub given : ℕ → Given Name → List ℕ
    given n g = test (GivenName own n g.name) ++ test (GivenCat cats g.cat)

    -- what is found at the variable of this number
    abbrev pub variable : ℕ → Var → List ℕ
    variable n v = test (VarName own n v.name)

    -- what is found at the hint of this number of a certificate
    abbrev pub hint : Semi Name → ℕ → Hint Name → List ℕ
    hint s n h = test (HintName own s n h)

    -- what is found at the certificate of this number: at its first method, at its second one, at its
    -- hints
    abbrev pub semi : ℕ → Semi Name → List ℕ
    semi n s = test (First own n s) ++ (test (Second own s.second) ++ numbered (hint s) 0 s.hints)

  -- the cat of this number
  abbrev pub cat : ℕ → Cat Name → List ℕ
  cat n own =
      test (CatName cats n own.name) ++ (numbered (given own) 0 own.given
      ++ (numbered (variable own) 0 own.vars ++ (procedures own ++ numbered (semi own) 0 own.semis)))

  module _ (boxes : List BoxDecl) where
    -- what is found at the box of this number that a box is given
    abbrev pub box_given : BoxDecl → ℕ → Name → List ℕ
    box_given b n name = test (BoxGiven cats boxes b n name)

    -- the box of this number
    abbrev pub box : ℕ → BoxDecl → List ℕ
    box n b = test (BoxName cats boxes n b) ++ (test (BoxCat cats b) ++ numbered (box_given b) 0 b.given)

-- what a test finds in a whole text
abbrev pub found : Test → Tree → List ℕ
found test tree =
    numbered (cat test tree.cats) 0 tree.cats ++ numbered (box test tree.cats tree.boxes) 0 tree.boxes
