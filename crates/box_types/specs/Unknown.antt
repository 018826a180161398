-- Names that are used and not declared where they are visible.
use Rattle.std.specs.Prelude.{ℕ, Bool, true, false, not, List, [], ◌++◌, Option, None, Some, is_none}
use Rattle.seuss_program.specs.declared.tree.Name.{Name}
use Rattle.seuss_program.specs.declared.tree.Expr.{Expr, fold-Expr}
use Rattle.seuss_program.specs.declared.tree.Node.TheOpen as L
use Rattle.seuss_program.specs.declared.tree.Node.TheOpen.{Node-F}
use Rattle.seuss_program.specs.declared.tree.Cat.{Cat}
use Rattle.seuss_program.specs.declared.tree.BoxDecl.{BoxDecl}
use Rattle.box_types.specs.declared.scopes.Local.{Local}
use Rattle.box_types.specs.declared.scopes.Meaning.{Meaning}
use Rattle.box_types.specs.declared.scopes.Meaning.TheVariants as M
use Rattle.box_types.specs.Scopes.{meaning_of, meaning_in, cat_named, target_cat}
use Rattle.box_types.specs.Twice.{fails, has_name}
use Rattle.box_types.specs.Walks.{CatName, GivenName, VarName, ProcName, LocalName, GivenCat, When, Value}
use Rattle.box_types.specs.Walks.{Assigned, Takes, Target, Method, First, Second, HintName, BoxName, BoxCat}
use Rattle.box_types.specs.Walks.{BoxGiven, Test}

-- what is found at the names of one node of an expression, over its parts
abbrev pub names_step : (Name → List ℕ) → Node-F Name (List ℕ) (List ℕ) → List ℕ
names_step at (L.Int z) = []
names_step at (L.Bool b) = []
names_step at L.Empty = []
names_step at (L.Name name) = at name
names_step at (L.Neg e) = e
names_step at (L.Not e) = e
names_step at (L.Two op l r) = l ++ r
names_step at (L.One fun e) = e

-- what is found at each name of an expression, in the order of the text
unfoldable pub in_names : (Name → List ℕ) → Expr Name → List ℕ
in_names at e = fold-Expr Name (List ℕ) (List ℕ) (names_step at) (λ layer. layer.node) e

-- a name that isn't declared
abbrev pub is_nothing : Meaning → Bool
is_nothing M.Nothing = true
is_nothing (M.Slot slot kind is_param) = false
is_nothing (M.Variable n kind) = false
is_nothing (M.GivenBox n) = false
is_nothing (M.Procedure n) = false

-- a name that a cat, where it is known, doesn't declare
abbrev pub is_undeclared : Option (Cat Name) → Name → Bool
is_undeclared None name = false
is_undeclared (Some c) name = is_nothing (meaning_in c name)

-- the line of a name that stands for nothing at a place of a procedure
abbrev pub unknown_name : Cat Name → List Local → Name → List ℕ
unknown_name own visible name = fails (is_nothing (meaning_of own visible name)) name.line

-- the line of a name that stands for nothing in a cat, outside its procedures
abbrev pub unknown_in : Cat Name → Name → List ℕ
unknown_in own name = fails (is_nothing (meaning_in own name)) name.line

-- the line of a name that is no cat's
abbrev pub unknown_cat : List (Cat Name) → Name → List ℕ
unknown_cat cats name = fails (is_none (cat_named cats name)) name.line

-- the line of a name that is no box's
abbrev pub unknown_box : List BoxDecl → Name → List ℕ
unknown_box boxes name = fails (not (has_name (λ (a : BoxDecl). a.name) boxes name)) name.line

-- a name that is used and not declared where it is visible
abbrev pub unknown_at : Test
unknown_at (GivenCat cats name) = unknown_cat cats name
unknown_at (Value own visible wanted e) = in_names (unknown_name own visible) e
unknown_at (Assigned own visible name) = unknown_name own visible name
unknown_at (Target own visible name) = unknown_name own visible name
unknown_at (Method cats own visible c) =
    fails (is_undeclared (target_cat cats own visible c.target) c.method) c.method.line
unknown_at (First own n s) = unknown_in own s.first
unknown_at (Second own name) = unknown_in own name
unknown_at (HintName own s n h) = unknown_in own h.name
unknown_at (BoxCat cats b) = unknown_cat cats b.cat
unknown_at (BoxGiven cats boxes b n name) = unknown_box boxes name
unknown_at (CatName cats n name) = []
unknown_at (GivenName own n name) = []
unknown_at (VarName own n name) = []
unknown_at (ProcName own n q earlier) = []
unknown_at (LocalName own n scope name) = []
unknown_at (When n line) = []
unknown_at (Takes cats own visible kind name c) = []
unknown_at (BoxName cats boxes n b) = []
