-- Expressions whose type is known and isn't the one wanted.
use Rattle.std.specs.Prelude.{ℕ, Bool, true, false, not, ◌||◌, List, [], ◌∷◌, ◌++◌, slice_get, Option, None}
use Rattle.std.specs.Prelude.{Some, option_map, option_and_then}
use Rattle.seuss_program.specs.declared.tree.Name.{Name}
use Rattle.seuss_program.specs.declared.tree.Kind.{Kind}
use Rattle.seuss_program.specs.declared.tree.Kind.TheVariants as K
use Rattle.seuss_program.specs.declared.tree.Op.{Op}
use Rattle.seuss_program.specs.declared.tree.Op.TheVariants as O
use Rattle.seuss_program.specs.declared.tree.Fun.{Fun}
use Rattle.seuss_program.specs.declared.tree.Fun.TheVariants as U
use Rattle.seuss_program.specs.declared.tree.Expr.{Expr, fold-Expr}
use Rattle.seuss_program.specs.declared.tree.Node.TheOpen as L
use Rattle.seuss_program.specs.declared.tree.Node.TheOpen.{Node-F}
use Rattle.seuss_program.specs.declared.tree.Given.{Given}
use Rattle.seuss_program.specs.declared.tree.Proc.{Proc}
use Rattle.seuss_program.specs.declared.tree.Cat.{Cat}
use Rattle.seuss_program.specs.declared.tree.BoxDecl.{BoxDecl}
use Rattle.box_types.specs.declared.scopes.Local.{Local}
use Rattle.box_types.specs.Scopes.{same, named, meaning_of, cat_named, method_called}
use Rattle.box_types.specs.Twice.{fails}
use Rattle.box_types.specs.Walks.{CatName, GivenName, VarName, ProcName, LocalName, GivenCat, When, Value}
use Rattle.box_types.specs.Walks.{Assigned, Takes, Target, Method, First, Second, HintName, BoxName, BoxCat}
use Rattle.box_types.specs.Walks.{BoxGiven, Test, kind_of}

-- whether a type isn't the one wanted
abbrev pub is_other : Kind → Kind → Bool
is_other K.Int K.Int = false
is_other K.Bool K.Bool = false
is_other K.Seq K.Seq = false
is_other wanted kind = true

-- whether both types are known and aren't the same
abbrev pub differs : Option Kind → Option Kind → Bool
differs None kind = false
differs (Some wanted) None = false
differs (Some wanted) (Some kind) = is_other wanted kind

-- the type of an expression, where it has one, and the lines of its parts that are wrong
pub record Typed : Type 0 where
  pub kind : Option Kind
  pub lines : List ℕ

-- a part of an expression, with the line of its first token
pub record Part : Type 0 where
  pub line : ℕ
  pub typed : Typed

-- what is wrong with an expression where this type is wanted
abbrev pub wrong : Option Kind → Part → List ℕ
wrong wanted p = p.typed.lines ++ fails (differs wanted p.typed.kind) p.line

-- an expression of this type over parts with these wrong lines: with a wrong part it has no type
abbrev pub whole : Kind → List ℕ → Typed
whole kind [] = record { kind = Some kind; lines = [] }
whole kind (l ∷ ls) = record { kind = None; lines = l ∷ ls }

-- the type that an operator gives
abbrev pub gives : Op → Kind
gives O.Or = K.Bool
gives O.And = K.Bool
gives O.Eq = K.Bool
gives O.Ne = K.Bool
gives O.Lt = K.Bool
gives O.Le = K.Bool
gives O.Gt = K.Bool
gives O.Ge = K.Bool
gives O.Plus = K.Int
gives O.Minus = K.Int
gives O.WrapPlus = K.Int
gives O.WrapMinus = K.Int
gives O.Times = K.Int
gives O.Divide = K.Int
gives O.Remainder = K.Int
gives O.At = K.Int
gives O.Add = K.Seq

-- whether a type is known and is that of sequences
abbrev pub is_seq : Option Kind → Bool
is_seq None = false
is_seq (Some K.Int) = false
is_seq (Some K.Bool) = false
is_seq (Some K.Seq) = true

-- whether an operator doesn't take this type on the left; `=` and `<>` take an int or a bool there
abbrev pub refuses : Op → Option Kind → Bool
refuses O.Or = differs (Some K.Bool)
refuses O.And = differs (Some K.Bool)
refuses O.Eq = is_seq
refuses O.Ne = is_seq
refuses O.Lt = differs (Some K.Int)
refuses O.Le = differs (Some K.Int)
refuses O.Gt = differs (Some K.Int)
refuses O.Ge = differs (Some K.Int)
refuses O.Plus = differs (Some K.Int)
refuses O.Minus = differs (Some K.Int)
refuses O.WrapPlus = differs (Some K.Int)
refuses O.WrapMinus = differs (Some K.Int)
refuses O.Times = differs (Some K.Int)
refuses O.Divide = differs (Some K.Int)
refuses O.Remainder = differs (Some K.Int)
refuses O.At = differs (Some K.Seq)
refuses O.Add = differs (Some K.Seq)

-- the type that an operator takes on the right, by that of the left part
abbrev pub beside : Op → Option Kind → Option Kind
beside O.Or kind = Some K.Bool
beside O.And kind = Some K.Bool
beside O.Eq kind = kind
beside O.Ne kind = kind
beside O.Lt kind = Some K.Int
beside O.Le kind = Some K.Int
beside O.Gt kind = Some K.Int
beside O.Ge kind = Some K.Int
beside O.Plus kind = Some K.Int
beside O.Minus kind = Some K.Int
beside O.WrapPlus kind = Some K.Int
beside O.WrapMinus kind = Some K.Int
beside O.Times kind = Some K.Int
beside O.Divide kind = Some K.Int
beside O.Remainder kind = Some K.Int
beside O.At kind = Some K.Int
beside O.Add kind = Some K.Int

-- an operator over its parts
abbrev pub two : Op → Part → Part → Typed
two op l r =
    whole (gives op)
    ((l.typed.lines ++ fails (refuses op l.typed.kind) l.line) ++ wrong (beside op l.typed.kind) r)

-- a function of one part that takes and gives these types
abbrev pub one : Kind → Kind → Part → Typed
one takes given p = whole given (wrong (Some takes) p)

-- what a function of a sequence gives
abbrev pub given_by : Fun → Kind
given_by U.First = K.Int
given_by U.Last = K.Int
given_by U.Rest = K.Seq
given_by U.Front = K.Seq
given_by U.Len = K.Int

-- what has this type, or none, and no wrong parts
abbrev pub plain : Option Kind → Typed
plain kind = record { kind = kind; lines = [] }

-- the type of a node, by its parts
abbrev pub node_step : Cat Name → List Local → Node-F Name Typed Part → Typed
node_step own visible (L.Int z) = plain (Some K.Int)
node_step own visible (L.Bool b) = plain (Some K.Bool)
node_step own visible L.Empty = plain (Some K.Seq)
node_step own visible (L.Name name) = plain (kind_of (meaning_of own visible name))
node_step own visible (L.Neg e) = one K.Int K.Int e
node_step own visible (L.Not e) = one K.Bool K.Bool e
node_step own visible (L.Two op l r) = two op l r
node_step own visible (L.One fun e) = one K.Seq (given_by fun) e

-- an expression as a part: the line of its first token, its type and its wrong parts
unfoldable pub part : Cat Name → List Local → Expr Name → Part
part own visible e = fold-Expr Name Typed Part (node_step own visible)
    (λ layer. record { line = layer.line; typed = layer.node }) e

-- whether a type is known and isn't int
abbrev pub is_no_int : Option Kind → Bool
is_no_int None = false
is_no_int (Some K.Int) = false
is_no_int (Some K.Bool) = true
is_no_int (Some K.Seq) = true

-- whether a method is known and has no result
abbrev pub has_no_result : Option (Proc Name) → Bool
has_no_result None = false
has_no_result (Some q) = not q.gives

-- the cat that a box of this cat wants as its given box of this number, where it is known
abbrev pub wanted_cat : List (Cat Name) → Name → ℕ → Option Name
wanted_cat cats cat n =
    option_map (λ (g : Given Name). g.cat)
    (option_and_then (λ (c : Cat Name). slice_get c.given n) (cat_named cats cat))

-- the cat of the box of this name, where it is known
abbrev pub cat_of_box : List BoxDecl → Name → Option Name
cat_of_box boxes name = option_map (λ (b : BoxDecl). b.cat) (named (λ (b : BoxDecl). b.name) boxes name)

-- whether both cats are known and aren't the same
abbrev pub is_other_cat : Option Name → Option Name → Bool
is_other_cat None cat = false
is_other_cat (Some wanted) None = false
is_other_cat (Some wanted) (Some cat) = not (same wanted cat)

-- what is of another type than wanted: an expression, a name that takes a result, a given box
abbrev pub type_at : Test
type_at (Value own visible wanted e) = wrong wanted (part own visible e)
type_at (Takes cats own visible kind name c) =
    fails (is_no_int kind || has_no_result (method_called cats own visible c)) name.line
type_at (BoxGiven cats boxes b n name) =
    fails (is_other_cat (wanted_cat cats b.cat n) (cat_of_box boxes name)) name.line
type_at (CatName cats n name) = []
type_at (GivenName own n name) = []
type_at (VarName own n name) = []
type_at (ProcName own n q earlier) = []
type_at (LocalName own n scope name) = []
type_at (GivenCat cats name) = []
type_at (When n line) = []
type_at (Assigned own visible name) = []
type_at (Target own visible name) = []
type_at (Method cats own visible c) = []
type_at (First own n s) = []
type_at (Second own name) = []
type_at (HintName own s n h) = []
type_at (BoxName cats boxes n b) = []
type_at (BoxCat cats b) = []
