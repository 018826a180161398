-- What is true of a tree by its form alone: of every tree that a text spells.
use Rattle.std.specs.Prelude.{◌≡◌, ◌≢◌, Bool, true, false, ◌&&◌, List, [], ◌∷◌, ◌++◌, Option, None, Some}
use Rattle.std.specs.Prelude.{All, IsTrue}
use Rattle.std.specs.List.{flat_map}
use Rattle.seuss_program.specs.declared.tree.Name.{Name}
use Rattle.seuss_program.specs.declared.tree.Kind.{Kind}
use Rattle.seuss_program.specs.declared.tree.Kind.TheVariants as K
use Rattle.seuss_program.specs.declared.tree.Param.{Param}
use Rattle.seuss_program.specs.declared.tree.Var.{Var}
use Rattle.seuss_program.specs.declared.tree.Node.TheOpen as N
use Rattle.seuss_program.specs.declared.tree.Node.TheOpen.{Node-F}
use Rattle.seuss_program.specs.declared.tree.Expr.{Expr, fold-Expr}
use Rattle.seuss_program.specs.declared.tree.Pre.{Pre}
use Rattle.seuss_program.specs.declared.tree.Statement.{Statement, fold-Statement}
use Rattle.seuss_program.specs.declared.tree.Statement.TheOpen as S
use Rattle.seuss_program.specs.declared.tree.Statement.TheOpen.{Statement-F}
use Rattle.seuss_program.specs.declared.tree.Alternative.{Alternative}
use Rattle.seuss_program.specs.declared.tree.Form.{Form}
use Rattle.seuss_program.specs.declared.tree.Form.TheVariants as F
use Rattle.seuss_program.specs.declared.tree.Proc.{Proc}
use Rattle.seuss_program.specs.declared.tree.Cat.{Cat}
use Rattle.seuss_program.specs.declared.tree.Tree.{Tree}
use Rattle.seuss_program.specs.declared.state.Value.{Value}
use Rattle.seuss_program.specs.declared.state.Value.TheVariants as V
use Rattle.seuss_program.specs.Values.{fits, HasSize}
use Rattle.seuss_program.specs.Keeping.{all_true}

-- a type of parameters and locals
abbrev pub IsSmall : Kind → Type 0
IsSmall K.Int = Unit {0}
IsSmall K.Bool = Unit {0}
IsSmall K.Seq = ⊥

-- a value of this type
abbrev pub HasKind : Value → Kind → Type 0
HasKind (V.Int z) kind = kind ≡ K.Int
HasKind (V.Bool b) kind = kind ≡ K.Bool
HasKind (V.Seq zs) kind = kind ≡ K.Seq

-- the types of the locals that one statement declares by `let`, over those of the statements inside it
abbrev pub kinds_step : Statement-F Name (List Kind) → List Kind
kinds_step (S.Let name kind e) = kind ∷ []
kinds_step (S.Assign name e) = []
kinds_step (S.Call bind call) = []
kinds_step (S.If cond holds fails) = flat_map (λ ks. ks) holds ++ flat_map (λ ks. ks) fails
kinds_step (S.While cond turn) = flat_map (λ ks. ks) turn

-- the types of the locals that a statement declares by `let`, in the order of the text
unfoldable pub let_kinds : Statement Name → List Kind
let_kinds s = fold-Statement Name (List Kind) kinds_step s

-- the locals of a body are no sequences
abbrev pub HasSmallLocals : List (Statement Name) → Type 0
HasSmallLocals body = All IsSmall (flat_map let_kinds body)

-- whether each number in one node of an expression has 64 bits, over its parts
abbrev pub node_numbers : Node-F Name Bool Bool → Bool
node_numbers (N.Int z) = fits z
node_numbers (N.Bool b) = true
node_numbers N.Empty = true
node_numbers (N.Name name) = true
node_numbers (N.Neg e) = e
node_numbers (N.Not e) = e
node_numbers (N.Two op l r) = l && r
node_numbers (N.One fun e) = e

-- whether each number in an expression has 64 bits
unfoldable pub has_numbers : Expr Name → Bool
has_numbers e = fold-Expr Name Bool Bool node_numbers (λ layer. layer.node) e

-- whether each number in these expressions has 64 bits
abbrev pub have_numbers : List (Expr Name) → Bool
have_numbers [] = true
have_numbers (e ∷ es) = has_numbers e && have_numbers es

-- whether each number in one statement has 64 bits, over the statements inside it
abbrev pub numbers_step : Statement-F Name Bool → Bool
numbers_step (S.Let name kind e) = has_numbers e
numbers_step (S.Assign name e) = has_numbers e
numbers_step (S.Call bind call) = have_numbers call.args
numbers_step (S.If cond holds fails) = has_numbers cond && (all_true holds && all_true fails)
numbers_step (S.While cond turn) = has_numbers cond && all_true turn

-- whether each number in a statement has 64 bits
unfoldable pub statement_numbers : Statement Name → Bool
statement_numbers s = fold-Statement Name Bool numbers_step s

-- whether each number in a body has 64 bits
abbrev pub body_numbers : List (Statement Name) → Bool
body_numbers [] = true
body_numbers (s ∷ ss) = statement_numbers s && body_numbers ss

-- whether each number in a preprocedure has 64 bits, where there is one
abbrev pub pre_numbers : Option (Pre Name) → Bool
pre_numbers None = true
pre_numbers (Some pre) = have_numbers pre.call.args

-- whether each number in these alternatives has 64 bits
abbrev pub alternative_numbers : List (Alternative Name) → Bool
alternative_numbers [] = true
alternative_numbers (a ∷ as_) =
    (has_numbers a.cond && (pre_numbers a.pre && body_numbers a.body)) && alternative_numbers as_

-- whether each number in a procedure has 64 bits
abbrev pub form_numbers : Form Name → Bool
form_numbers (F.Total body) = body_numbers body
form_numbers (F.Partial alternatives) = alternative_numbers alternatives
form_numbers (F.Action alternatives) = alternative_numbers alternatives

-- there is an alternative, and the locals of each are no sequences
pub record AreWellFormed (alternatives : List (Alternative Name)) : Type 0 where
  pub some : alternatives ≢ []
  pub bodies : All (λ (a : Alternative Name). HasSmallLocals a.body) alternatives

-- an action has neither parameters nor a result
pub record IsAlone (q : Proc Name) : Type 0 where
  pub params : q.params ≡ []
  pub gives : q.gives ≡ false

-- the locals of a procedure are no sequences, it has an alternative unless it is total, and an action has
-- neither parameters nor a result
abbrev pub HasWellFormed : Proc Name → Form Name → Type 0
HasWellFormed q (F.Total body) = HasSmallLocals body
HasWellFormed q (F.Partial alternatives) = AreWellFormed alternatives
HasWellFormed q (F.Action alternatives) = AreWellFormed alternatives × IsAlone q

-- the parameters of a procedure are no sequences, and so on for what it consists of; its numbers have 64
-- bits
pub record IsWellFormedProcedure (q : Proc Name) : Type 0 where
  pub params : All (λ (x : Param). IsSmall x.kind) q.params
  pub form : HasWellFormed q q.form
  pub numbers : IsTrue (form_numbers q.form)

-- each start value of a cat is of its variable's type, and its numbers have 64 bits
pub record IsWellFormedCat (c : Cat Name) : Type 0 where
  pub starts : All (λ (v : Var). HasKind v.start v.kind) c.vars
  pub sizes : All (λ (v : Var). HasSize v.start) c.vars
  pub procs : All IsWellFormedProcedure c.procs

-- A tree is well formed where start values have the types of their variables, parameters and locals are no
-- sequences, actions have no parameters and no result, each partial procedure has an alternative, and every
-- number has 64 bits.
abbrev pub IsWellFormed : Tree → Type 0
IsWellFormed tree = All IsWellFormedCat tree.cats
