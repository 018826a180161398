-- Properties of the boxes of a cat, and what it is that they are kept.
use Rattle.std.specs.Prelude.{◌≡◌, ◌≤◌, ℕ, ℤ, pos, int_le, Bool, true, false, ◌&&◌, List, [], ◌∷◌}
use Rattle.std.specs.Prelude.{slice_get, Some, Ok, All, IsTrue}
use Rattle.seuss_base.specs.declared.outcome.Outcome.{Outcome}
use Rattle.seuss_base.specs.declared.outcome.Outcome.TheVariants as O
use Rattle.seuss_program.specs.declared.program.Program.{Program}
use Rattle.seuss_program.specs.declared.program.BoxInfo.{BoxInfo}
use Rattle.seuss_program.specs.declared.tree.Ref.{Ref}
use Rattle.seuss_program.specs.declared.tree.Kind.TheVariants as K
use Rattle.seuss_program.specs.declared.tree.Op.{Op}
use Rattle.seuss_program.specs.declared.tree.Op.TheVariants as P
use Rattle.seuss_program.specs.declared.tree.Fun.{Fun}
use Rattle.seuss_program.specs.declared.tree.Fun.TheVariants as U
use Rattle.seuss_program.specs.declared.tree.Node.TheOpen as N
use Rattle.seuss_program.specs.declared.tree.Node.TheOpen.{Node-F}
use Rattle.seuss_program.specs.declared.tree.Expr.{Expr, fold-Expr}
use Rattle.seuss_program.specs.declared.tree.Cat.{Cat}
use Rattle.seuss_program.specs.declared.state.State.{State}
use Rattle.seuss_program.specs.declared.state.Value.TheVariants as V
use Rattle.seuss_program.specs.Values.{fits, value}
use Rattle.seuss_program.specs.Programs.{vars_of}
use Rattle.seuss_program.specs.Attempts.{action_attempt}
use Rattle.seuss_program.specs.Initials.{initial}
use Rattle.seuss_program.specs.Keeping.{HasForm, Scope, kind_in, var_kinds}
pub use Rattle.safety_check.specs.declared.property.Property.{Property}

-- what a property sees: the variables of its cat
abbrev pub property_scope : Program → Cat Ref → Scope
property_scope p c = record { cats = p.cats; given = []; vars = var_kinds c.vars; slots = []; params = 0 }

-- An expression as a property may have it: whether it is a number in digits, whether it is a name, and
-- whether it has only literals with or without a minus, names, `len` of a name, `&+`, `&-`, comparisons,
-- `and`, `or` and `not`.
pub record Look : Type 0 where
  pub digits : Bool
  pub name : Bool
  pub allowed : Bool

-- whether a property may have an operator
abbrev pub is_allowed : Op → Bool
is_allowed P.Or = true
is_allowed P.And = true
is_allowed P.Eq = true
is_allowed P.Ne = true
is_allowed P.Lt = true
is_allowed P.Le = true
is_allowed P.Gt = true
is_allowed P.Ge = true
is_allowed P.Plus = false
is_allowed P.Minus = false
is_allowed P.WrapPlus = true
is_allowed P.WrapMinus = true
is_allowed P.Times = false
is_allowed P.Divide = false
is_allowed P.Remainder = false
is_allowed P.At = false
is_allowed P.Add = false

-- whether a function is `len`
abbrev pub is_length : Fun → Bool
is_length U.First = false
is_length U.Last = false
is_length U.Rest = false
is_length U.Front = false
is_length U.Len = true

-- one node, by its parts
abbrev pub node_look : Node-F Ref Look Look → Look
node_look (N.Int z) = record { digits = int_le (pos 0) z; name = false; allowed = true }
node_look (N.Bool b) = record { digits = false; name = false; allowed = true }
node_look N.Empty = record { digits = false; name = false; allowed = false }
node_look (N.Name name) = record { digits = false; name = true; allowed = true }
node_look (N.Neg e) = record { digits = false; name = false; allowed = e.digits }
node_look (N.Not e) = record { digits = false; name = false; allowed = e.allowed }
node_look (N.Two op l r) = record
    { digits = false; name = false; allowed = is_allowed op && (l.allowed && r.allowed) }
node_look (N.One fun e) = record { digits = false; name = false; allowed = is_length fun && e.name }

-- an expression as a property may have it
unfoldable pub look_of : Expr Ref → Look
look_of e = fold-Expr Ref Look Look node_look (λ layer. layer.node) e

-- A property of a program: it is of a cat that the text declares, so not of `Input` or `Output`, which are
-- the first two; it is a bool over the variables of that cat, and of an allowed form.
pub record IsProperty (p : Program) (property : Property) : Type 0 where
  pub declared : 2 ≤ property.cat
  pub cat : Cat Ref
  pub there : slice_get p.cats property.cat ≡ Some cat
  pub kind : kind_in (property_scope p cat) property.expr ≡ Some K.Bool
  pub allowed : (look_of property.expr).allowed ≡ true

-- a box of the cat
pub record IsBoxOf (p : Program) (property : Property) (box : ℕ) : Type 0 where
  pub info : BoxInfo
  pub there : slice_get p.boxes box ≡ Some info
  pub cat : info.cat ≡ property.cat

-- the property is true of the variables of a box
abbrev pub HoldsAt : Property → State → ℕ → Type 0
HoldsAt property state box = value property.expr (vars_of state box) [] ≡ Ok (V.Bool true)

-- a property holds in a state where it is true in each box of its cat
pub record Holds (p : Program) (property : Property) (state : State) : Type 0 where
  pub at : (box : ℕ) → IsBoxOf p property box → HoldsAt property state box

-- an attempt after which a run goes on
abbrev pub Ended : Outcome → Type 0
Ended O.Accepted = Unit {0}
Ended O.Rejected = Unit {0}
Ended (O.Trapped t) = ⊥
Ended O.Spent = ⊥

-- each attempt of a run is accepted or rejected
abbrev pub All_ended : List Outcome → Type 0
All_ended [] = Unit {0}
All_ended (o ∷ os) = Ended o × All_ended os

-- A property is kept where it holds in every initial state, and each attempt of an action that is accepted
-- or rejected leaves a state in which it holds, from every state in which it holds and with every budget.
pub record IsKept (p : Program) (property : Property) : Type 0 where
  pub initially : (input : List ℤ) → All (λ z. IsTrue (fits z)) input → Holds p property (initial p input)
  pub attempts : (action : ℕ) (state : State) (budget : ℕ) → HasForm p state → Holds p property state →
      let left = action_attempt p (slice_get p.actions action) state budget in
      Ended left.outcome → Holds p property left.state
