-- The value of an expression that fits is of its kind, by the test of kinds.
use Rattle.std.proofs.Common.{◌≡◌, IsTrue, List, Some, Ok, Err}
use Rattle.std.specs.Prelude.{IfOk}
use Rattle.seuss_program.specs.declared.tree.Ref.{Ref}
use Rattle.seuss_program.specs.declared.tree.Kind.{Kind}
use Rattle.seuss_program.specs.declared.tree.Expr.{Expr}
use Rattle.seuss_program.specs.declared.state.Value.{Value}
use Rattle.seuss_program.specs.Values.{Evaluated, value}
use Rattle.seuss_program.specs.Keeping.{Scope, kind_in}
use Rattle.meaning_laws.specs.Kinds.{IsOf}
use Rattle.method_code.proofs.TypingLaws.{KindLaws}
use Rattle.method_code.proofs.KindLists.{has_kind, have_kinds, of_kind, to_kinds}

-- a value is of this kind, where there is one
abbrev pub Typed : Kind → Evaluated → Type 0
Typed k m = IfOk m (λ v. IsTrue (has_kind k v))

-- the value of an expression is of its kind
pub value_typed : (laws : KindLaws) (s : Scope) (vars slots : List Value) → IsTrue (have_kinds s.vars vars) →
    IsTrue (have_kinds s.slots slots) → (e : Expr Ref) (k : Kind) → kind_in s e ≡ Some k →
    Typed k (value e vars slots)
value_typed laws s vars slots fv fs e k is = by (value e vars slots)
    (laws.values s e k vars slots is (to_kinds s.vars vars fv) (to_kinds s.slots slots fs))
  where
    by : (m : Evaluated) → IfOk m (λ v. IsOf v k) → Typed k m
    by (Err t) h = tt
    by (Ok v) h = of_kind k v h
