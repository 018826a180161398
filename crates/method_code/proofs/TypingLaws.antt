-- What the laws of meaning say of kinds, as the proofs of this crate take it.
use Rattle.std.proofs.Common.{◌≡◌, List, Some}
use Rattle.std.specs.Prelude.{IfOk}
use Rattle.seuss_program.specs.declared.tree.Ref.{Ref}
use Rattle.seuss_program.specs.declared.tree.Kind.{Kind}
use Rattle.seuss_program.specs.declared.tree.Expr.{Expr}
use Rattle.seuss_program.specs.declared.tree.Proc.{Proc}
use Rattle.seuss_program.specs.declared.state.Value.{Value}
use Rattle.seuss_program.specs.Values.{value}
use Rattle.seuss_program.specs.Attempts.{entry_slots}
use Rattle.seuss_program.specs.Keeping.{AreOf, Scope, kind_at, kind_in, kind_set, param_kinds, slot_kinds}
use Rattle.meaning_laws.specs.Kinds.{IsOf}

-- Expressions have values of their kinds, what may be assigned has its kind, and an entry has the slots of
-- its procedure.
pub record KindLaws : Type 0 where
  pub values : (s : Scope) (e : Expr Ref) (k : Kind) (vars slots : List Value) → kind_in s e ≡ Some k →
      AreOf vars s.vars → AreOf slots s.slots → IfOk (value e vars slots) (λ v. IsOf v k)
  pub set : (s : Scope) (name : Ref) (k : Kind) → kind_set s name ≡ Some k → kind_at s name ≡ Some k
  pub entry : (q : Proc Ref) (args : List Value) → AreOf args (param_kinds q.params) →
      AreOf (entry_slots q args) (slot_kinds q)
