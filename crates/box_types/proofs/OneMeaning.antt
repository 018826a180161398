-- A name stands for one thing only.
use Rattle.std.specs.Prelude.{◌≡◌, ℕ, List}
use Rattle.std.proofs.Common.{inl, inr, ap}
use Rattle.std.proofs.lemmas.Bool.{cases_order}
use Rattle.seuss_program.specs.declared.tree.Name.{Name}
use Rattle.seuss_program.specs.declared.tree.Ref.{Ref}
use Rattle.seuss_program.specs.declared.tree.Ref.TheVariants as R
use Rattle.seuss_program.specs.declared.tree.Cat.{Cat}
use Rattle.box_types.specs.Locals.{Locals}
use Rattle.box_types.specs.Meanings.{IsFirst, NameStands, OfLocal, OfVar}

-- there is one first item of a name
one_first : {X : Type 0} (name_of : X → Name) (xs : List X) (n k : ℕ) (name : Name) →
    IsFirst name_of xs n name → IsFirst name_of xs k name → n ≡ k
one_first name_of xs n k name first second = elim (cases_order n k) [
  | inl is ↦ is
  | inr (inl before) ↦ absurd (second.others n first.item before first.there first.same)
  | inr (inr after) ↦ absurd (first.others k second.item after second.there second.same)
]

-- a name that is evaluated or assigned
pub one_meaning : (own : Cat Name) (here : Locals) (name : Name) (first second : Ref) →
    NameStands own here name first → NameStands own here name second → first ≡ second
one_meaning own here name _ _ (OfLocal n local) (OfLocal k other) =
    ap R.Slot (other.only n local.called)
one_meaning own here name _ _ (OfLocal n local) (OfVar k none var) = absurd (none n local.called)
one_meaning own here name _ _ (OfVar n none var) (OfLocal k other) = absurd (none k other.called)
one_meaning own here name _ _ (OfVar n none var) (OfVar k also other) =
    ap R.Var (one_first _ own.vars n k name var other)
