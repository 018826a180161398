-- The locals at a place of a procedure: its parameters, its result, and bound and `let` names. Those before
-- a place are listed in the order of the text, the result after the parameters; the n-th one, counted from
-- 0, has slot n.
use Rattle.std.specs.Prelude.{◌≡◌, ℕ, List, [], ◌∷◌, ◌++◌, length, map, if◌then◌else◌, slice_get, Some}
use Rattle.std.specs.Prelude.{codes}
use Rattle.seuss_program.specs.declared.tree.Name.{Name}
use Rattle.seuss_program.specs.declared.tree.Param.{Param}
use Rattle.seuss_program.specs.declared.tree.Proc.{Proc}
use Rattle.seuss_program.specs.Lines.{IsIn}

-- the names of the locals before a place, and the slots of those that are visible there
pub record Locals : Type 0 where
  pub names : List Name
  pub visible : List ℕ

abbrev pub no_locals : Locals
no_locals = record { names = []; visible = [] }

-- a name that is declared takes the next slot, and is visible from here on
abbrev pub with_local : Name → Locals → Locals
with_local name here = record {
  names = here.names ++ name ∷ [];
  visible = here.visible ++ length here.names ∷ [];
}

abbrev pub with_locals : List Name → Locals → Locals
with_locals [] here = here
with_locals (name ∷ names) here = with_locals names (with_local name here)

-- after a block what was visible before it is visible, and the names of the block keep their slots
abbrev pub after_block : Locals → Locals → Locals
after_block before inside = record { names = inside.names; visible = before.visible }

-- the name of the result, where a procedure has one
abbrev pub result_name : Proc Name → List Name
result_name q = if q.gives then record { text = codes "result"; line = 0 } ∷ [] else []

-- where the text of a procedure begins, its parameters are declared, and then its result
abbrev pub at_start : Proc Name → Locals
at_start q = with_locals (map (λ (p : Param). p.name) q.params ++ result_name q) no_locals

-- the local of this slot is visible, and has the text of this name
pub record IsCalled (here : Locals) (slot : ℕ) (name : Name) : Type 0 where
  pub visible : IsIn slot here.visible
  pub local : Name
  pub there : slice_get here.names slot ≡ Some local
  pub same : local.text ≡ name.text

-- and it is the only one
pub record IsLocal (here : Locals) (slot : ℕ) (name : Name) : Type 0 where
  pub called : IsCalled here slot name
  pub only : (other : ℕ) → IsCalled here other name → other ≡ slot

-- no visible local has the text of this name
abbrev pub HasNoLocal : Locals → Name → Type 0
HasNoLocal here name = (slot : ℕ) → ¬ IsCalled here slot name
