-- A value of a kind, and what stands at a name.
use Rattle.std.specs.Prelude.{◌≡◌, List, slice_get, Option, None}
use Rattle.seuss_program.specs.declared.tree.Kind.{Kind}
use Rattle.seuss_program.specs.declared.tree.Ref.{Ref}
use Rattle.seuss_program.specs.declared.tree.Ref.TheVariants as R
use Rattle.seuss_program.specs.declared.state.Value.{Value}
use Rattle.seuss_program.specs.Values.{HasSize}
use Rattle.seuss_program.specs.Keeping.{kind_of}

-- a value of a kind, whose numbers have 64 bits
abbrev pub IsOf : Value → Kind → Type 0
IsOf v k = (kind_of v ≡ k) × HasSize v

-- the value at a name, where there is a variable or a slot
abbrev pub standing : Ref → List Value → List Value → Option Value
standing (R.Var number) vars slots = slice_get vars number
standing (R.Slot number) vars slots = slice_get slots number
standing (R.Given number) vars slots = None
standing (R.Method number) vars slots = None
standing (R.Cat number) vars slots = None
