-- What stands where in a program and in a state.
use Rattle.std.specs.Prelude.{ℕ, List, [], slice_index_or, slice_get, slice_set, Option, None, Some}
use Rattle.std.specs.Prelude.{option_and_then}
use Rattle.seuss_program.specs.declared.tree.Ref.{Ref}
use Rattle.seuss_program.specs.declared.tree.Ref.TheVariants as R
use Rattle.seuss_program.specs.declared.tree.Cat.{Cat}
use Rattle.seuss_program.specs.declared.tree.Proc.{Proc}
use Rattle.seuss_program.specs.declared.program.Program.{Program}
use Rattle.seuss_program.specs.declared.program.BoxInfo.{BoxInfo}
use Rattle.seuss_program.specs.declared.state.Value.{Value}
use Rattle.seuss_program.specs.declared.state.State.{State}

-- the cat of a box
abbrev pub cat_of : Program → ℕ → Option (Cat Ref)
cat_of p box = option_and_then (λ (b : BoxInfo). slice_get p.cats b.cat) (slice_get p.boxes box)

-- a procedure of a box, by its number in the cat of the box
abbrev pub procedure_of : Program → ℕ → ℕ → Option (Proc Ref)
procedure_of p box number = option_and_then (λ (c : Cat Ref). slice_get c.procs number) (cat_of p box)

-- the level of a box; one that isn't there has level 0
abbrev pub level_in : Option BoxInfo → ℕ
level_in None = 0
level_in (Some b) = b.level

-- the level of the box of this number
abbrev pub level_of : Program → ℕ → ℕ
level_of p box = level_in (slice_get p.boxes box)

-- the given box of this number of a box; what isn't there stands for box 0
abbrev pub given_in : Option BoxInfo → ℕ → ℕ
given_in None number = 0
given_in (Some b) number = slice_index_or b.given number 0

-- the box that a name of a given box stands for, as a box sees it
abbrev pub target_of : Program → ℕ → Ref → ℕ
target_of p box (R.Given number) = given_in (slice_get p.boxes box) number
target_of p box (R.Var number) = 0
target_of p box (R.Slot number) = 0
target_of p box (R.Method number) = 0
target_of p box (R.Cat number) = 0

-- the number of the method that a name stands for
abbrev pub method_of : Ref → ℕ
method_of (R.Method number) = number
method_of (R.Var number) = 0
method_of (R.Slot number) = 0
method_of (R.Given number) = 0
method_of (R.Cat number) = 0

-- the variables of a box
abbrev pub vars_of : State → ℕ → List Value
vars_of state box = (slice_index_or state.boxes box (record { values = [] })).values

-- the state with one variable of one box changed
abbrev pub with_var : State → ℕ → ℕ → Value → State
with_var state box number v = record
    { boxes = slice_set state.boxes box (record { values = slice_set (vars_of state box) number v }) }
