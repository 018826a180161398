-- The state in which a program starts.
use Rattle.std.specs.Prelude.{ℕ, ℤ, Bool, if◌then◌else◌, ◌==◌, List, [], ◌∷◌, map, slice_get, slice_set}
use Rattle.std.specs.Prelude.{Option, None, Some}
use Rattle.seuss_program.specs.declared.tree.Ref.{Ref}
use Rattle.seuss_program.specs.declared.tree.Cat.{Cat}
use Rattle.seuss_program.specs.declared.tree.Var.{Var}
use Rattle.seuss_program.specs.declared.program.Program.{Program}
use Rattle.seuss_program.specs.declared.program.BoxInfo.{BoxInfo}
use Rattle.seuss_program.specs.declared.state.Value.{Value}
use Rattle.seuss_program.specs.declared.state.Value.TheVariants as V
use Rattle.seuss_program.specs.declared.state.Vars.{Vars}
use Rattle.seuss_program.specs.declared.state.State.{State}

-- the start values of a cat's variables; a cat that isn't there has none
abbrev pub starts_in : Option (Cat Ref) → List Value
starts_in None = []
starts_in (Some c) = map (λ (v : Var). v.start) c.vars

-- the variables of a box with the start values of its cat
abbrev pub starts_of : List (Cat Ref) → BoxInfo → Vars
starts_of cats b = record { values = starts_in (slice_get cats b.cat) }

-- the variables of a box that has the input in its one variable
abbrev pub with_input : List ℤ → Vars → Vars
with_input input vars = record { values = slice_set vars.values 0 (V.Seq input) }

-- each box starts with the start values of its cat, but the first box of the cat `Input`, which is
-- cat 0, starts with the input
abbrev pub initial_boxes : List (Cat Ref) → List ℤ → List BoxInfo → List Vars
initial_boxes cats input [] = []
initial_boxes cats input (b ∷ bs) =
    if b.cat == 0 then with_input input (starts_of cats b) ∷ map (starts_of cats) bs
    else starts_of cats b ∷ initial_boxes cats input bs

-- the state in which a program starts with this input
abbrev pub initial : Program → List ℤ → State
initial p input = record { boxes = initial_boxes p.cats input p.boxes }
