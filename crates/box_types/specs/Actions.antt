-- The actions of a program: numbered by box, then in the order of the text.
use Rattle.std.specs.Prelude.{ℕ, ◌+◌, Bool, true, false, if◌then◌else◌, List, [], ◌∷◌, ◌++◌, slice_get}
use Rattle.std.specs.Prelude.{Option, None, Some}
use Rattle.seuss_program.specs.declared.tree.Ref.{Ref}
use Rattle.seuss_program.specs.declared.tree.Form.{Form}
use Rattle.seuss_program.specs.declared.tree.Form.TheVariants as F
use Rattle.seuss_program.specs.declared.tree.Proc.{Proc}
use Rattle.seuss_program.specs.declared.tree.Cat.{Cat}
use Rattle.seuss_program.specs.declared.program.ActionInfo.{ActionInfo}
use Rattle.seuss_program.specs.declared.program.BoxInfo.{BoxInfo}

-- whether a procedure is an action
abbrev pub is_action : Form Ref → Bool
is_action (F.Total ss) = false
is_action (F.Partial alts) = false
is_action (F.Action alts) = true

-- the action of this number among the procedures of this box
abbrev pub an_action : ℕ → ℕ → ActionInfo
an_action box number = record { box_number = box; procedure = number }

-- the actions of a box among procedures, of which the first has this number, in the order of the text
abbrev pub actions_among : ℕ → ℕ → List (Proc Ref) → List ActionInfo
actions_among box number [] = []
actions_among box number (q ∷ qs) =
    if is_action q.form then an_action box number ∷ actions_among box (number + 1) qs
    else actions_among box (number + 1) qs

-- the procedures of a cat; a cat that isn't there has none
abbrev pub procedures_in : Option (Cat Ref) → List (Proc Ref)
procedures_in None = []
procedures_in (Some c) = c.procs

-- the actions of boxes, of which the first has this number, in order of declaration
abbrev pub actions_of : List (Cat Ref) → ℕ → List BoxInfo → List ActionInfo
actions_of cats number [] = []
actions_of cats number (b ∷ bs) =
    actions_among number 0 (procedures_in (slice_get cats b.cat)) ++ actions_of cats (number + 1) bs
