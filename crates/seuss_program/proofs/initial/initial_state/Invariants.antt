use Rattle.std.proofs.Common.{◌≡◌, ◌++◌, Bool, true, false, List, map, drop, ℤ}
use Rattle.seuss_program.specs.declared.tree.Ref.{Ref}
use Rattle.seuss_program.specs.declared.tree.Cat.{Cat}
use Rattle.seuss_program.specs.declared.program.BoxInfo.{BoxInfo}
use Rattle.seuss_program.specs.declared.state.Vars.{Vars}
use Rattle.seuss_program.specs.Initials.{initial_boxes, starts_of}
use Rattle.seuss_program.proofs.initial.initial_state.Given as goal

-- the boxes that are left, where one has the input already or not
abbrev pub boxes_left : Bool → List (Cat Ref) → List ℤ → List BoxInfo → List Vars
boxes_left true cats input bs = map (starts_of cats) bs
boxes_left false cats input bs = initial_boxes cats input bs

-- the boxes so far and those that are left are all of them
abbrev pub invariant-loop-info : goal.invariant-loop-info
invariant-loop-info l =
    l.boxes ++ boxes_left l.is_given l.program.cats l.input (drop l.info-index l.program.boxes)
    ≡ initial_boxes l.program.cats l.input l.program.boxes
