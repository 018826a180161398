use Rattle.std.proofs.Common.{◌≡◌, ◌++◌, take}
use Rattle.std.specs.List.{flat_map}
use Rattle.seuss_print.specs.Items.{text_of}
use Rattle.seuss_print.specs.Canonical.{box}
use Rattle.seuss_print.proofs.tree.push_boxes.Given as goal

-- what went before is printed
abbrev pub invariant-loop-b : goal.invariant-loop-b
invariant-loop-b l =
    l.text ≡ l.fn.text ++ text_of (flat_map box (take l.b-index l.boxes))
