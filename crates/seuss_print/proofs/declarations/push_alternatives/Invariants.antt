use Rattle.std.proofs.Common.{◌≡◌, ◌++◌, take}
use Rattle.std.specs.List.{flat_map}
use Rattle.seuss_print.specs.Items.{text_of}
use Rattle.seuss_print.specs.Canonical.{alternative}
use Rattle.seuss_print.proofs.declarations.push_alternatives.Given as goal

-- what went before is printed
abbrev pub invariant-loop-a : goal.invariant-loop-a
invariant-loop-a l =
    l.text ≡ l.fn.text ++ text_of (flat_map alternative (take l.a-index l.alternatives))
