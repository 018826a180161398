use Rattle.std.proofs.Common.{◌≡◌, ◌++◌, take}
use Rattle.std.specs.List.{flat_map}
use Rattle.seuss_print.specs.Items.{text_of}
use Rattle.seuss_print.specs.Canonical.{semi}
use Rattle.seuss_print.proofs.declarations.push_semis.Given as goal

-- what went before is printed
abbrev pub invariant-loop-s : goal.invariant-loop-s
invariant-loop-s l =
    l.text ≡ l.fn.text ++ text_of (flat_map semi (take l.s-index l.semis))
