use Rattle.std.proofs.Common.{◌≡◌, ◌++◌, take}
use Rattle.std.specs.List.{flat_map}
use Rattle.seuss_print.specs.Items.{text_of, behind_comma}
use Rattle.seuss_print.specs.Canonical.{param}
use Rattle.seuss_print.proofs.declarations.push_params.Given as goal

-- what went before is printed
abbrev pub invariant-loop-other : goal.invariant-loop-other
invariant-loop-other l =
    l.text ≡ l.initial.text ++ text_of (flat_map (behind_comma param) (take l.other-index l.others))
