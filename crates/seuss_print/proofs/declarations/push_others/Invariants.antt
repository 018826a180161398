use Rattle.std.proofs.Common.{◌≡◌, ◌++◌, drop}
use Rattle.std.specs.List.{flat_map}
use Rattle.seuss_print.specs.Items.{text_of, behind_comma}
use Rattle.seuss_print.specs.Canonical.{signed}
use Rattle.seuss_print.proofs.declarations.push_others.Given as goal

-- with the numbers that are left, the text is that of all the others
abbrev pub invariant-loop-at : goal.invariant-loop-at
invariant-loop-at l =
    l.text ++ text_of (flat_map (behind_comma signed) (drop l.at l.numbers))
    ≡ l.fn.text ++ text_of (flat_map (behind_comma signed) (drop 1 l.numbers))
