use Rattle.std.proofs.Common.{◌≡◌, ◌++◌, take}
use Rattle.std.specs.List.{flat_map}
use Rattle.seuss_print.specs.Items.{text_of}
use Rattle.seuss_print.specs.Canonical.{hint}
use Rattle.seuss_print.proofs.declarations.push_hints.Given as goal

-- what went before is printed
abbrev pub invariant-loop-h : goal.invariant-loop-h
invariant-loop-h l =
    l.text ≡ l.fn.text ++ text_of (flat_map hint (take l.h-index l.hints))
