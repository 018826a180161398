use Rattle.std.proofs.Common.{◌≡◌, ◌++◌, take}
use Rattle.std.specs.List.{flat_map}
use Rattle.seuss_print.specs.Items.{text_of}
use Rattle.seuss_print.specs.Canonical.{cat}
use Rattle.seuss_print.proofs.tree.push_cats.Given as goal

-- what went before is printed
abbrev pub invariant-loop-c : goal.invariant-loop-c
invariant-loop-c l =
    l.text ≡ l.fn.text ++ text_of (flat_map cat (take l.c-index l.cats))
