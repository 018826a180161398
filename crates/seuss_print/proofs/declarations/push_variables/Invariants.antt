use Rattle.std.proofs.Common.{◌≡◌, ◌++◌, take}
use Rattle.std.specs.List.{flat_map}
use Rattle.seuss_print.specs.Items.{text_of}
use Rattle.seuss_print.specs.Canonical.{variable}
use Rattle.seuss_print.proofs.declarations.push_variables.Given as goal

-- what went before is printed
abbrev pub invariant-loop-v : goal.invariant-loop-v
invariant-loop-v l =
    l.text ≡ l.fn.text ++ text_of (flat_map variable (take l.v-index l.vars))
