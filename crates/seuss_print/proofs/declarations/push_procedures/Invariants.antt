use Rattle.std.proofs.Common.{◌≡◌, ◌++◌, take}
use Rattle.std.specs.List.{flat_map}
use Rattle.seuss_print.specs.Items.{text_of}
use Rattle.seuss_print.specs.Canonical.{procedure}
use Rattle.seuss_print.proofs.declarations.push_procedures.Given as goal

-- what went before is printed
abbrev pub invariant-loop-q : goal.invariant-loop-q
invariant-loop-q l =
    l.text ≡ l.fn.text ++ text_of (flat_map procedure (take l.q-index l.procs))
