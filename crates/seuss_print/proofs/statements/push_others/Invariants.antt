use Rattle.std.proofs.Common.{◌≡◌, ◌++◌, take}
use Rattle.std.specs.List.{flat_map}
use Rattle.seuss_print.specs.Items.{text_of, behind_comma}
use Rattle.seuss_print.specs.Expressions.{expression}
use Rattle.seuss_print.proofs.statements.push_others.Given as goal

-- the arguments so far are printed
abbrev pub invariant-loop-arg : goal.invariant-loop-arg
invariant-loop-arg l =
    l.text ≡ l.fn.text ++ text_of (flat_map (behind_comma expression) (take l.arg-index l.others))
