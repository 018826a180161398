use Rattle.std.proofs.Common.{◌≡◌, ◌++◌}
use Rattle.seuss_print.specs.Items.{text_of, indented}
use Rattle.seuss_print.proofs.statements.push_indent.Given as goal

-- the spaces so far are printed
abbrev pub invariant-loop : goal.invariant-loop
invariant-loop l = l.text ≡ l.fn.text ++ text_of (indented l.counter)
