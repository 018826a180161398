use Rattle.std.proofs.Common.{◌≡◌, ◌++◌, take}
use Rattle.seuss_print.specs.Items.{text_of}
use Rattle.seuss_print.specs.Statements.{body}
use Rattle.seuss_print.proofs.statements.+statement.Given as goal

-- the statements so far are printed
abbrev pub invariant-push_body-loop-s : goal.invariant-push_body-loop-s
invariant-push_body-loop-s l = l.text ≡ l.fn.text ++ text_of (body (take l.s-index l.statements) l.depth)
