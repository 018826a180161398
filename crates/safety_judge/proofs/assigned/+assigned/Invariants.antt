use Rattle.std.proofs.Common.{◌≡◌, ◌++◌, drop}
use Rattle.safety_check.specs.Ends.{names_in}
use Rattle.safety_judge.proofs.assigned.+assigned.Given as goal

abbrev pub invariant-add_body-loop-statement : goal.invariant-add_body-loop-statement
invariant-add_body-loop-statement l =
    l.names ++ names_in (drop l.statement-index l.statements) ≡ l.initial.names ++ names_in l.statements
