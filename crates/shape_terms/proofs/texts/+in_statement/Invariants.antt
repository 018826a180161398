use Rattle.std.proofs.Common.{◌≡◌, drop}
use Rattle.shape_terms.specs.Texts.{in_body}
use Rattle.shape_terms.proofs.texts.+in_statement.Given as goal

abbrev pub invariant-in_body-loop-statement : goal.invariant-in_body-loop-statement
invariant-in_body-loop-statement l =
    in_body l.variable (drop l.statement-index l.statements) ≡ in_body l.variable l.statements
