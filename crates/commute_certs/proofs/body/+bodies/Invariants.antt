use Rattle.std.proofs.Common.{◌≡◌, drop}
use Rattle.commute_certs.specs.Bodies.{body}
use Rattle.commute_certs.proofs.body.+bodies.Given as goal

-- what is left to do from here leaves the same as the whole
abbrev pub invariant-run_body-loop-statement : goal.invariant-run_body-loop-statement
invariant-run_body-loop-statement l =
    body (drop l.statement-index l.statements) l.places ≡ body l.statements l.initial.places
