use Rattle.std.proofs.Common.{◌≡◌, drop}
use Rattle.method_code.specs.Singles.{is_single_body}
use Rattle.commute_certs.proofs.singles.+singles.Given as goal

abbrev pub invariant-single_body-loop-statement : goal.invariant-single_body-loop-statement
invariant-single_body-loop-statement l =
    is_single_body (drop l.statement-index l.statements) ≡ is_single_body l.statements
