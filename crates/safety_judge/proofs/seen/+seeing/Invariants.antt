use Rattle.std.proofs.Common.{◌≡◌, drop}
use Rattle.safety_check.specs.Texts.{seen_and, in_body}
use Rattle.safety_judge.proofs.seen.+seeing.Given as goal

abbrev pub invariant-see_body-loop-statement : goal.invariant-see_body-loop-statement
invariant-see_body-loop-statement l =
    seen_and l.seen (in_body (drop l.statement-index l.statements))
    ≡ seen_and l.initial.seen (in_body l.statements)
