use Rattle.std.proofs.Common.{◌≡◌, drop}
use Rattle.safety_check.specs.Ends.{body_end}
use Rattle.safety_judge.proofs.ends.+bodies.Given as goal

-- what is left to run leads to the same end as the whole
abbrev pub invariant-body_end-loop-statement : goal.invariant-body_end-loop-statement
invariant-body_end-loop-statement l =
    body_end (drop l.statement-index l.statements) l.frame ≡ body_end l.statements l.initial.frame
