use Rattle.std.proofs.Common.{◌<◌, All}
use Rattle.test_runs.proofs.turns.word.Given as goal

-- each digit so far is that of a worker
abbrev pub invariant-loop : goal.invariant-loop
invariant-loop l = All (λ d. d < l.width) l.digits
