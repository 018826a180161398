use Rattle.std.proofs.Common.{◌≡◌, []}
use Rattle.std.specs.Prelude.{replicate}
use Rattle.turn_runs.proofs.turning.empty_record.Given as goal

abbrev pub invariant-loop : goal.invariant-loop
invariant-loop l = l.boxes ≡ replicate l.counter []
