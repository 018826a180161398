use Rattle.std.proofs.Common.{◌≡◌, ◌++◌, drop}
use Rattle.safety_judge.specs.Rows.{row_at}
use Rattle.safety_judge.proofs.rows.row_at.Given as goal

abbrev pub invariant-loop-regions : goal.invariant-loop-regions
invariant-loop-regions l = l.row ++ row_at (drop l.regions-index l.choices) l.left ≡ row_at l.choices l.number
