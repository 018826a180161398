use Rattle.std.proofs.Common.{◌≡◌, drop}
use Rattle.safety_judge.specs.Rows.{left_of}
use Rattle.safety_judge.proofs.rows.left_of.Given as goal

abbrev pub invariant-loop-regions : goal.invariant-loop-regions
invariant-loop-regions l = left_of (drop l.regions-index l.choices) l.left ≡ left_of l.choices l.number
