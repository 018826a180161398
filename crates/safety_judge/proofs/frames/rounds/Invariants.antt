use Rattle.std.proofs.Common.{◌≡◌, ◌++◌, drop}
use Rattle.safety_check.specs.Regions.{rounds}
use Rattle.safety_judge.proofs.frames.rounds.Given as goal

abbrev pub invariant-loop-at : goal.invariant-loop-at
invariant-loop-at l = l.both ++ rounds (drop l.at l.xs) (drop l.at l.ys) ≡ rounds l.xs l.ys
