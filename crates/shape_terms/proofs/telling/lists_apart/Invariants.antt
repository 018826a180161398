use Rattle.std.proofs.Common.{◌≡◌, take}
use Rattle.shape_terms.specs.Points.{Point}
use Rattle.shape_terms.specs.Sequences.{numbers}
use Rattle.shape_terms.proofs.telling.lists_apart.Given as goal

abbrev pub invariant-loop-at : goal.invariant-loop-at
invariant-loop-at l = (p : Point) → take l.at (numbers l.xs p) ≡ take l.at (numbers l.ys p)
