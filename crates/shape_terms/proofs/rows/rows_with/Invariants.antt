use Rattle.std.proofs.Common.{◌≡◌, take}
use Rattle.shape_terms.specs.Numbers.{rows_with}
use Rattle.shape_terms.proofs.rows.rows_with.Given as goal

abbrev pub invariant-loop-at : goal.invariant-loop-at
invariant-loop-at l = l.row ≡ take l.at (rows_with l.k l.xs l.ys)
