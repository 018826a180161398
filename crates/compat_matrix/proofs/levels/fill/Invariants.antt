use Rattle.std.proofs.Common.{◌≡◌}
use Rattle.compat_matrix.specs.Certificates.{levels_of}
use Rattle.compat_matrix.specs.Leasts.{HasCells}
use Rattle.compat_matrix.proofs.levels.fill.Given as goal

-- the rows so far
abbrev pub invariant-loop-row : goal.invariant-loop-row
invariant-loop-row l = record {
  count : l.rows.count ≡ l.initial.rows.count;
  cells : HasCells l.program (levels_of l.certificates) l.all l.rows l.row 0;
}
