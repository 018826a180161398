use Rattle.std.proofs.Common.{◌≡◌}
use Rattle.compat_matrix.specs.Certificates.{levels_of}
use Rattle.compat_matrix.specs.Leasts.{HasCells}
use Rattle.compat_matrix.proofs.levels.fill_row.Given as goal

-- the columns so far
abbrev pub invariant-loop-column : goal.invariant-loop-column
invariant-loop-column l = record {
  count : l.rows.count ≡ l.initial.rows.count;
  cells : HasCells l.program (levels_of l.certificates) l.all l.initial.rows l.row 0 →
      HasCells l.program (levels_of l.certificates) l.all l.rows l.row l.column;
}
