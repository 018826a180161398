-- The loop over the actions of a program.
use Rattle.std.proofs.Common.{◌≡◌, ◌++◌}
use Rattle.std.specs.List.{flat_map, range_with_len}
use Rattle.report_text.specs.MatrixTexts.{certificate_lines, certificates, row_lines}
use Rattle.report_text.proofs.matrix.matrix_text.Given as goal

-- the lines of the actions so far stand after those of the certificates
abbrev pub invariant-loop-a : goal.invariant-loop-a
invariant-loop-a l = l.text ≡ certificate_lines (certificates l.program.cats) l.levels
    ++ flat_map (row_lines l.program l.rows) (range_with_len 0 l.a)
