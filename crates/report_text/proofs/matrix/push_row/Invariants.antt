-- The loop over the actions beside one.
use Rattle.std.proofs.Common.{◌≡◌, ◌++◌}
use Rattle.std.specs.List.{flat_map, range_with_len}
use Rattle.report_text.specs.MatrixTexts.{pair_line}
use Rattle.report_text.proofs.matrix.push_row.Given as goal

-- the lines beside the actions so far stand after the text
abbrev pub invariant-loop-b : goal.invariant-loop-b
invariant-loop-b l = l.text ≡ l.fn.text ++ flat_map (pair_line l.program l.rows l.a) (range_with_len 0 l.b)
