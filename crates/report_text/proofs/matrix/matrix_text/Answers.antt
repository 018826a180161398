-- Each action has its lines.
use Rattle.report_text.specs.MatrixTexts.{certificate_lines, certificates, row_lines}
use Rattle.report_text.proofs.MatrixLemmas.{number_written}
use Rattle.report_text.proofs.matrix.matrix_text.Goals as goal

-- the lines of one more action
pub loop-a-preserved : goal.loop-a-preserved
loop-a-preserved c =
    number_written (row_lines c.args.program.now c.args.rows.now) c.loop-a.a
    (certificate_lines (certificates c.args.program.now.cats) c.args.levels.now) c.loop-a.text
    c.push_row.new.text c.loop-a.invariant c.in_ok-push_row.ensures
