-- Each action beside one has its line.
use Rattle.report_text.specs.MatrixTexts.{pair_line}
use Rattle.report_text.proofs.MatrixLemmas.{number_written}
use Rattle.report_text.proofs.matrix.push_row.Goals as goal

-- the line beside one more action
pub loop-b-preserved : goal.loop-b-preserved
loop-b-preserved c =
    number_written (pair_line c.args.program.now c.args.rows.now c.args.a) c.loop-b.b c.args.text.now
    c.loop-b.text
    c.push_pair.new.text c.loop-b.invariant c.in_ok-push_pair.ensures
