-- Each cat takes as many levels as it has certificates.
use Rattle.std.proofs.Common.{◌++◌, rules}
use Rattle.report_text.specs.MatrixTexts.{certificate_lines, certificates}
use Rattle.report_text.proofs.MatrixLemmas.{cat_written}
use Rattle.report_text.proofs.matrix.push_cats.Goals as goal

-- the certificates of one more cat
pub loop-cat-preserved : goal.loop-cat-preserved
loop-cat-preserved c =
    cat_written c.args.cats.now c.loop-cat.cat-index c.cat-item.result c.loop-cat.rest.now
    c.split_at.result.0.now
    c.split_at.result.1.now c.loop-cat.text c.push_certificates.new.text
    (c.args.text.now ++ certificate_lines (certificates c.args.cats.now) c.args.levels.now)
    c.loop-cat.invariant c.loop-cat-test.true c.cat-item.is
    (search rules) (search rules) (search rules)
