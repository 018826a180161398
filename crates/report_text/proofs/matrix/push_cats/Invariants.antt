-- The loop over the cats of a program.
use Rattle.std.proofs.Common.{◌++◌}
use Rattle.report_text.specs.MatrixTexts.{certificate_lines, certificates}
use Rattle.report_text.proofs.MatrixLemmas.{HasWritten}
use Rattle.report_text.proofs.matrix.push_cats.Given as goal

-- the certificates of the cats so far are written, and the levels of the others are left
abbrev pub invariant-loop-cat : goal.invariant-loop-cat
invariant-loop-cat l =
    HasWritten l.cats l.cat-index l.rest l.text
    (l.fn.text ++ certificate_lines (certificates l.cats) l.levels)
