-- The loop over the certificates of a cat.
use Rattle.std.proofs.Common.{◌≡◌, ◌++◌}
use Rattle.std.specs.Iterator.Adapters.{zip_first, zip_second}
use Rattle.std.specs.Slice.Iter.{iter_rest}
use Rattle.report_text.specs.MatrixTexts.{certificate_lines}
use Rattle.report_text.proofs.MatrixLemmas.{of_cat}
use Rattle.report_text.proofs.matrix.push_certificates.Given as goal

-- with the certificates that are left, the text is that of all of them
abbrev pub invariant-loop-semi : goal.invariant-loop-semi
invariant-loop-semi l =
    l.text ++ certificate_lines (of_cat l.cat (iter_rest (zip_first l.semi-iterator)))
    (iter_rest (zip_second l.semi-iterator))
    ≡ l.fn.text ++ certificate_lines (of_cat l.cat l.semis) l.levels
