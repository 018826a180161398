-- Each certificate has its line, and at the end none is left.
use Rattle.std.proofs.lemmas.Slice.Zip.{either_empty_from_Zip}
use Rattle.report_text.proofs.MatrixLemmas.{certificate_written, certificates_all}
use Rattle.report_text.proofs.matrix.push_certificates.Goals as goal

pub loop-semi-preserved : goal.loop-semi-preserved
loop-semi-preserved c =
    certificate_written c.args.cat.now c.in-Some.semi.now c.in-Some.level.now _ _ _ _
    c.loop-semi.text c.push_certificate.new.text _ c.in-Some.ensures.steps.0 c.in-Some.ensures.steps.1
    c.in_ok-push_certificate.ensures
    c.loop-semi.invariant

pub returns : goal.returns
returns c =
    certificates_all c.args.cat.now _ _ c.loop-semi.text _
    (either_empty_from_Zip c.loop-semi.semi-iterator c.next.new.self c.next.result c.in-None.is
    c.next.ensures.steps)
    c.loop-semi.invariant
