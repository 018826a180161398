use Rattle.std.proofs.Common.{map, length, ap, ◌∙◌}
use Rattle.compat_matrix.specs.declared.certificate.Certificate.{Certificate}
use Rattle.seuss_run.proofs.CertificateLevels.{as_many_levels}
use Rattle.seuss_run.proofs.commands.matrix.compare.Goals as goal

-- each certificate has its level
pub matrix_text-requires-clause-certified : goal.matrix_text-requires-clause-certified
matrix_text-requires-clause-certified c =
    ap length c.in_ok-levels.ensures
    ∙ (ap (λ es. length (map (λ (e : Certificate). e.level) es)) c.as_slice.ensures
    ∙ as_many_levels c.args.prepared.now.job.program c.args.prepared.now.job.certificates
    c.requires.levels.certificates)
