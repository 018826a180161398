use Rattle.std.proofs.Common.{List, subst}
use Rattle.compat_matrix.specs.declared.certificate.Certificate.{Certificate}
use Rattle.compat_matrix.specs.Certificates.{AreLevels}
use Rattle.compat_matrix.proofs.deciding.matrix.Goals as goal

pub returns-clause-levels : goal.returns-clause-levels
returns-clause-levels c = (
  c.in_ok-certificates.certificates,
  subst (λ (es : List Certificate). AreLevels c.args.program.now es c.in_ok-matrix_of.field-0)
      c.as_slice.ensures c.in_ok-matrix_of.ensures,
)
