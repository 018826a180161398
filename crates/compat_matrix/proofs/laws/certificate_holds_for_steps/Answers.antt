use Rattle.method_code.specs.Singles.{is_single}
use Rattle.compat_matrix.proofs.AloneRuns.{first_true, second_true}
use Rattle.compat_matrix.proofs.CertifiedSteps.{commute}
use Rattle.compat_matrix.proofs.laws.certificate_holds_for_steps.Goals as goal

pub returns : goal.returns
returns c = λ p pair level box first second cat there here v.
    commute p c.single_step_is_run.ensures c.plain_rejection_is_told.ensures box pair.cat first second
    pair.first pair.second level cat there here
    (first_true (is_single pair.first.form) (is_single pair.second.form) v.0.single)
    (second_true (is_single pair.first.form) (is_single pair.second.form) v.0.single) v.1
