use Rattle.compat_matrix.proofs.CertificateLemmas.{sound}
use Rattle.compat_matrix.proofs.laws.levels_of_certificates_are_sound.Goals as goal

pub returns : goal.returns
returns c = λ p es are. record { commute = sound p es (c.certificate_holds_for_steps.ensures p) are }
