use Rattle.commute_certs.proofs.Evaluation.{told_at}
use Rattle.commute_certs.proofs.laws.told_is_value.Goals as goal

pub returns : goal.returns
returns c = λ e vars slots s p h. told_at p vars slots e s h
