use Rattle.commute_certs.proofs.Foresight.{foreseen_at}
use Rattle.commute_certs.proofs.laws.foreseen_is_run.Goals as goal

pub returns : goal.returns
returns c = λ q args vars f p h. foreseen_at p q args vars f h
