use Rattle.effect_sets.proofs.Depending.{stays_in_sets}
use Rattle.effect_sets.proofs.laws.step_stays_in_sets.Goals as goal

pub returns : goal.returns
returns c = stays_in_sets
