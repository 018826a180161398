use Rattle.effect_sets.proofs.Depending.{early_stays_in_tests}
use Rattle.effect_sets.proofs.laws.early_step_stays_in_tests.Goals as goal

pub returns : goal.returns
returns c = early_stays_in_tests
