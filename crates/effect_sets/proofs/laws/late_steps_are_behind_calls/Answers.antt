use Rattle.effect_sets.proofs.Depending.{late_place}
use Rattle.effect_sets.proofs.laws.late_steps_are_behind_calls.Goals as goal

pub returns : goal.returns
returns c = late_place
