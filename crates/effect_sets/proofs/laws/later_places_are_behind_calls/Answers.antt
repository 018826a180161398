use Rattle.effect_sets.proofs.Depending.{later_place}
use Rattle.effect_sets.proofs.laws.later_places_are_behind_calls.Goals as goal

pub returns : goal.returns
returns c = later_place
