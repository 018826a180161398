use Rattle.box_types.proofs.OneMeaning.{one_meaning}
use Rattle.box_types.proofs.laws.names_mean_one.Goals as goal

pub returns : goal.returns
returns c = one_meaning
