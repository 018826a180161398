use Rattle.box_types.proofs.OwnNames.{own_names}
use Rattle.box_types.proofs.laws.names_are_own.Goals as goal

pub returns : goal.returns
returns c = own_names
