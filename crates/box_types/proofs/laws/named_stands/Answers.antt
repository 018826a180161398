use Rattle.box_types.proofs.MeantTrees.{tree_stands}
use Rattle.box_types.proofs.laws.named_stands.Goals as goal

pub returns : goal.returns
returns c = tree_stands
