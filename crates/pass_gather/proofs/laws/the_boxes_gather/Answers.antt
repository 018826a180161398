use Rattle.pass_gather.proofs.Boxes.{boxes_gather}
use Rattle.pass_gather.proofs.laws.the_boxes_gather.Goals as goal

pub returns : goal.returns
returns c = boxes_gather
