use Rattle.seuss_parser.proofs.InputAnswers.{reads_same}
use Rattle.seuss_parser.proofs.input.one_input.Goals as goal

pub returns : goal.returns
returns c = reads_same
