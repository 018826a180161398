use Rattle.seuss_parser.proofs.OneAnswer.{one-answer}
use Rattle.seuss_parser.proofs.laws.one_answer.Goals as goal

pub returns : goal.returns
returns c = one-answer
