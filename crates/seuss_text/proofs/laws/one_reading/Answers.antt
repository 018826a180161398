use Rattle.seuss_text.proofs.RowLemmas.{tokens_same}
use Rattle.seuss_text.proofs.laws.one_reading.Goals as goal

pub returns : goal.returns
returns c = tokens_same
