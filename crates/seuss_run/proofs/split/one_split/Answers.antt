use Rattle.seuss_run.proofs.SplitLemmas.{split_same}
use Rattle.seuss_run.proofs.split.one_split.Goals as goal

pub returns : goal.returns
returns c = split_same
