use Rattle.std.proofs.Common.{[]}
use Rattle.seuss_text.proofs.RowLemmas.{row_rises}
use Rattle.seuss_text.proofs.laws.tokens_rise.Goals as goal

pub returns : goal.returns
returns c text tokens (passed, rest, row, last) = row_rises tokens [] text passed rest row
