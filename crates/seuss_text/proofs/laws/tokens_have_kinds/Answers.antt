use Rattle.std.proofs.Common.{[]}
use Rattle.seuss_text.proofs.RowLemmas.{row_kinds}
use Rattle.seuss_text.proofs.laws.tokens_have_kinds.Goals as goal

pub returns : goal.returns
returns c text tokens (passed, rest, row, last) = row_kinds tokens [] text passed rest row
