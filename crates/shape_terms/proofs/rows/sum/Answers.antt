use Rattle.std.proofs.Common.{rules}
use Rattle.std.proofs.lemmas.Int.{wraps}
use Rattle.shape_terms.proofs.rows.sum.Goals as goal

pub returns : goal.returns
returns c = search (rules, wraps)
