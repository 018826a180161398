use Rattle.std.proofs.Common.{◌≡◌, ◌++◌, take}
use Rattle.shape_terms.specs.Cases.{cases_from}
use Rattle.shape_terms.proofs.listing.push_from.Given as goal

abbrev pub invariant-loop-first : goal.invariant-loop-first
invariant-loop-first l = l.cases ≡ l.fn.cases ++ cases_from l.vars (take l.first-index l.firsts) l.seconds
