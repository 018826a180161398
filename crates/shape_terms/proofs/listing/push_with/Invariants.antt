use Rattle.std.proofs.Common.{◌≡◌, ◌++◌, take}
use Rattle.shape_terms.specs.Cases.{cases_with}
use Rattle.shape_terms.proofs.listing.push_with.Given as goal

abbrev pub invariant-loop-second : goal.invariant-loop-second
invariant-loop-second l = l.cases ≡ l.fn.cases ++ cases_with l.vars l.first (take l.second-index l.seconds)
