use Rattle.std.proofs.Common.{◌≡◌, take}
use Rattle.shape_terms.specs.Cases.{cases_between}
use Rattle.shape_terms.proofs.listing.cases_between.Given as goal

abbrev pub invariant-loop-vars : goal.invariant-loop-vars
invariant-loop-vars l = l.cases ≡ cases_between (take l.vars-index l.rows) l.firsts l.seconds
