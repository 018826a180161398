use Rattle.std.proofs.Common.{◌≡◌, ◌≤◌, drop}
use Rattle.shape_terms.specs.Cases.{first_above}
use Rattle.shape_terms.proofs.listing.first_above.Given as goal

abbrev pub invariant-loop-count : goal.invariant-loop-count
invariant-loop-count l = record {
  value : first_above l.product (drop l.count-index l.counts) ≡ first_above 1 l.counts;
  few : l.product ≤ 4096;
}
