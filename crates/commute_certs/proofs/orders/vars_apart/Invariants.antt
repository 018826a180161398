use Rattle.std.proofs.Common.{◌≡◌, length, take}
use Rattle.shape_terms.specs.Points.{Point}
use Rattle.shape_terms.specs.Symbols.{values_at}
use Rattle.commute_certs.proofs.orders.vars_apart.Given as goal

abbrev pub invariant-loop-at : goal.invariant-loop-at
invariant-loop-at l = record {
  long : length l.symbols ≡ length l.others;
  same : (p : Point) → take l.at (values_at l.symbols p) ≡ take l.at (values_at l.others p);
}
