use Rattle.std.proofs.Common.{◌≡◌, take}
use Rattle.shape_terms.specs.Points.{point_of}
use Rattle.shape_terms.specs.Symbols.{values_at}
use Rattle.commute_certs.proofs.deciding.values_of.Given as goal

abbrev pub invariant-loop-symbol : goal.invariant-loop-symbol
invariant-loop-symbol l = l.values ≡ values_at (take l.symbol-index l.symbols) (point_of l.at)
