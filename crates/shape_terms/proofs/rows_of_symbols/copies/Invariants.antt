use Rattle.std.proofs.Common.{◌≡◌, take}
use Rattle.shape_terms.proofs.rows_of_symbols.copies.Given as goal

abbrev pub invariant-loop-symbol : goal.invariant-loop-symbol
invariant-loop-symbol l = l.copied ≡ take l.symbol-index l.symbols
