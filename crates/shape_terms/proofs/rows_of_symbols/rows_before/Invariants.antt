use Rattle.std.proofs.Common.{◌≡◌, take}
use Rattle.shape_terms.specs.Cases.{rows_before}
use Rattle.shape_terms.proofs.rows_of_symbols.rows_before.Given as goal

abbrev pub invariant-loop-row : goal.invariant-loop-row
invariant-loop-row l = l.longer ≡ rows_before (take l.row-index l.rows) l.symbols
