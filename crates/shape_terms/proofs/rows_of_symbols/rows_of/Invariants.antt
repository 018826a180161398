use Rattle.std.proofs.Common.{◌≡◌, drop}
use Rattle.shape_terms.specs.Cases.{rows_after, rows_of}
use Rattle.shape_terms.proofs.rows_of_symbols.rows_of.Given as goal

abbrev pub invariant-loop-symbols : goal.invariant-loop-symbols
invariant-loop-symbols l = rows_after l.rows (drop l.symbols-index l.choices) ≡ rows_of l.choices
