use Rattle.std.proofs.Common.{◌≡◌, ◌++◌, ◌∷◌, [], map, take}
use Rattle.shape_terms.specs.declared.symbol.Symbol.{Symbol}
use Rattle.shape_terms.proofs.rows_of_symbols.push_rows.Given as goal

abbrev pub invariant-loop-symbol : goal.invariant-loop-symbol
invariant-loop-symbol l =
    l.rows ≡ l.fn.rows ++ map (λ (s : Symbol). l.row ++ s ∷ []) (take l.symbol-index l.symbols)
