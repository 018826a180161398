use Rattle.std.proofs.Common.{◌≡◌, ◌++◌, take, map, length, List}
use Rattle.shape_terms.specs.declared.symbol.Symbol.{Symbol}
use Rattle.shape_terms.proofs.listing.push_counts.Given as goal

abbrev pub invariant-loop-symbols : goal.invariant-loop-symbols
invariant-loop-symbols l =
    l.counts ≡ l.fn.counts ++ map (λ (symbols : List Symbol). length symbols)
    (take l.symbols-index l.choices)
