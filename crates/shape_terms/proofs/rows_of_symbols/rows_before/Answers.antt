use Rattle.std.proofs.Common.{◌∙◌, ap, arith, map, ◌++◌, ◌∷◌, [], List}
use Rattle.shape_terms.specs.declared.symbol.Symbol.{Symbol}
use Rattle.shape_terms.proofs.CaseLemmas.{flat_grown}
use Rattle.shape_terms.proofs.rows_of_symbols.rows_before.Goals as goal

pub loop-row-preserved : goal.loop-row-preserved
loop-row-preserved c =
    flat_grown (λ (row : List Symbol). map (λ (s : Symbol). row ++ s ∷ []) c.args.symbols.now)
    c.args.rows.now c.loop-row.row-index
    c.row-item.result c.loop-row.longer _ (omega arith) c.row-item.is c.loop-row.invariant
    (c.in_ok-push_rows.ensures
    ∙ ap (λ (row : List Symbol). c.loop-row.longer ++ map (λ (s : Symbol). row ++ s ∷ []) c.args.symbols.now)
    c.as_slice.ensures)
