use Rattle.std.proofs.Common.{refl}
use Rattle.seuss_parser.specs.Trees.{pair_function}
use Rattle.seuss_parser.proofs.FrontLemmas.{mark-reads}
use Rattle.seuss_parser.proofs.words.Words.pair_function.Goals as goal

pub returns-clause-gives : goal.returns-clause-gives
returns-clause-gives c =
    mark-reads pair_function refl _ _ _ _ _ _ _
    c.pair_function-found.ensures c.symbol.ensures c.found_mark.ensures.gives
