use Rattle.seuss_parser.specs.Levels.{operators}
use Rattle.seuss_parser.proofs.FrontLemmas.{mark-reads, operators-other}
use Rattle.seuss_parser.proofs.words.Words.operator.Goals as goal

pub returns-clause-gives : goal.returns-clause-gives
returns-clause-gives c =
    mark-reads (operators c.args.level) (operators-other c.args.level) _ _ _ _ _ _ _
    c.operator-found.ensures c.symbol.ensures c.found_mark.ensures.gives
