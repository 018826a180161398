use Rattle.std.proofs.Common.{◌∙◌, ap, is_some}
use Rattle.seuss_parser.specs.Levels.{operators}
use Rattle.seuss_parser.proofs.FrontLemmas.{front-begins, operators-other}
use Rattle.seuss_parser.proofs.words.Words.is_at_operator.Goals as goal

pub returns : goal.returns
returns c =
    c.is_some.ensures ∙ ap is_some (c.operator.ensures ∙ ap (operators c.args.level) c.symbol.ensures) ∙
    front-begins (operators c.args.level) (operators-other c.args.level) c.args.self.now.left.items
