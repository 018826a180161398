use Rattle.std.proofs.Common.{◌∙◌, sym, ap}
use Rattle.seuss_parser.specs.Words.{is_symbol}
use Rattle.seuss_parser.proofs.SymbolLemmas.{same-number}
use Rattle.seuss_parser.proofs.word.Word.is.Goals as goal

pub returns-in-Fixed : goal.returns-in-Fixed
returns-in-Fixed c =
    c.eq.ensures ∙ same-number c.in-Fixed.found c.args.symbol ∙
    sym (ap (λ sort. is_symbol c.args.symbol sort) c.in-Fixed.is)
