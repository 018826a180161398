-- The table of the program is that of the definition.
use Rattle.seuss_text.specs.Words.{keywords}
use Rattle.seuss_text.proofs.words.is_keyword.Goals as goal

pub returns : goal.returns
unfolding keywords
returns c = c.is_among.ensures
