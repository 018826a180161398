-- The table of the program is that of the definition.
use Rattle.seuss_text.specs.Words.{signs}
use Rattle.seuss_text.proofs.words.is_sign.Goals as goal

pub returns : goal.returns
unfolding signs
returns c = c.is_among.ensures
