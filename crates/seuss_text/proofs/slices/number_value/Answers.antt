use Rattle.seuss_text.proofs.WordLemmas.{number_digits}
use Rattle.seuss_text.proofs.slices.number_value.Goals as goal

pub digits_value-requires : goal.digits_value-requires
digits_value-requires c = number_digits c.args.word.now c.requires.number
