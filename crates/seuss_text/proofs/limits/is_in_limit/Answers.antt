use Rattle.std.proofs.Common.{Some, ap, ◌∙◌}
use Rattle.seuss_text.proofs.WordLemmas.{number_digits}
use Rattle.seuss_text.proofs.limits.is_in_limit.Goals as goal

pub digits_value-requires : goal.digits_value-requires
digits_value-requires c = number_digits c.args.word.now (c.requires ∙ ap Some c.in-Number.is)
