use Rattle.std.proofs.Common.{rules}
use Rattle.seuss_parser.proofs.natural.Natural.new.Goals as goal

pub invariant_of-result : goal.invariant_of-result
invariant_of-result c = (c.args.value, search rules)
