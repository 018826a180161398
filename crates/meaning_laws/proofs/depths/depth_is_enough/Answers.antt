-- The clauses of `depth_is_enough`, each by its lemma.
use Rattle.std.proofs.Common.{ap}
use Rattle.meaning_laws.proofs.LowerCalls.{depth-enough}
use Rattle.meaning_laws.proofs.depths.depth_is_enough.Goals as goal

pub returns : goal.returns
returns c =
    λ p depth box number args state budget keeps less.
    ap (λ f. f args state budget) (depth-enough p keeps depth box number less)
