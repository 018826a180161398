use Rattle.safety_check.proofs.ExpressionRegions.{value-told}
use Rattle.safety_check.proofs.laws.values_lie_in_regions.Goals as goal

pub returns : goal.returns
returns c = λ s e k vars slots regions kind typed_vars typed_slots fit.
    value-told s vars slots regions typed_vars typed_slots fit e k kind
