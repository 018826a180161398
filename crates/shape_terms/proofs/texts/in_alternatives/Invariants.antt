use Rattle.std.proofs.Common.{◌≡◌, drop}
use Rattle.shape_terms.specs.Texts.{in_alternatives}
use Rattle.shape_terms.proofs.texts.in_alternatives.Given as goal

abbrev pub invariant-loop-alternative : goal.invariant-loop-alternative
invariant-loop-alternative l =
    in_alternatives l.variable (drop l.alternative-index l.alternatives)
    ≡ in_alternatives l.variable l.alternatives
