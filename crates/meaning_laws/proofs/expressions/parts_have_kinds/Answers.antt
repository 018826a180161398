-- The clauses of `parts_have_kinds`, each by its lemma.
use Rattle.meaning_laws.proofs.ExpressionMeanings.{name-kind, negated-kind, inverted-kind, measured-kind}
use Rattle.meaning_laws.proofs.ExpressionMeanings.{two-kinds}
use Rattle.meaning_laws.proofs.expressions.parts_have_kinds.Goals as goal

pub returns : goal.returns
returns c =
    record {
      name = name-kind;
      negated = negated-kind;
      inverted = inverted-kind;
      measured = measured-kind;
      of_two = two-kinds;
    }
