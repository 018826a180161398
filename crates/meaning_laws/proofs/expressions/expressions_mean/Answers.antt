-- The clauses of `expressions_mean`, each by its lemma.
use Rattle.meaning_laws.proofs.ExpressionMeanings.{number-means, truth-means, empty-means, name-means}
use Rattle.meaning_laws.proofs.ExpressionMeanings.{negated-means, inverted-means, measured-means}
use Rattle.meaning_laws.proofs.expressions.expressions_mean.Goals as goal

pub returns : goal.returns
returns c = record {
  number = number-means;
  truth = truth-means;
  empty = empty-means;
  name = name-means;
  negated = negated-means;
  inverted = inverted-means;
  measured = measured-means;
}
