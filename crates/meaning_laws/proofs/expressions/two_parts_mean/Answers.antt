-- The clauses of `two_parts_mean`, each by its lemma.
use Rattle.meaning_laws.proofs.OperandMeanings.{length-compared, compared-length, values-apply, either-means}
use Rattle.meaning_laws.proofs.OperandMeanings.{each-means, comparison-decided}
use Rattle.meaning_laws.proofs.expressions.two_parts_mean.Goals as goal

pub returns : goal.returns
returns c = record {
  length_on_the_left = length-compared;
  length_on_the_right = compared-length;
  disjunction = either-means;
  conjunction = each-means;
  others = values-apply;
  decided = comparison-decided;
}
