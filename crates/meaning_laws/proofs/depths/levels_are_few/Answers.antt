-- The clauses of `levels_are_few`, each by its lemma.
use Rattle.meaning_laws.proofs.FewLevels.{level-below, level-few}
use Rattle.meaning_laws.proofs.depths.levels_are_few.Goals as goal

pub returns : goal.returns
returns c = record {
  below = λ p box keeps within. level-below p keeps box within;
  few = λ p box keeps. level-few p keeps box;
}
