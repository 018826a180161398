-- The clauses of `rejected_preprocedure_leaves_the_box`, each by its lemma.
use Rattle.meaning_laws.proofs.ChosenAlternatives.{attempt-rejected}
use Rattle.meaning_laws.proofs.OtherBoxes.{pre-leaves}
use Rattle.meaning_laws.proofs.rejections.rejected_preprocedure_leaves_the_box.Goals as goal

pub returns : goal.returns
returns c = record {
  rejected = attempt-rejected;
  own_box = λ p depth box number q args state budget left keeps there r.
      pre-leaves p keeps depth box number q args state budget left there r;
}
