-- The clauses of `places_are_there`, each by its lemma.
use Rattle.meaning_laws.proofs.KeptForms.{entry-kinds, variable-kinds}
use Rattle.meaning_laws.proofs.Results.{result-stands}
use Rattle.meaning_laws.proofs.forms.places_are_there.Goals as goal

pub returns : goal.returns
returns c = record {
  variables = λ p box cat q state at form. variable-kinds p box cat at state form;
  entry = entry-kinds;
  result = result-stands;
}
