-- The clauses of `starts_in_form`, each by its lemma.
use Rattle.meaning_laws.proofs.StartForms.{start-form}
use Rattle.meaning_laws.proofs.forms.starts_in_form.Goals as goal

pub returns : goal.returns
returns c = start-form
