-- The clauses of `plain_rejection_changes_nothing`, each by its lemma.
use Rattle.meaning_laws.proofs.ChosenAlternatives.{attempt-none}
use Rattle.meaning_laws.proofs.rejections.plain_rejection_changes_nothing.Goals as goal

pub returns : goal.returns
returns c = attempt-none
