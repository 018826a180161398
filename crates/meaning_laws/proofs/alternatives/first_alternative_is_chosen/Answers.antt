-- The clauses of `first_alternative_is_chosen`, each by its lemma.
use Rattle.meaning_laws.proofs.ChosenAlternatives.{attempt-chosen, attempt-traps, decided}
use Rattle.meaning_laws.proofs.alternatives.first_alternative_is_chosen.Goals as goal

pub returns : goal.returns
returns c = record { chosen = attempt-chosen; trapped = attempt-traps; decided = decided }
