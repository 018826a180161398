-- The clauses of `texts_fit`, each by its lemma.
use Rattle.meaning_laws.proofs.CalledProcedures.{keeps-procedure}
use Rattle.meaning_laws.proofs.calls.texts_fit.Goals as goal

pub returns : goal.returns
returns c = λ p box number cat q keeps at there. (keeps-procedure p keeps box cat at number q there).text
