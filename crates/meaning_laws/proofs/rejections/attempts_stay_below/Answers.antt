-- The clauses of `attempts_stay_below`, each by its lemma.
use Rattle.meaning_laws.proofs.OtherBoxes.{attempt-stays}
use Rattle.meaning_laws.proofs.rejections.attempts_stay_below.Goals as goal

pub returns : goal.returns
returns c = λ p depth box number other args state budget keeps differ higher.
    (attempt-stays p keeps depth).by box number other args state budget differ higher
