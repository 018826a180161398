use Rattle.step_journal.proofs.LegalHistories.{legal_push}
use Rattle.step_journal.proofs.histories.longer_is_legal.Goals as goal

pub returns : goal.returns
returns g c = legal_push g.R.Records.does
