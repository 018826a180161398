use Rattle.step_journal.proofs.LegalHistories.{legal_cut}
use Rattle.step_journal.proofs.histories.beginning_is_legal.Goals as goal

pub returns : goal.returns
returns g c = legal_cut g.R.Records.does
