use Rattle.compat_scheduler.specs.Machines.{beginning}
use Rattle.compat_scheduler.proofs.SoundLemmas.{sound-beginning}
use Rattle.compat_scheduler.proofs.RunLemmas.{sound-runs}
use Rattle.compat_scheduler.proofs.TicketLemmas.{passes_few}
use Rattle.compat_scheduler.proofs.laws.passes_are_few.Goals as goal

pub returns : goal.returns
returns c = λ s events m run. passes_few s m (sound-runs s events (beginning s) m (sound-beginning s) run)
