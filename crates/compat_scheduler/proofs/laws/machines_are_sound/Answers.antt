use Rattle.compat_scheduler.specs.Machines.{beginning}
use Rattle.compat_scheduler.proofs.RunLemmas.{sound-runs}
use Rattle.compat_scheduler.proofs.SoundLemmas.{sound-beginning}
use Rattle.compat_scheduler.proofs.laws.machines_are_sound.Goals as goal

pub returns : goal.returns
returns c = λ s events m run. sound-runs s events (beginning s) m (sound-beginning s) run
