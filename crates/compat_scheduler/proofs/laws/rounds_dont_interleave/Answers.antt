use Rattle.std.proofs.Common.{arith}
use Rattle.compat_scheduler.specs.Machines.{beginning}
use Rattle.compat_scheduler.proofs.SoundLemmas.{sound-beginning}
use Rattle.compat_scheduler.proofs.RunLemmas.{rounds_rise}
use Rattle.compat_scheduler.proofs.laws.rounds_dont_interleave.Goals as goal

pub returns : goal.returns
returns c = λ s events m run. rounds_rise s 0 events (beginning s) m (sound-beginning s) (omega arith) run
