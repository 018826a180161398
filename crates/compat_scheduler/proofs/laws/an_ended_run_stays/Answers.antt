use Rattle.compat_scheduler.specs.Machines.{beginning}
use Rattle.compat_scheduler.proofs.SoundLemmas.{sound-beginning}
use Rattle.compat_scheduler.proofs.RunLemmas.{sound-runs}
use Rattle.compat_scheduler.proofs.CountLemmas.{quiet_when_done}
use Rattle.compat_scheduler.proofs.EndLemmas.{nothing_follows}
use Rattle.compat_scheduler.proofs.laws.an_ended_run_stays.Goals as goal

pub returns : goal.returns
returns c = record {
  quiet = λ s events m run. quiet_when_done s m
      (sound-runs s events (beginning s) m (sound-beginning s) run);
  last = λ s front rest m n run. nothing_follows s rest m n
      (sound-runs s front (beginning s) m (sound-beginning s) run);
}
