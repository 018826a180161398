use Rattle.compat_scheduler.specs.Machines.{beginning}
use Rattle.compat_scheduler.proofs.ProgressLemmas.{next_is_one, runs_one}
use Rattle.compat_scheduler.proofs.laws.machine_is_determined.Goals as goal

pub returns : goal.returns
returns c = record { next = next_is_one; run = λ s events m n. runs_one s events (beginning s) m n }
