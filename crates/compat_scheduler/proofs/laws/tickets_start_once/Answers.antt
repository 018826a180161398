use Rattle.compat_scheduler.specs.Machines.{beginning}
use Rattle.compat_scheduler.proofs.StartLemmas.{start_once}
use Rattle.compat_scheduler.proofs.laws.tickets_start_once.Goals as goal

pub returns : goal.returns
returns c = λ s events m. start_once s events (beginning s) m
