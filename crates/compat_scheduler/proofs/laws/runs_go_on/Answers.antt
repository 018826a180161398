use Rattle.compat_scheduler.specs.Machines.{beginning}
use Rattle.compat_scheduler.proofs.RunLemmas.{runs-append}
use Rattle.compat_scheduler.proofs.OpenLemmas.{run_grows}
use Rattle.compat_scheduler.proofs.laws.runs_go_on.Goals as goal

pub returns : goal.returns
returns c = record {
  more = λ s events m n event run leads. run_grows s events (beginning s) m n event run leads;
  beginning = λ s front rest m run. runs-append s front rest (beginning s) m run;
}
