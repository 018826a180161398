use Rattle.method_code.proofs.SingleRuns.{single_runs}
use Rattle.method_code.proofs.laws.single_step_is_run.Goals as goal

pub returns : goal.returns
returns c = single_runs
