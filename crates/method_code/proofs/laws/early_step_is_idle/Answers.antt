use Rattle.method_code.proofs.IdleSteps.{early_reads, plain_reads, runs_quiet}
use Rattle.method_code.proofs.laws.early_step_is_idle.Goals as goal

pub returns : goal.returns
returns c = record { early = early_reads; plain = plain_reads; instruction = runs_quiet }
