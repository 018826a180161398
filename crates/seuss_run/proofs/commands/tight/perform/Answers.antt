use Rattle.seuss_run.specs.Verdicts.{is_loaded, are_actions}
use Rattle.seuss_run.specs.declared.loading.Job.{Job}
use Rattle.seuss_run.specs.declared.words.Command.TheVariants as C
use Rattle.seuss_run.proofs.PerformLemmas.{halts, goes}
use Rattle.seuss_run.proofs.commands.tight.perform.Goals as goal

-- the bytes are refused
pub returns-in_err-job : goal.returns-in_err-job
returns-in_err-job c =
    halts (C.Tight c.args.names.now) is_loaded (are_actions c.args.names.now) c.args.bytes.now
    (λ (job : Job). (job.program, job.input))
    c.in_err-job.field-0.0 c.from_residual.result c.from_residual.ensures.1 c.in_err-job.ensures.meets

-- the names tell
pub returns : goal.returns
returns c =
    goes (C.Tight c.args.names.now) is_loaded (are_actions c.args.names.now) c.args.bytes.now
    (c.in_ok-job.job.program, c.in_ok-job.job.input) c.attempt_names.result c.in_ok-job.ensures.meets
    c.attempt_names.ensures
