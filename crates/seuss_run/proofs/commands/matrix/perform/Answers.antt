use Rattle.std.proofs.Common.{subst}
use Rattle.seuss_run.specs.Loadings.{Performs}
use Rattle.seuss_run.specs.Stages.{makes}
use Rattle.seuss_run.specs.Verdicts.{is_loaded, Comparing}
use Rattle.seuss_run.specs.declared.loading.Job.{Job}
use Rattle.seuss_run.specs.declared.words.Command.TheVariants as C
use Rattle.seuss_run.proofs.PerformLemmas.{halts, goes}
use Rattle.seuss_run.proofs.commands.matrix.perform.Goals as goal

-- the bytes are refused
pub returns-in_err-job : goal.returns-in_err-job
returns-in_err-job c =
    halts C.Matrix is_loaded (makes Comparing) c.args.bytes.now (λ (job : Job). (job.program, job.input))
    c.in_err-job.field-0.0 c.from_residual.result c.from_residual.ensures.1 c.in_err-job.ensures.meets

-- the actions are compared
pub returns : goal.returns
returns c =
    goes C.Matrix is_loaded (makes Comparing) c.args.bytes.now
    (c.in_ok-job.job.program, c.in_ok-job.job.input) c.compare.result c.in_ok-job.ensures.meets
    (subst (λ (job : Job). Performs C.Matrix (makes Comparing) (job.program, job.input) c.compare.result)
    c.in_ok-prepared.ensures.same c.compare.ensures)
