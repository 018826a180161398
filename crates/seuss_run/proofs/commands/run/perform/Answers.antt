use Rattle.seuss_run.specs.Verdicts.{is_loaded, is_short}
use Rattle.seuss_run.specs.declared.loading.Job.{Job}
use Rattle.seuss_run.specs.declared.words.Command.TheVariants as C
use Rattle.seuss_run.proofs.PerformLemmas.{halts, goes}
use Rattle.seuss_run.proofs.commands.run.perform.Goals as goal

-- the bytes are refused
pub returns-in_err-job : goal.returns-in_err-job
returns-in_err-job g c =
    halts (C.Run c.args.rounds c.args.workers c.args.budget) is_loaded (is_short c.args.rounds)
    c.args.bytes.now (λ (job : Job). (job.program, job.input))
    c.in_err-job.field-0.0 c.from_residual.result c.from_residual.ensures.1 c.in_err-job.ensures.meets

-- the length of the run tells
pub returns : goal.returns
returns g c =
    goes (C.Run c.args.rounds c.args.workers c.args.budget) is_loaded (is_short c.args.rounds)
    c.args.bytes.now (c.in_ok-job.job.program, c.in_ok-job.job.input) c.run_short.result
    c.in_ok-job.ensures.meets c.run_short.ensures
