use Rattle.std.proofs.Common.{◌≤◌, sym, subst, refl, arith}
use Rattle.seuss_program.specs.Reports.{last_line}
use Rattle.seuss_run.specs.Runs.{IsReport}
use Rattle.seuss_run.specs.Verdicts.{Running, attempts_in}
use Rattle.seuss_run.specs.declared.ends.TheConstants.{MOST_ATTEMPTS}
use Rattle.seuss_run.specs.declared.loading.Job.{Job}
use Rattle.seuss_run.proofs.PerformLemmas.{low_status, within}
use Rattle.seuss_run.proofs.RecordReports.{few_attempts}
use Rattle.seuss_run.proofs.commands.run.run_short.Goals as goal

-- few attempts are few for each round of actions
pub report_run-requires-clause-few : goal.report_run-requires-clause-few
report_run-requires-clause-few g c κs lives =
    few_attempts c.in_ok-prepared.prepared.job.program c.args.rounds
    (subst (λ (job : Job). attempts_in c.args.rounds job.program ≤ MOST_ATTEMPTS)
    (sym c.in_ok-prepared.ensures.same)
    (within MOST_ATTEMPTS (attempts_in c.args.rounds c.args.job.program) c.is_too_long.result
    c.is_too_long.ensures.1 c.if-is_too_long.false))

-- the run was made
pub returns : goal.returns
returns g c =
    let told = c.in_ok-answer.ensures in
    let few = within MOST_ATTEMPTS (attempts_in c.args.rounds c.args.job.program) c.is_too_long.result
    c.is_too_long.ensures.1 c.if-is_too_long.false in (
      omega (arith, told.2.ended, low_status (last_line told.0)),
      Running (c.args.job.program, c.args.job.input),
      (refl, few),
      subst (λ (job : Job). IsReport job.program job.input c.args.rounds c.args.budget
          c.in_ok-answer.answer.status c.in_ok-answer.answer.text) c.in_ok-prepared.ensures.same told,
    )
