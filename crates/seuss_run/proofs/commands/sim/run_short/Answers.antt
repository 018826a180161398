use Rattle.std.proofs.Common.{◌≤◌, sym, subst, refl, arith}
use Rattle.loose_records.specs.Orders.{commit_order}
use Rattle.seuss_program.specs.Reports.{last_line}
use Rattle.seuss_run.specs.Simulations.{IsSimulated}
use Rattle.seuss_run.specs.Verdicts.{Running, attempts_in}
use Rattle.seuss_run.specs.declared.ends.TheConstants.{MOST_ATTEMPTS}
use Rattle.seuss_run.specs.declared.loading.Job.{Job}
use Rattle.seuss_run.proofs.PerformLemmas.{low_status, within}
use Rattle.seuss_run.proofs.RecordReports.{few_attempts}
use Rattle.seuss_run.proofs.commands.sim.run_short.Goals as goal

-- few attempts are few for each round of actions
pub report_turns-requires-clause-few : goal.report_turns-requires-clause-few
report_turns-requires-clause-few c =
    few_attempts c.in_ok-prepared.prepared.job.program c.args.rounds
    (subst (λ (job : Job). attempts_in c.args.rounds job.program ≤ MOST_ATTEMPTS)
    (sym c.in_ok-prepared.ensures.same)
    (within MOST_ATTEMPTS (attempts_in c.args.rounds c.args.job.program) c.is_too_long.result
    c.is_too_long.ensures.1 c.if-is_too_long.false))

-- the run was made
pub returns : goal.returns
returns c =
    let told = rw c.as_slice.ensures at c.in_ok-answer.ensures in
    let few = within MOST_ATTEMPTS (attempts_in c.args.rounds c.args.job.program) c.is_too_long.result
    c.is_too_long.ensures.1 c.if-is_too_long.false in (
      omega (arith, told.reports.ended, low_status (last_line (commit_order told.made))),
      Running (c.args.job.program, c.args.job.input),
      (refl, few),
      subst (λ (job : Job). IsSimulated (job.program, job.input) c.args.rounds c.args.width
          c.args.turns.now c.args.budget c.in_ok-answer.answer.status c.in_ok-answer.answer.text)
          c.in_ok-prepared.ensures.same told,
    )
