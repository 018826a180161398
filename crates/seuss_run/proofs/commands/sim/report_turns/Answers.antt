use Rattle.seuss_run.proofs.RecordReports.{simulated}
use Rattle.seuss_run.proofs.commands.sim.report_turns.Goals as goal

-- the report of the record of turns
pub returns : goal.returns
returns c =
    let made = c.args.prepared.now in
    simulated (made.job.program, made.job.input) c.args.rounds c.args.width c.args.turns.now c.args.budget
    made.job.certificates made.rows c.in_ok-made.made c.report_record.result c.requires.prepared.levels
    c.in_ok-made.ensures.by_turns c.report_record.ensures
