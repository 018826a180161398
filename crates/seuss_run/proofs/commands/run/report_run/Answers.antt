use Rattle.seuss_run.proofs.RecordReports.{is_report}
use Rattle.seuss_run.proofs.commands.run.report_run.Goals as goal

-- the report of the record of the run
pub returns : goal.returns
returns g c =
    let made = c.args.prepared.now in
    is_report made.job.program made.job.input c.args.rounds c.args.budget c.in_ok-made.made
    c.report_record.result c.report_record.ensures
