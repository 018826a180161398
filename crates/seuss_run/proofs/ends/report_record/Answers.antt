use Rattle.loose_records.specs.Settings.{setting_of}
use Rattle.seuss_run.proofs.RecordReports.{reported}
use Rattle.seuss_run.proofs.ends.report_record.Goals as goal

-- each kept pass has a commit step
pub commit_order-requires : goal.commit_order-requires
commit_order-requires c =
    let p = c.args.prepared.now in
    c.reduction.ensures.committed (setting_of p.job.program p.rows c.args.rounds c.args.budget) c.args.made.now
    (c.requires.prepared.settings c.args.rounds c.args.budget c.requires.budget.0 c.requires.budget.1)
    c.requires.loose

-- the commit order is lawful
pub report-requires-clause-lawful : goal.report-requires-clause-lawful
report-requires-clause-lawful c =
    let p = c.args.prepared.now in
    rw c.in_ok-order.ensures (c.reduction.ensures.order
    (setting_of p.job.program p.rows c.args.rounds c.args.budget) c.args.made.now
    (c.requires.prepared.settings c.args.rounds c.args.budget c.requires.budget.0 c.requires.budget.1)
    c.requires.loose)

-- and as good as one action at a time
pub returns : goal.returns
returns c =
    let p = c.args.prepared.now in
    let made = c.args.made.now in
    let s = setting_of p.job.program p.rows c.args.rounds c.args.budget in
    let setting = c.requires.prepared.settings c.args.rounds c.args.budget c.requires.budget.0
    c.requires.budget.1 in
    reported p.job.program p.job.input c.args.rounds c.args.budget made c.requires.first
    (c.reduction.ensures.order s made setting c.requires.loose)
    (c.reduction.ensures.tight s made setting c.requires.loose)
    c.in_ok-order.order.list c.report.result c.in_ok-order.ensures c.report.ensures.printed
    c.report.ensures.ended
