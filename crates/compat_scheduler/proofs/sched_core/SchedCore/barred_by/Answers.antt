use Rattle.compat_scheduler.proofs.CountsKept.{barred_by_counts}
use Rattle.compat_scheduler.proofs.sched_core.SchedCore.barred_by.Goals as goal

pub returns-in-Pending : goal.returns-in-Pending
returns-in-Pending c =
    barred_by_counts _ _ _ _ _ _ c.index.result.now c.index-in-Pending.result.now c.in-Pending.mode
    c.self.view_is c.self.invariant.0 c.self.invariant.1 c.requires c.index.ensures c.in-Pending.is
    c.index-in-Pending.ensures c.read_count.ensures
