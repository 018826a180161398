use Rattle.compat_scheduler.proofs.SchedulerLemmas.{verdict_read}
use Rattle.compat_scheduler.proofs.sched_core.SchedCore.verdict.Goals as goal

pub returns : goal.returns
returns c =
    verdict_read _ _ _ c.args.ticket.now c.args.end.now _ c.slot_of-slot.result c.index.result.now _
    c.self.view_is
    c.self.invariant.0.sound.many c.requires c.slot_of-slot.ensures.value c.slot_of-slot.ensures.within
    c.index.ensures
    c.flag-clean.ensures c.judge.ensures
