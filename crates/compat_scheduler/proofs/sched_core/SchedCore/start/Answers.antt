use Rattle.std.proofs.Common.{sym, subst, arith}
use Rattle.compat_scheduler.specs.Machines.{Scheduler, IsRunning}
use Rattle.compat_scheduler.specs.Starts.{IsNext}
use Rattle.compat_scheduler.proofs.SchedulerLemmas.{starts_written, starts_fit, scheduler-starts}
use Rattle.compat_scheduler.proofs.SchedulerLemmas.{running-starts}
use Rattle.compat_scheduler.proofs.CountsKept.{start_has_room, start_counts}
use Rattle.compat_scheduler.proofs.sched_core.SchedCore.start.Goals as goal

pub overflow_add-self : goal.overflow_add-self
overflow_add-self c =
    let next : IsNext c.args.self.now.setting c.args.self.now.machine c.in_ok-ticket.ticket =
    c.in_ok-ticket.ensures in
    let here : IsNext (c.self.inside.setting) (record {
      round = c.self.inside.round;
      starts =
          c.self.inside.starts;
      stopped = c.self.inside.stopped;
      slots =
          c.self.inside.slots.items;
    }) c.in_ok-ticket.ticket =
    subst (λ (v : Scheduler). IsNext v.setting v.machine c.in_ok-ticket.ticket) (sym c.self.view_is) next in
    omega (arith, starts_fit _ _ c.self.invariant.0 here.left)

pub count_newcomer-requires-clause-room : goal.count_newcomer-requires-clause-room
count_newcomer-requires-clause-room c =
    start_has_room _ _ _ c.in_ok-ticket.ticket _ _ c.self.view_is c.self.invariant.0 c.self.invariant.1
    c.in_ok-ticket.ensures c.as_mut_slice-2.ensures.value

pub invariant_of-self : goal.invariant_of-self
invariant_of-self c =
    let starts = starts_written _ _ _ c.in_ok-ticket.ticket _ _ _ c.self.inside.slots.len c.self.view_is
    c.in_ok-ticket.ensures c.as_mut_slice.ensures.value c.as_mut_slice.ensures.len
    c.slot_of-slot.ensures.value c.run_slot.ensures in (
      scheduler-starts _ _ c.in_ok-ticket.ticket _ c.self.invariant.0 starts,
      start_counts _ _ c.in_ok-ticket.ticket _ _ _ _ c.slot_of-slot.result c.self.inside.counts.len
          c.self.invariant.0 c.self.invariant.1 starts c.as_mut_slice-2.ensures.value
          c.as_mut_slice-2.ensures.len c.slot_of-slot.ensures.value c.count_newcomer.auto.counts
          c.count_newcomer.ensures,
    )

pub returns-clause-others : goal.returns-clause-others
returns-clause-others c = λ other running.
    let before : IsRunning (c.self.inside.setting) (record {
      round = c.self.inside.round;
      starts =
          c.self.inside.starts;
      stopped = c.self.inside.stopped;
      slots = c.self.inside.slots.items;
    }) other =
    subst (λ (v : Scheduler). IsRunning v.setting v.machine other) (sym c.self.view_is) running in
    running-starts _ _ c.in_ok-ticket.ticket _ other
    (starts_written _ _ _ c.in_ok-ticket.ticket _ _ _ c.self.inside.slots.len c.self.view_is
    c.in_ok-ticket.ensures
    c.as_mut_slice.ensures.value c.as_mut_slice.ensures.len c.slot_of-slot.ensures.value
    c.run_slot.ensures) before
