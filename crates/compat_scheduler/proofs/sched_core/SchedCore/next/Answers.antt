use Rattle.std.proofs.Common.{rules}
use Rattle.compat_scheduler.proofs.CountsKept.{next_by_counts, none_starts_by_counts}
use Rattle.compat_scheduler.proofs.sched_core.SchedCore.next.Goals as goal

pub returns-in_err-slot : goal.returns-in_err-slot
returns-in_err-slot c =
    rw c.from_residual.ensures (none_starts_by_counts _ _ _ _ _ _ c.self.view_is c.self.invariant.0
    c.self.invariant.1 c.as_slice.ensures.value c.as_slice-2.ensures.value c.in_err-slot.ensures)

pub returns : goal.returns
returns c =
    next_by_counts _ _ _ _ _ _ c.in_ok-slot.slot _ _ c.in_ok-slot.mode c.self.view_is c.self.invariant.0
    c.self.invariant.1 c.as_slice.ensures.value c.as_slice-2.ensures.value c.in_ok-slot.ensures
    c.if-self.false (λ e. c.if-self-rounds.false (search (rules, e))) c.attempt.ensures.value
    c.attempt.ensures.slot c.action_of.ensures
