use Rattle.std.proofs.Common.{◌&&◌, not, List, length, replicate, sym, ap, ◌∙◌}
use Rattle.std.specs.List.{list_all}
use Rattle.seuss_base.specs.declared.level.Level.TheVariants.{Loose}
use Rattle.compat_scheduler.specs.declared.slot.Slot.{Slot}
use Rattle.compat_scheduler.specs.declared.slot.Slot.TheVariants.{Pending}
use Rattle.compat_scheduler.specs.Finishes.{is_ended}
use Rattle.compat_scheduler.proofs.SchedulerLemmas.{finishes_done, finishes_going, scheduler_after, runs_on}
use Rattle.compat_scheduler.proofs.CountsKept.{finish_is_counted, finish_counts}
use Rattle.compat_scheduler.proofs.sched_core.SchedCore.finish.Goals as goal

pub uncount_leaver-requires-clause-counted : goal.uncount_leaver-requires-clause-counted
uncount_leaver-requires-clause-counted c =
    finish_is_counted _ _ _ c.args.ticket _ _ _ c.self.view_is c.self.invariant.0 c.self.invariant.1
    c.requires c.as_mut_slice.ensures.value c.slot_of-slot.ensures.value

pub invariant_of-self-else-done : goal.invariant_of-self-else-done
invariant_of-self-else-done c =
    let finishes = finishes_going _ _ _ c.args.ticket c.args.end c.verdict-verdict.result
    c.slot_of-slot.result c.slot_to_follow.result _ _
    c.self.view_is c.verdict-verdict.ensures c.slot_of-slot.ensures.value c.slot_to_follow.ensures
    c.stopped_after-self-inside.ensures
    (c.is_round_done-done.ensures
    ∙ ap (λ (xs : List Slot). list_all is_ended xs && not c.stopped_after-self-inside.result)
    c.as_slice.ensures.value)
    c.if-done.false in (
      scheduler_after _ _ _ _ _ _ c.self.invariant.0 finishes,
      finish_counts _ _ c.args.ticket _ _ _ _ _ _ c.slot_of-slot.result c.self.inside.counts.len
          c.self.invariant.0 c.self.invariant.1 finishes c.as_mut_slice.ensures.value
          c.as_mut_slice.ensures.len c.slot_of-slot.ensures.value c.uncount_leaver.auto.counts
          c.uncount_leaver.ensures,
    )

pub invariant_of-self : goal.invariant_of-self
invariant_of-self c =
    let finishes = finishes_done _ _ _ c.args.ticket c.args.end c.verdict-verdict.result
    c.slot_of-slot.result c.self.inside.slots.len c.slot_to_follow.result _ _ _
    c.self.view_is c.self.invariant.0.sound.many c.verdict-verdict.ensures c.slot_of-slot.ensures.value
    c.slot_to_follow.ensures c.stopped_after-self-inside.ensures
    (c.is_round_done-done.ensures
    ∙ ap (λ (xs : List Slot). list_all is_ended xs && not c.stopped_after-self-inside.result)
    c.as_slice.ensures.value)
    c.if-done.true
    (c.begin_round.ensures ∙ ap (λ (xs : List Slot). replicate (length xs)
    (Pending Loose)) c.as_mut_slice-then-done.ensures.value)
    (sym (ap length c.as_mut_slice-then-done.ensures.value) ∙ c.as_mut_slice-then-done.ensures.len) in (
      scheduler_after _ _ _ _ _ _ c.self.invariant.0 finishes,
      finish_counts _ _ c.args.ticket _ _ _ _ _ _ c.slot_of-slot.result c.self.inside.counts.len
          c.self.invariant.0 c.self.invariant.1 finishes c.as_mut_slice.ensures.value
          c.as_mut_slice.ensures.len c.slot_of-slot.ensures.value c.uncount_leaver.auto.counts
          c.uncount_leaver.ensures,
    )

pub returns-then-done-clause-others : goal.returns-then-done-clause-others
returns-then-done-clause-others c =
    let finishes = finishes_done _ _ _ c.args.ticket c.args.end c.verdict-verdict.result
    c.slot_of-slot.result c.self.inside.slots.len c.slot_to_follow.result _ _ _
    c.self.view_is c.self.invariant.0.sound.many c.verdict-verdict.ensures c.slot_of-slot.ensures.value
    c.slot_to_follow.ensures c.stopped_after-self-inside.ensures
    (c.is_round_done-done.ensures
    ∙ ap (λ (xs : List Slot). list_all is_ended xs && not c.stopped_after-self-inside.result)
    c.as_slice.ensures.value)
    c.if-done.true
    (c.begin_round.ensures ∙ ap (λ (xs : List Slot). replicate (length xs)
    (Pending Loose)) c.as_mut_slice-then-done.ensures.value)
    (sym (ap length c.as_mut_slice-then-done.ensures.value) ∙ c.as_mut_slice-then-done.ensures.len) in
    runs_on _ _ _ _ _ _ _ c.self.view_is finishes

pub returns-else-done-clause-others : goal.returns-else-done-clause-others
returns-else-done-clause-others c =
    let finishes = finishes_going _ _ _ c.args.ticket c.args.end c.verdict-verdict.result
    c.slot_of-slot.result c.slot_to_follow.result _ _
    c.self.view_is c.verdict-verdict.ensures c.slot_of-slot.ensures.value c.slot_to_follow.ensures
    c.stopped_after-self-inside.ensures
    (c.is_round_done-done.ensures
    ∙ ap (λ (xs : List Slot). list_all is_ended xs && not c.stopped_after-self-inside.result)
    c.as_slice.ensures.value)
    c.if-done.false in
    runs_on _ _ _ _ _ _ _ c.self.view_is finishes
