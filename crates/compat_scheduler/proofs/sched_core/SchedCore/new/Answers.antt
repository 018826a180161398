use Rattle.std.proofs.Common.{◌≡◌, replicate, refl, ◌∙◌, ap, arith}
use Rattle.seuss_base.specs.declared.level.Level.TheVariants.{Loose}
use Rattle.compat_scheduler.specs.declared.slot.Slot.TheVariants.{Pending}
use Rattle.compat_scheduler.specs.Settings.{copies}
use Rattle.compat_scheduler.specs.Counts.{no_counts}
use Rattle.compat_scheduler.proofs.CountsKept.{counts_at_beginning}
use Rattle.compat_scheduler.proofs.SchedulerLemmas.{scheduler-beginning}
use Rattle.compat_scheduler.proofs.sched_core.SchedCore.new.Goals as goal

pub invariant_of-result : goal.invariant_of-result
invariant_of-result c =
    let items : c.in_ok-slots.slots.items ≡ replicate (copies c.in_ok-setting.setting) (Pending Loose) =
    c.in_ok-slots.ensures.items_if_clones_equal (λ y e. e) ∙ ap (λ n. replicate n
    (Pending Loose)) c.copies.ensures.value in
    let counts : c.in_ok-counts.counts.items ≡ replicate (copies c.in_ok-setting.setting) no_counts =
    c.in_ok-counts.ensures.items_if_clones_equal (λ y e. e)
    ∙ ap (λ n. replicate n no_counts) c.copies-2.ensures.value in
    rw (c.first_round-round.ensures, items, counts) (
      scheduler-beginning c.in_ok-setting.setting
          (omega (arith, c.copies.ensures.few))
          (omega (arith, c.copies.ensures.fits, c.copies.ensures.value)),
      counts_at_beginning c.in_ok-setting.setting (copies c.in_ok-setting.setting),
    )

pub returns-clause-machine : goal.returns-clause-machine
returns-clause-machine c =
    let items : c.in_ok-slots.slots.items ≡ replicate (copies c.in_ok-setting.setting) (Pending Loose) =
    c.in_ok-slots.ensures.items_if_clones_equal (λ y e. e) ∙ ap (λ n. replicate n
    (Pending Loose)) c.copies.ensures.value in
    rw (c.first_round-round.ensures, items) refl
