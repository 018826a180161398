use Rattle.std.proofs.Common.{◌<◌, ◌≤◌, ⊎_elim, arith}
use Rattle.std.proofs.lemmas.Bool.{cases_lt}
use Rattle.seuss_base.specs.declared.level.Level.{Level}
use Rattle.compat_scheduler.specs.Starts.{MayStart}
use Rattle.compat_scheduler.proofs.SlotLemmas.{none_past, one_further}
use Rattle.compat_scheduler.proofs.scan.first_to_start.Goals as goal

pub loop-one-preserved : goal.loop-one-preserved
loop-one-preserved c = λ j x h.
    one_further (λ i. (y : Level) → ¬ MayStart c.args.setting.now c.args.slots.now i y) c.loop-one.one
    (λ i below y. c.loop-one.invariant i y below) c.in_default.ensures j h x

pub returns : goal.returns
returns c = λ i x.
    ⊎_elim (λ (h : i < c.loop-one.one). c.loop-one.invariant i x h)
    (λ (h : c.loop-one.one ≤ i). none_past c.args.setting.now c.args.slots.now i x (omega arith))
    (cases_lt i c.loop-one.one)
