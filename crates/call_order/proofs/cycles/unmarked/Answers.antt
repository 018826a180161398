-- Proofs of the goals of `unmarked`.
use Rattle.std.proofs.Common.{refl, ◌∙◌}
use Rattle.call_order.proofs.MarkLemmas.{no_marks_next}
use Rattle.call_order.proofs.cycles.unmarked.Goals as goal

pub loop-preserved : goal.loop-preserved
loop-preserved c = c.in_ok-push.ensures.ok ∙ no_marks_next c.loop.counter _ c.loop.marks refl
    c.loop.invariant
