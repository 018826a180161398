-- Proofs of the goals of `with_levels`.
use Rattle.std.proofs.Common.{inl, inr, sym, ◌∙◌}
use Rattle.std.specs.Vec.Iter.{into_iter_items}
use Rattle.std.specs.Slice.Iter.{iter_rest}
use Rattle.call_order.proofs.LevelLemmas.{none_left, no_level_left}
use Rattle.call_order.proofs.levelling.with_levels.Goals as goal

pub returns : goal.returns
returns c = elim c.in-None.ensures.steps [
  | inl a ↦ none_left c.loop-info.levelled _ (into_iter_items c.loop-info.info-iterator.a)
      (iter_rest c.loop-info.info-iterator.b) c.loop-info.invariant.value
      (sym c.loop-info.invariant.count ∙ a.1.0)
  | inr b ↦ no_level_left c.loop-info.levelled _ (into_iter_items c.loop-info.info-iterator.a)
      (iter_rest c.loop-info.info-iterator.b) c.loop-info.invariant.value b.1.0
]
