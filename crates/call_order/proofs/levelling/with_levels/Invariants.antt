-- What lasts over the loop of `with_levels`.
use Rattle.std.proofs.Common.{◌≡◌, ◌++◌, length}
use Rattle.std.specs.Vec.Iter.{into_iter_items, into_iter_len}
use Rattle.std.specs.Slice.Iter.{iter_rest}
use Rattle.call_order.specs.LevelLists.{set_levels}
use Rattle.call_order.proofs.levelling.with_levels.Given as goal

abbrev pub invariant-loop-info : goal.invariant-loop-info
invariant-loop-info l = record {
  value : l.levelled ++ set_levels (into_iter_items l.info-iterator.a) (iter_rest l.info-iterator.b)
      ≡ set_levels l.fn.boxes l.levels;
  count : into_iter_len l.info-iterator.a ≡ length (into_iter_items l.info-iterator.a);
}
