use Rattle.std.proofs.Common.{◌≡◌, ◌++◌, length}
use Rattle.std.specs.Vec.Iter.{into_iter_items, into_iter_len}
use Rattle.pass_engine.proofs.still.seat_all.Given as goal

-- the seats over the cores so far
abbrev pub invariant-loop-core : goal.invariant-loop-core
invariant-loop-core g l = record {
  rest : l.yielded ++ into_iter_items l.core-iterator ≡ l.fn.cores.items;
  count : into_iter_len l.core-iterator ≡ length (into_iter_items l.core-iterator);
  seats : l.seats ≡ l.yielded;
}
