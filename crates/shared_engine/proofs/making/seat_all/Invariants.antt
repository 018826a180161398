use Rattle.std.proofs.Common.{◌≡◌, ◌++◌, [], length}
use Rattle.std.specs.Vec.Iter.{into_iter_items, into_iter_len}
use Rattle.shared_engine.specs.Rings.{ring_with}
use Rattle.shared_engine.specs.Beginnings.{AreNewSeats}
use Rattle.shared_engine.proofs.making.seat_all.Given as goal

-- the seats so far, and what the first view of the queue has given
abbrev pub invariant-loop-core : goal.invariant-loop-core
invariant-loop-core g l = record {
  rest : l.yielded ++ into_iter_items l.core-iterator ≡ l.fn.cores.items;
  count : into_iter_len l.core-iterator ≡ length (into_iter_items l.core-iterator);
  turns : l.turns.items ≡ l.fn.turns.items;
  line : l.line ≡ record { queue = l.fn.queue; rows = []; given = length l.yielded };
  seats : AreNewSeats (ring_with l.fn.turns.items l.fn.queue) l.seats.items;
  many : length l.seats.items ≡ length l.yielded;
}
