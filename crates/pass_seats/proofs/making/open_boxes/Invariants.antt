use Rattle.std.proofs.Common.{◌≡◌, ◌++◌, length}
use Rattle.std.specs.Vec.Iter.{into_iter_items, into_iter_len}
use Rattle.pass_seats.specs.Opening.{ArePlacesOf, AreNewBoxes}
use Rattle.pass_seats.proofs.making.open_boxes.Given as goal

-- the desks of the boxes so far
abbrev pub invariant-loop-one : goal.invariant-loop-one
invariant-loop-one g l = record {
  rest : l.yielded ++ into_iter_items l.one-iterator ≡ l.fn.fresh.items;
  count : into_iter_len l.one-iterator ≡ length (into_iter_items l.one-iterator);
  desks : AreNewBoxes g.N.EngineNames.names l.desks.items;
  many : length l.desks.items ≡ length l.yielded;
  places : ArePlacesOf (length l.desks.items) l.places.items;
  all : length l.places.items ≡ length l.fn.places.items;
  first : l.first ≡ l.fn.first;
}
