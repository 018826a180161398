use Rattle.std.proofs.Common.{◌≡◌, ◌+◌, ◌++◌, length}
use Rattle.engine_gather.specs.Columns.{with_firsts}
use Rattle.engine_gather.proofs.turn_column.put_row.Given as goal

abbrev pub invariant-loop-seat : goal.invariant-loop-seat
invariant-loop-seat g l = record {
  columns : l.columns.items ≡ with_firsts l.number l.fn.columns.items;
  number : l.number ≡ length l.yielded;
  many : length l.yielded + length l.seat-iterator.rest.items ≡ length l.fn.columns.items;
  row : l.yielded ++ l.seat-iterator.rest.items ≡ l.fn.row.items;
}
