-- What lasts over the loop of `given_row`.
use Rattle.std.proofs.Common.{◌≡◌, length}
use Rattle.call_order.specs.Marks.{spread_times, marked_with, no_marks}
use Rattle.call_order.proofs.cycles.given_row.Given as goal

abbrev pub invariant-loop : goal.invariant-loop
invariant-loop l = record {
  value : l.marks ≡ spread_times l.boxes l.counter (marked_with l.given (no_marks (length l.boxes)));
  count : length l.marks ≡ length l.boxes;
}
