-- What lasts over the loop of `mark_all`.
use Rattle.std.proofs.Common.{◌≡◌, drop, length}
use Rattle.call_order.specs.Marks.{marked_with}
use Rattle.call_order.proofs.cycles.mark_all.Given as goal

abbrev pub invariant-loop-number : goal.invariant-loop-number
invariant-loop-number l = record {
  value : marked_with (drop l.number-index l.given) l.marks ≡ marked_with l.given l.initial.marks;
  count : length l.marks ≡ length l.initial.marks;
}
