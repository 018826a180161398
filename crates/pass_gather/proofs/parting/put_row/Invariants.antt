use Rattle.std.proofs.Common.{◌≡◌, ◌+◌, length}
use Rattle.pass_gather.specs.Parting.{with_row}
use Rattle.pass_gather.proofs.parting.put_row.Given as goal

abbrev pub invariant-loop-place : goal.invariant-loop-place
invariant-loop-place g l = record {
  boxes : l.boxes.items ≡ with_row l.fn.boxes.items l.yielded;
  number : l.number ≡ length l.yielded;
  many : length l.yielded + length l.place-iterator.rest.items ≡ length l.fn.boxes.items;
}
