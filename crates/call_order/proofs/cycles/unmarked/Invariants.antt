-- What lasts over the loop of `unmarked`.
use Rattle.std.proofs.Common.{◌≡◌}
use Rattle.call_order.specs.Marks.{no_marks}
use Rattle.call_order.proofs.cycles.unmarked.Given as goal

abbrev pub invariant-loop : goal.invariant-loop
invariant-loop l = l.marks ≡ no_marks l.counter
