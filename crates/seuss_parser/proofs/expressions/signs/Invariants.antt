use Rattle.std.proofs.Common.{◌≤◌, length}
use Rattle.seuss_parser.specs.CommonReading.{read_mark}
use Rattle.seuss_parser.specs.Fronts.{begins_with}
use Rattle.seuss_parser.specs.Readings.{many}
use Rattle.seuss_parser.proofs.LoopLemmas.{Collects}
use Rattle.seuss_parser.proofs.expressions.signs.Given as goal

abbrev pub invariant-loop-sign : goal.invariant-loop-sign
invariant-loop-sign l = record {
  so_far : Collects (begins_with l.sign) (read_mark l.sign) l.lines l.words.room l.words.left.items
      (many (begins_with l.fn.sign) (read_mark l.fn.sign) l.fn.words.room l.fn.words.left.items);
  no_longer : length l.words.left.items ≤ length l.fn.words.left.items;
}

abbrev pub decreases-loop-sign : goal.decreases-loop-sign
decreases-loop-sign l = length l.words.left.items
