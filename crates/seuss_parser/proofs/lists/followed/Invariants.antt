use Rattle.std.proofs.Common.{◌≤◌, length}
use Rattle.seuss_parser.specs.CommonReading.{read_next}
use Rattle.seuss_parser.specs.Cursor.{read_others}
use Rattle.seuss_parser.specs.Fronts.{begins_with}
use Rattle.seuss_parser.specs.declared.symbol.Symbol.TheVariants as S
use Rattle.seuss_parser.proofs.LoopLemmas.{Collects}
use Rattle.seuss_parser.proofs.lists.followed.Given as goal

abbrev pub invariant-loop-alloc : goal.invariant-loop-alloc
invariant-loop-alloc g l = record {
  so_far : Collects (begins_with S.Comma) (read_next g.T.Phrase.reading) l.items
      l.words.room l.words.left.items
      (read_others l.fn.first g.T.Phrase.reading l.fn.words.room l.fn.words.left.items);
  no_longer : length l.words.left.items ≤ length l.fn.words.left.items;
}

abbrev pub decreases-loop-alloc : goal.decreases-loop-alloc
decreases-loop-alloc g l = length l.words.left.items
