use Rattle.std.proofs.Common.{◌≤◌, ◌+◌, ◌*◌, pred, length}
use Rattle.seuss_parser.specs.Blocks.{read_block}
use Rattle.seuss_parser.specs.Fronts.{begins_statement}
use Rattle.seuss_parser.specs.StatementReading.{read_statement}
use Rattle.seuss_parser.proofs.LoopLemmas.{Collects}
use Rattle.seuss_parser.proofs.statements.+statement.Given as goal

abbrev pub decreases-block : goal.decreases-block
decreases-block l = 4 * l.nesting

abbrev pub decreases-perhaps_else : goal.decreases-perhaps_else
decreases-perhaps_else l = 4 * l.nesting + 1

abbrev pub decreases-choice : goal.decreases-choice
decreases-choice l = 4 * l.nesting + 2

abbrev pub decreases-repetition : goal.decreases-repetition
decreases-repetition l = 4 * l.nesting + 2

abbrev pub decreases-statement : goal.decreases-statement
decreases-statement l = 4 * l.nesting + 3

abbrev pub invariant-block-loop-alloc : goal.invariant-block-loop-alloc
invariant-block-loop-alloc l = record {
  so_far : Collects begins_statement (read_statement l.nesting (pred l.nesting)) l.statements
      l.words.room l.words.left.items
      (read_block l.fn.nesting l.fn.words.room l.fn.words.left.items);
  no_longer : length l.words.left.items ≤ length l.fn.words.left.items;
}

abbrev pub decreases-block-loop-alloc : goal.decreases-block-loop-alloc
decreases-block-loop-alloc l = length l.words.left.items
