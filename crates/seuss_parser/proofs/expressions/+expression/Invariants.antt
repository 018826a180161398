use Rattle.std.proofs.Common.{◌≤◌, ◌+◌, ◌*◌, ℕ, length}
use Rattle.seuss_parser.specs.ExpressionReading.{read_behind, read_expression}
use Rattle.seuss_parser.specs.Fronts.{begins_with_one_of}
use Rattle.seuss_parser.specs.Levels.{operators, read_part, read_links}
use Rattle.seuss_parser.specs.Trees.{grouped}
use Rattle.seuss_parser.specs.declared.level.Level.{Level}
use Rattle.seuss_parser.specs.declared.level.Level.TheVariants as L
use Rattle.seuss_parser.proofs.LoopLemmas.{GoesOn}
use Rattle.seuss_parser.proofs.expressions.+expression.Given as goal

-- how many calls of other productions, at most, stand between a part of a level and a bracket
abbrev pub rank : Level → ℕ
rank L.Or = 20
rank L.And = 16
rank L.Comparison = 12
rank L.Sum = 8
rank L.Product = 4

abbrev pub decreases-expression : goal.decreases-expression
decreases-expression l = 24 * l.depth

abbrev pub decreases-bracketed : goal.decreases-bracketed
decreases-bracketed l = 24 * l.depth + 1

abbrev pub decreases-function : goal.decreases-function
decreases-function l = 24 * l.depth + 1

abbrev pub decreases-pair_function : goal.decreases-pair_function
decreases-pair_function l = 24 * l.depth + 1

abbrev pub decreases-primary : goal.decreases-primary
decreases-primary l = 24 * l.depth + 2

abbrev pub decreases-unary : goal.decreases-unary
decreases-unary l = 24 * l.depth + 3

abbrev pub decreases-part : goal.decreases-part
decreases-part l = 24 * l.depth + rank l.level

abbrev pub decreases-behind : goal.decreases-behind
decreases-behind l = 24 * l.depth + (rank l.level + 1)

abbrev pub decreases-links : goal.decreases-links
decreases-links l = 24 * l.depth + (rank l.level + 2)

abbrev pub decreases-chain : goal.decreases-chain
decreases-chain l = 24 * l.depth + (rank l.level + 3)

abbrev pub decreases-comparison : goal.decreases-comparison
decreases-comparison l = 24 * l.depth + 14

abbrev pub decreases-negation : goal.decreases-negation
decreases-negation l = 24 * l.depth + 15

abbrev pub invariant-links-loop-alloc : goal.invariant-links-loop-alloc
invariant-links-loop-alloc l = record {
  so_far : GoesOn (begins_with_one_of (operators l.level))
      (read_behind (operators l.level) (read_part l.level (read_expression l.depth))) (grouped l.whole)
      l.words.room l.words.left.items
      (read_links l.fn.level (read_expression l.fn.depth) l.fn.first l.fn.words.room l.fn.words.left.items);
  no_longer : length l.words.left.items ≤ length l.fn.words.left.items;
}

abbrev pub decreases-links-loop-alloc : goal.decreases-links-loop-alloc
decreases-links-loop-alloc l = length l.words.left.items
