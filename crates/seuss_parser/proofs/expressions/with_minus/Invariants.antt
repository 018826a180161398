use Rattle.std.proofs.Common.{◌≡◌, length}
use Rattle.seuss_parser.specs.Trees.{minus}
use Rattle.seuss_parser.proofs.expressions.with_minus.Given as goal

abbrev pub invariant-loop-line : goal.invariant-loop-line
invariant-loop-line l = record { same : minus l.lines l.whole ≡ minus l.fn.lines l.fn.part }

abbrev pub decreases-loop-line : goal.decreases-loop-line
decreases-loop-line l = length l.lines
