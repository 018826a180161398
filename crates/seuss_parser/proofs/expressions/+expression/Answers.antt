use Rattle.std.proofs.Common.{sym, ap, arith}
use Rattle.seuss_parser.specs.Trees.{grouped}
use Rattle.seuss_parser.proofs.LoopLemmas.{gives-error, goes_on-step, goes_on-done}
use Rattle.seuss_parser.proofs.LevelLemmas.{part-Or, part-Comparison, part-Sum, chain-links}
use Rattle.seuss_parser.proofs.LevelLemmas.{comparison-left}
use Rattle.seuss_parser.proofs.LevelLemmas.{comparison-plain, comparison-two, comparison-right}
use Rattle.seuss_parser.proofs.expressions.+expression.Goals as goal

pub part-returns-in-Or-clause-gives : goal.part-returns-in-Or-clause-gives
part-returns-in-Or-clause-gives t c = part-Or _ _ _ _ _ _ _ c.in-Or.is c.chain.ensures.gives

pub part-returns-in-Comparison-clause-gives : goal.part-returns-in-Comparison-clause-gives
part-returns-in-Comparison-clause-gives t c =
    part-Comparison _ _ _ _ _ _ _ c.in-Comparison.is c.chain-in-Comparison.ensures.gives

pub part-returns-in-Sum-clause-gives : goal.part-returns-in-Sum-clause-gives
part-returns-in-Sum-clause-gives t c = part-Sum _ _ _ _ _ _ _ c.in-Sum.is c.chain-in-Sum.ensures.gives

pub chain-returns-clause-gives : goal.chain-returns-clause-gives
chain-returns-clause-gives t c =
    chain-links _ _ _ _ _ _ _ _ _ _ c.in_ok-first.ensures.gives c.links.ensures.gives

pub comparison-returns-in_err-left-clause-gives : goal.comparison-returns-in_err-left-clause-gives
comparison-returns-in_err-left-clause-gives t c =
    gives-error _ _ _ _ _ _ _ (comparison-left _ _ _) c.in_err-left.ensures.gives c.from_residual.ensures.1

pub comparison-returns-in_err-next-clause-gives : goal.comparison-returns-in_err-next-clause-gives
comparison-returns-in_err-next-clause-gives t c =
    gives-error _ _ _ _ _ _ _
    (comparison-right _ _ _ _ _ _ c.in_ok-left.ensures.gives (sym c.if-is_at_operator.ensures))
    c.in_err-next.ensures.gives c.from_residual-in_err-next.ensures.1

pub comparison-returns-in_ok-whole-clause-gives : goal.comparison-returns-in_ok-whole-clause-gives
comparison-returns-in_ok-whole-clause-gives t c =
    comparison-two _ _ _ _ _ _ c.in_ok-left.ensures.gives (sym c.if-is_at_operator.ensures) _ _ _ _
    c.in_ok-next.ensures.gives c.in_ok-whole.ensures

pub comparison-returns-else-is_at_operator-clause-gives :
    goal.comparison-returns-else-is_at_operator-clause-gives
comparison-returns-else-is_at_operator-clause-gives t c =
    comparison-plain _ _ _ _ _ _ c.in_ok-left.ensures.gives (sym c.if-is_at_operator.ensures)

pub links-loop-alloc-preserved : goal.links-loop-alloc-preserved
links-loop-alloc-preserved t c = record {
  so_far = goes_on-step _ _ _ _ _ _ _ _ _ _ c.loop-alloc.invariant.so_far
      (sym c.loop-alloc-test.ensures) c.in_ok-next.ensures.gives c.in_ok-next.ensures.takes
      (λ others. ap (λ whole. grouped whole others) (sym c.in_ok-whole.ensures));
  no_longer = omega (arith, c.in_ok-next.ensures.takes);
}

pub links-returns-clause-gives : goal.links-returns-clause-gives
links-returns-clause-gives t c =
    goes_on-done _ _ _ _ _ _ c.loop-alloc.invariant.so_far (sym c.loop-alloc-test.ensures)
