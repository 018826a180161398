use Rattle.seuss_parser.proofs.TreeLemmas.{negated-step}
use Rattle.seuss_parser.proofs.expressions.with_not.Goals as goal

pub loop-line-preserved : goal.loop-line-preserved
loop-line-preserved c = record {
  same = negated-step _ _ _ _ _ _ c.loop-line.invariant.same c.in-Some.ensures c.in_ok-part.ensures;
}
