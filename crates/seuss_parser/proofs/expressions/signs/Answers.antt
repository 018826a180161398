use Rattle.std.proofs.Common.{sym, arith}
use Rattle.seuss_parser.proofs.LoopLemmas.{begins-some, collects-first, collects-step, collects-error}
use Rattle.seuss_parser.proofs.LoopLemmas.{collects-done}
use Rattle.seuss_parser.proofs.expressions.signs.Goals as goal

pub loop-sign-init : goal.loop-sign-init
loop-sign-init c = record {
  so_far = rw c.new-lines.ensures (collects-first _ _ _ _);
  no_longer = omega arith;
}

pub returns-in_err-mark-clause-gives : goal.returns-in_err-mark-clause-gives
returns-in_err-mark-clause-gives c =
    collects-error _ _ _ _ _ _ _ c.loop-sign.invariant.so_far
    (begins-some _ _ (sym c.loop-sign-test.ensures)) (cc) c.in_err-mark.ensures.gives
    c.from_residual.ensures.1

pub loop-sign-preserved : goal.loop-sign-preserved
loop-sign-preserved c = record {
  so_far = collects-step _ _ c.loop-sign.invariant.so_far
      (cc) c.in_ok-mark.ensures.gives c.in_ok-mark.ensures.takes c.in_ok-push.ensures.ok;
  no_longer = omega (arith, c.in_ok-mark.ensures.takes);
}

pub returns-clause-gives : goal.returns-clause-gives
returns-clause-gives c = collects-done _ _ c.loop-sign.invariant.so_far (cc)
