use Rattle.std.proofs.Common.{sym, arith}
use Rattle.seuss_parser.proofs.LoopLemmas.{collects-begun, collects-step, collects-error, collects-done}
use Rattle.seuss_parser.proofs.LoopLemmas.{begins-some}
use Rattle.seuss_parser.proofs.lists.followed.Goals as goal

pub loop-alloc-init : goal.loop-alloc-init
loop-alloc-init g c = record {
  so_far = collects-begun _ _ _ _ _ _ (cc (c.in_ok-push.ensures.ok, c.new-items.ensures));
  no_longer = omega arith;
}

pub returns-in_err-next-clause-gives : goal.returns-in_err-next-clause-gives
returns-in_err-next-clause-gives g c =
    collects-error _ _ _ _ _ _ _ c.loop-alloc.invariant.so_far
    (begins-some _ _ (sym c.loop-alloc-test.ensures)) (cc) c.in_err-next.ensures.gives
    c.from_residual-in_err-next.ensures.1

pub loop-alloc-preserved : goal.loop-alloc-preserved
loop-alloc-preserved g c = record {
  so_far = collects-step _ _ c.loop-alloc.invariant.so_far
      (cc) c.in_ok-next.ensures.gives c.in_ok-next.ensures.takes c.in_ok-push-2.ensures.ok;
  no_longer = omega (arith, c.in_ok-next.ensures.takes);
}

pub returns-clause-gives : goal.returns-clause-gives
returns-clause-gives g c = collects-done _ _ c.loop-alloc.invariant.so_far (cc)
