use Rattle.std.proofs.Common.{refl, arith}
use Rattle.seuss_parser.proofs.LoopLemmas.{collects-first, collects-step, collects-error, collects-done}
use Rattle.seuss_parser.proofs.lists.items.Goals as goal

pub loop-alloc-init : goal.loop-alloc-init
loop-alloc-init g c = record {
  so_far = rw c.new-items.ensures (collects-first _ _ _ _);
  no_longer = omega arith;
}

pub returns-in_err-read-clause-gives : goal.returns-in_err-read-clause-gives
returns-in_err-read-clause-gives g c =
    collects-error _ _ _ _ _ _ _ c.loop-alloc.invariant.so_far
    (c.loop-alloc-test.ensures.some refl) (cc) c.in_err-read.ensures.gives
    c.from_residual.ensures.1

pub loop-alloc-preserved : goal.loop-alloc-preserved
loop-alloc-preserved g c = record {
  so_far = collects-step _ _ c.loop-alloc.invariant.so_far
      (cc) c.in_ok-read.ensures.gives c.in_ok-read.ensures.takes c.in_ok-push.ensures.ok;
  no_longer = omega (arith, c.in_ok-read.ensures.takes);
}

pub returns-clause-gives : goal.returns-clause-gives
returns-clause-gives g c = collects-done _ _ c.loop-alloc.invariant.so_far (cc)
