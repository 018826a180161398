use Rattle.std.proofs.Common.{sym, arith, ◌∙◌, Err}
use Rattle.seuss_parser.proofs.LoopLemmas.{begins-some, gives-error, collects-step, collects-error}
use Rattle.seuss_parser.proofs.StatementLemmas.{statement-inside, refused-inside, if-end}
use Rattle.seuss_parser.proofs.statements.+statement.Goals as goal

pub block-returns-in_err-statement-clause-gives : goal.block-returns-in_err-statement-clause-gives
block-returns-in_err-statement-clause-gives t c =
    collects-error _ _ _ _ _ _ _ c.loop-alloc.invariant.so_far
    (begins-some _ _ (sym c.loop-alloc-test.ensures)) (sym c.loop-alloc-test.ensures)
    (refused-inside c.args.nesting c.loop-alloc.words.room c.loop-alloc.words.left.items
    (Err c.in_err-statement.field-0.0) c.statement.new.words.room c.statement.new.words.left.items
    c.requires.within c.in_err-statement.ensures.gives) c.from_residual.ensures.1

pub block-loop-alloc-preserved : goal.block-loop-alloc-preserved
block-loop-alloc-preserved t c = record {
  so_far = collects-step _ _ c.loop-alloc.invariant.so_far (sym c.loop-alloc-test.ensures)
      (statement-inside c.args.nesting _ _ c.requires.within ∙ c.in_ok-statement.ensures.gives)
      c.in_ok-statement.ensures.takes c.in_ok-push.ensures.ok;
  no_longer = omega (arith, c.in_ok-statement.ensures.takes);
}

pub choice-returns-in_err-take-2-clause-gives : goal.choice-returns-in_err-take-2-clause-gives
choice-returns-in_err-take-2-clause-gives t c =
    gives-error _ _ _ _ _ _ _
    (if-end _ _ _ _ _ _ _ _ _ _ _ _ _ _ _ _ _ _ _ c.in_ok-take_within.ensures.gives
    c.in_ok-cond.ensures.gives
    c.in_ok-take.ensures.gives c.in_ok-yes.ensures.gives c.in_ok-no.ensures.gives)
    c.in_err-take-2.ensures.gives c.from_residual-in_err-take-2.ensures.1
