use Rattle.std.proofs.Common.{◌∙◌, sym, arith}
use Rattle.shape_terms.proofs.PartLemmas.{element_apart, element_same}
use Rattle.shape_terms.proofs.telling.lists_apart.Goals as goal

pub returns-then-is_some : goal.returns-then-is_some
returns-then-is_some c =
    element_apart c.args.xs.now c.args.ys.now c.loop-at.at _ _ c.tell_apart-apart.result (omega arith)
    (omega arith)
    c.index-xs-at.is c.index-ys-at.is (sym c.is_some.ensures ∙ c.if-is_some.true) c.tell_apart-apart.ensures

pub loop-at-preserved : goal.loop-at-preserved
loop-at-preserved c =
    element_same c.args.xs.now c.args.ys.now c.loop-at.at _ _ c.tell_apart-apart.result (omega arith)
    (omega arith)
    c.index-xs-at.is c.index-ys-at.is
    (sym c.is_some.ensures ∙ c.if-is_some.false) c.tell_apart-apart.ensures c.loop-at.invariant
