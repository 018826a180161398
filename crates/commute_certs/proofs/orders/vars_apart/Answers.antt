use Rattle.std.proofs.Common.{◌≡◌, ◌∙◌, length, sym, arith}
use Rattle.commute_certs.proofs.SymbolLists.{symbol_apart, symbol_same}
use Rattle.commute_certs.proofs.orders.vars_apart.Goals as goal

pub returns-then-is_some : goal.returns-then-is_some
returns-then-is_some c =
    let long : length c.args.symbols.now ≡ length c.args.others.now = c.loop-at.invariant.long in
    symbol_apart c.args.symbols.now c.args.others.now c.loop-at.at _ _ c.tell_apart-apart.result
    (omega arith) (omega (arith, long))
    c.index-symbols-at.is c.index-others-at.is (sym c.is_some.ensures ∙ c.if-is_some.true)
    c.tell_apart-apart.ensures

pub loop-at-preserved : goal.loop-at-preserved
loop-at-preserved c =
    let long : length c.args.symbols.now ≡ length c.args.others.now = c.loop-at.invariant.long in
    record {
      long = long;
      same = symbol_same c.args.symbols.now c.args.others.now c.loop-at.at _ _ c.tell_apart-apart.result
          (omega arith) (omega (arith, long))
          c.index-symbols-at.is c.index-others-at.is (sym c.is_some.ensures ∙ c.if-is_some.false)
          c.tell_apart-apart.ensures c.loop-at.invariant.same;
    }
