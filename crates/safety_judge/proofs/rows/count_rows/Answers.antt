use Rattle.std.proofs.Common.{arith}
use Rattle.safety_judge.proofs.CountLaws.{rows-next}
use Rattle.safety_judge.proofs.rows.count_rows.Goals as goal

pub loop-regions-preserved : goal.loop-regions-preserved
loop-regions-preserved c = record {
  value = rows-next c.args.choices.now c.loop-regions.regions-index c.regions-item.result
      c.loop-regions.product c.len.result c.times-product.result _ c.loop-regions-test.true c.regions-item.is
      c.len.ensures c.times-product.ensures c.loop-regions.invariant.value;
  few = omega (arith, c.times-product.ensures);
}
