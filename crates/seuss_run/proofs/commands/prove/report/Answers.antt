use Rattle.seuss_run.proofs.WrittenLines.{one_more}
use Rattle.seuss_run.proofs.commands.prove.report.Goals as goal

-- one more property has its line
pub loop-property-preserved : goal.loop-property-preserved
loop-property-preserved c =
    one_more c.args.program.now c.args.properties.now c.loop-property.property-index c.loop-property.text
    c.push_judged.new.text c.property-item.result c.loop-property.invariant c.loop-property-test.true
    c.property-item.is c.in_ok-push_judged.ensures
