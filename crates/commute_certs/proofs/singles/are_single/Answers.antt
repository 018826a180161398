use Rattle.commute_certs.proofs.SingleLemmas.{not_single_among, single_among}
use Rattle.commute_certs.proofs.singles.are_single.Goals as goal

pub returns-then-not-is_single_one : goal.returns-then-not-is_single_one
returns-then-not-is_single_one c =
    not_single_among c.args.alternatives.now c.loop-alternative.alternative-index c.alternative-item.result
    c.is_single_one.result _ c.loop-alternative-test.true c.alternative-item.is
    c.is_single_one.ensures c.if-not-is_single_one.true c.loop-alternative.invariant

pub loop-alternative-preserved : goal.loop-alternative-preserved
loop-alternative-preserved c =
    single_among c.args.alternatives.now c.loop-alternative.alternative-index c.alternative-item.result
    c.is_single_one.result _ c.loop-alternative-test.true c.alternative-item.is
    c.is_single_one.ensures c.if-not-is_single_one.false c.loop-alternative.invariant
