use Rattle.std.proofs.Common.{rules, arith, ◌≡◌, true, false}
use Rattle.safety_check.specs.Safety.{does_hold}
use Rattle.safety_judge.proofs.EndLaws.{without-at, holds-at}
use Rattle.safety_judge.proofs.judging.some_without.Goals as goal

pub returns-then-not-does_hold : goal.returns-then-not-does_hold
returns-then-not-does_hold c =
    let out : does_hold c.in_ok-region.region ≡ false = first_of (search rules, grind arith) in
    without-at c.args.property.now c.args.ends.now c.loop-end.end-index c.end-item.result
    c.in_ok-region.region _ c.loop-end-test.true c.end-item.is c.in_ok-region.ensures
    c.loop-end.invariant out

pub loop-end-preserved : goal.loop-end-preserved
loop-end-preserved c =
    let holds : does_hold c.in_ok-region.region ≡ true = first_of (search rules, grind arith) in
    holds-at c.args.property.now c.args.ends.now c.loop-end.end-index c.end-item.result
    c.in_ok-region.region _ c.loop-end-test.true c.end-item.is c.in_ok-region.ensures
    c.loop-end.invariant holds
