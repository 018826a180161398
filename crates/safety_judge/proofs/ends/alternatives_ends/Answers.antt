use Rattle.std.proofs.Common.{rules, arith, ◌≡◌, true, false}
use Rattle.safety_judge.proofs.EndLaws.{ends-go, ends-stop}
use Rattle.safety_judge.proofs.ends.alternatives_ends.Goals as goal

pub returns-then-not-more : goal.returns-then-not-more
returns-then-not-more c =
    let stop : c.in_ok-more.more ≡ false = first_of (search rules, grind arith) in
    ends-stop c.args.alts.now c.loop-a.a-index c.a-item.result c.args.frame.now c.loop-a.ends
    c.push_alternative.new.ends _ c.in_ok-more.more c.loop-a-test.true c.a-item.is c.loop-a.invariant
    c.in_ok-more.ensures stop

pub loop-a-preserved : goal.loop-a-preserved
loop-a-preserved c =
    let go : c.in_ok-more.more ≡ true = first_of (search rules, grind arith) in
    ends-go c.args.alts.now c.loop-a.a-index c.a-item.result c.args.frame.now c.loop-a.ends
    c.push_alternative.new.ends _ c.in_ok-more.more c.loop-a-test.true c.a-item.is c.loop-a.invariant
    c.in_ok-more.ensures go
