use Rattle.commute_certs.proofs.VerdictLemmas.{verdict_found}
use Rattle.commute_certs.proofs.deciding.decide_for.Goals as goal

pub returns-in-Ok : goal.returns-in-Ok
returns-in-Ok c = λ pair there first second.
    verdict_found pair c.args.first.now c.args.second.now c.in-Ok.all c.as_slice.result.now
    c.is_single.result c.is_single-else-not-is_single.result c.over_cases.result
    (λ v single few d. c.decided_is_verdict.ensures c.args.program.now c.args.cat c.args.semi pair v
    c.requires there single few d)
    first second c.is_single.ensures c.if-not-is_single.false c.is_single-else-not-is_single.ensures
    c.if-not-is_single-2.false
    (c.in-Ok.ensures pair there).0 (c.in-Ok.ensures pair there).1 c.as_slice.ensures c.over_cases.ensures
