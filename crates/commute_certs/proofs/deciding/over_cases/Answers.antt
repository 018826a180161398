use Rattle.std.proofs.Common.{ap, subst, Err}
use Rattle.commute_certs.specs.declared.why.Untold.{Untold}
use Rattle.commute_certs.specs.declared.verdict.Verdict.TheVariants as V
use Rattle.commute_certs.specs.Decisions.{Finds, By, Fails}
use Rattle.commute_certs.proofs.deciding.over_cases.Goals as goal

pub returns-in-Ok : goal.returns-in-Ok
returns-in-Ok c = By c.in-Ok.found c.in-Ok.ensures c.verdict_of.ensures

pub returns-in-Err-Reason : goal.returns-in-Err-Reason
returns-in-Err-Reason c = Fails c.in-Err-Reason.reason
    (subst (λ (u : Untold). Finds c.args.first.now c.args.second.now c.args.cases.now (Err u))
    c.in-Err-Reason.field-0-is c.in-Err-Reason.ensures)
    (ap (λ why. V.Unclear why) c.why_of.ensures)
