use Rattle.std.proofs.Common.{rules, ◌≡◌, Err}
use Rattle.commute_certs.specs.Foreseen.{choice}
use Rattle.commute_certs.proofs.Nodes.{handed_on}
use Rattle.commute_certs.proofs.StatementLemmas.{choice_stops, choice_takes, choice_goes_on}
use Rattle.commute_certs.proofs.foreseeing.choose.Goals as goal

pub returns-in_err-condition : goal.returns-in_err-condition
returns-in_err-condition c =
    let same : c.from_residual.result ≡ Err c.in_err-condition.field-0.0 = search rules in
    handed_on c.from_residual.result c.in_err-condition.field-0.0
    (choice c.args.proc.now c.args.alternatives.now c.args.places) same
    (choice_stops c.args.proc.now c.args.alternatives.now c.loop-alternative.alternative-index
    c.alternative-item.result c.args.places _ c.in_err-condition.field-0.0
    c.loop-alternative-test.true c.alternative-item.is c.loop-alternative.invariant
    c.in_err-condition.ensures)

pub returns-then-branch : goal.returns-then-branch
returns-then-branch c =
    choice_takes c.args.proc.now c.args.alternatives.now c.loop-alternative.alternative-index
    c.alternative-item.result c.args.places _ c.in_ok-condition.field-0 c.take.result
    c.loop-alternative-test.true c.alternative-item.is c.loop-alternative.invariant
    c.in_ok-condition.ensures c.if-branch.true c.take.ensures

pub loop-alternative-preserved : goal.loop-alternative-preserved
loop-alternative-preserved c =
    choice_goes_on c.args.proc.now c.args.alternatives.now c.loop-alternative.alternative-index
    c.alternative-item.result c.args.places _ c.in_ok-condition.field-0
    c.loop-alternative-test.true c.alternative-item.is c.loop-alternative.invariant
    c.in_ok-condition.ensures c.if-branch.false
