use Rattle.std.proofs.Common.{◌≡◌, Err, rules}
use Rattle.box_types.specs.Faults.{test_of}
use Rattle.box_types.specs.Walks.{param}
use Rattle.box_types.proofs.Walked.{walked_goes_on, walked_stops}
use Rattle.box_types.proofs.walk_cats.walk_params.Goals as goal

pub returns-in_err-walk_param : goal.returns-in_err-walk_param
returns-in_err-walk_param c =
    let same : c.from_residual.result ≡ Err c.in_err-walk_param.field-0.0 = search rules in
    walked_stops (λ n. param (test_of c.args.check) c.args.home.now.cats.now c.args.home.now.own.now
    c.args.home.now.number)
    c.args.params.now c.loop-part.part-index c.part-item.result c.loop-part.scope c.walk_param.new.scope _ _
    c.from_residual.result
    c.in_err-walk_param.field-0.0 c.loop-part-test.true c.part-item.is same c.in_err-walk_param.ensures
    c.loop-part.invariant

pub loop-part-preserved : goal.loop-part-preserved
loop-part-preserved c =
    walked_goes_on (λ n. param (test_of c.args.check) c.args.home.now.cats.now c.args.home.now.own.now
    c.args.home.now.number)
    c.args.params.now c.loop-part.part-index c.part-item.result c.loop-part.scope c.walk_param.new.scope _
    c.loop-part-test.true c.part-item.is c.in_ok-walk_param.ensures c.loop-part.invariant
