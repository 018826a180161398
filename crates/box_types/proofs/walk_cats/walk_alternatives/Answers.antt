use Rattle.std.proofs.Common.{◌≡◌, Err, rules}
use Rattle.box_types.specs.Faults.{test_of}
use Rattle.box_types.specs.Walks.{alternative}
use Rattle.box_types.proofs.Walked.{walked_stops}
use Rattle.box_types.proofs.walk_cats.walk_alternatives.Goals as goal

pub returns-in_err-walk_alternative : goal.returns-in_err-walk_alternative
returns-in_err-walk_alternative c =
    let same : c.from_residual.result ≡ Err c.in_err-walk_alternative.field-0.0 = search rules in
    walked_stops (alternative (test_of c.args.check) c.args.home.now.cats.now c.args.home.now.own.now
    c.args.home.now.number)
    c.args.parts.now c.loop-number.number c.index-parts-number.result c.loop-number.scope
    c.walk_alternative.new.scope _ _
    c.from_residual.result c.in_err-walk_alternative.field-0.0 c.loop-number-test.true
    c.index-parts-number.is same
    c.in_err-walk_alternative.ensures c.loop-number.invariant
