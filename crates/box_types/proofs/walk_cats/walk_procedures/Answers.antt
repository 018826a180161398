use Rattle.std.proofs.Common.{◌≡◌, Err, rules}
use Rattle.box_types.specs.Faults.{test_of}
use Rattle.box_types.specs.Walks.{procedure}
use Rattle.box_types.proofs.Walked.{walked_stops}
use Rattle.box_types.proofs.walk_cats.walk_procedures.Goals as goal

pub returns-in_err-walk_procedure : goal.returns-in_err-walk_procedure
returns-in_err-walk_procedure c =
    let same : c.from_residual.result ≡ Err c.in_err-walk_procedure.field-0.0 = search rules in
    walked_stops (procedure (test_of c.args.check) c.args.cats.now c.args.own.now)
    c.args.procs.now c.loop-number.number c.index-procs-number.result c.loop-number.scope
    c.walk_procedure.new.scope _ _
    c.from_residual.result c.in_err-walk_procedure.field-0.0 c.loop-number-test.true c.index-procs-number.is
    same
    c.in_err-walk_procedure.ensures c.loop-number.invariant
