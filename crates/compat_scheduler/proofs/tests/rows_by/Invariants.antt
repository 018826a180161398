use Rattle.std.proofs.Common.{◌≡◌}
use Rattle.compat_scheduler.proofs.tests.rows_by.Given as goal

abbrev pub invariant-loop-one : goal.invariant-loop-one
invariant-loop-one l = l.rows.count ≡ 12

abbrev pub invariant-loop-other : goal.invariant-loop-other
invariant-loop-other l = l.rows.count ≡ 12
