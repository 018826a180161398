use Rattle.std.proofs.Common.{◌≢◌, arith}
use Rattle.compat_scheduler.proofs.tests.what_runs_goes_on_after_a_stop.Goals as goal

-- the first pass runs on when the second one starts
pub finish-requires : goal.finish-requires
finish-requires g c = c.start-2.ensures.others c.in-Some.first c.in-Some.ensures.running

-- the second pass runs on when the first one finishes
pub finish-requires-2 : goal.finish-requires-2
finish-requires-2 g c =
    let apart : c.in-Some-start.second.pass ≢ c.in-Some.first.pass =
    λ e. omega (
      arith,
      e,
      c.in-Some.ensures.machine.next.pass,
      c.in-Some.ensures.machine.starts,
      c.in-Some-start.ensures.machine.next.pass,
    ) in
    c.finish.ensures.others c.in-Some-start.second c.in-Some-start.ensures.running apart
