use Rattle.std.proofs.Common.{◌≢◌, arith}
use Rattle.compat_scheduler.proofs.tests.a_void_pass_is_tried_again.Goals as goal

-- the first pass runs on while the second one starts, finishes and waits
pub finish-requires-2 : goal.finish-requires-2
finish-requires-2 g c =
    let apart : c.in-Some.move_on.pass ≢ c.in-Some-start.take.pass =
    λ e. omega (
      arith,
      e,
      c.in-Some.ensures.machine.next.pass,
      c.in-Some.ensures.machine.starts,
      c.in-Some-start.ensures.machine.next.pass,
    ) in
    c.start-4.ensures.others c.in-Some.move_on
    (c.finish.ensures.others c.in-Some.move_on
    (c.start-3.ensures.others c.in-Some.move_on
    (c.start-2.ensures.others c.in-Some.move_on c.in-Some.ensures.running))
    apart)
