use Rattle.std.proofs.Common.{arith}
use Rattle.seuss_program.specs.Orders.{slots_of}
use Rattle.test_runs.proofs.turns.replay.Goals as goal

-- each kept pass has a commit step
pub commit_order-requires : goal.commit_order-requires
commit_order-requires c =
    let made = c.args.prepared.now in
    c.reduction.ensures.committed _ c.in_ok-made.made
    (c.levels_make_a_setting.ensures made.program c.requires.levels.0 made.rows (slots_of made.program) _ _
    c.requires.keeps c.requires.levels.1 (omega arith) (omega arith))
    c.in_ok-made.ensures
