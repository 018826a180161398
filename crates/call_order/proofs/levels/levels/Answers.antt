-- Proofs of the goals of `levels`.
use Rattle.std.proofs.Common.{arith}
use Rattle.call_order.proofs.LevelLemmas.{all_small, are_levels}
use Rattle.call_order.proofs.levels.levels.Goals as goal

pub next-requires : goal.next-requires
next-requires c = all_small c.args.boxes.now c.loop.counter c.loop.levels c.loop.invariant
    (omega (arith, c.requires.few, c.loop-test.true))

pub returns : goal.returns
returns c = are_levels c.args.boxes.now c.args.rows.now c.requires.there c.requires.known
    c.requires.acyclic c.loop.counter c.loop.levels c.loop.invariant
    (omega (arith, c.loop-test.false))
