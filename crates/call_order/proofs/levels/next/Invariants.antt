-- What lasts over the loop of `next`.
use Rattle.std.proofs.Common.{◌≡◌, take, map}
use Rattle.seuss_program.specs.declared.program.BoxInfo.{BoxInfo}
use Rattle.call_order.specs.LevelLists.{level_above}
use Rattle.call_order.proofs.levels.next.Given as goal

abbrev pub invariant-loop-info : goal.invariant-loop-info
invariant-loop-info l = l.next ≡ map (λ (b : BoxInfo). level_above l.levels b.given)
    (take l.info-index l.boxes)
