use Rattle.std.proofs.Common.{suc, subst}
use Rattle.engine_work.specs.Acts.{Acts, IsBenchAfter, TurnMade}
use Rattle.engine_work.specs.Benches.{held_in}
use Rattle.engine_work.specs.declared.turn.Turn.{Turn}
use Rattle.engine_work.proofs.Seats.{act_unmarked, same_then, unmarked_then}
use Rattle.engine_work.proofs.working.work.Goals as goal

pub loop-preserved : goal.loop-preserved
loop-preserved g c =
    let names = g.N.EngineNames.names in
    let code = g.N.CellNames.code in
    let first = g.N.CellNames.first in
    let start = c.args.seat in
    let old = c.loop.seat in
    let new = c.take_turn.new.seat in
    let held = held_in c.loop.bench in
    let after = held_in c.in-Ok-Going.next in
    let done = c.loop.invariant in
    let act : Acts names code first old new held after =
    subst (λ (t : Turn). TurnMade names code first old new held t) c.in-Ok-Going.field-0-is
    c.in-Ok-Going.ensures.made in
    let same = act_unmarked names code first old new held after act in
    let bench = subst (λ (t : Turn). IsBenchAfter new.core t) c.in-Ok-Going.field-0-is
    c.in-Ok-Going.ensures.bench in
    record {
      done = (suc done.done.0, (old, held, done.done.1, act));
      seat = same_then start old new done.seat c.take_turn.ensures.seat;
      unmarked = unmarked_then start old new done.unmarked same;
      bench = bench;
    }
