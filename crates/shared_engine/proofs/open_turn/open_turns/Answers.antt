use Rattle.std.proofs.Common.{length, sym, ◌∙◌}
use Rattle.std.specs.Vec.Iter.{into_iter_items}
use Rattle.shared_engine.proofs.Seating.{desk_number, next_at}
use Rattle.shared_engine.proofs.open_turn.open_turns.Goals as goal

pub new-requires-clause-number : goal.new-requires-clause-number
new-requires-clause-number g c =
    let ys = c.loop-desk.yielded in
    let i = c.loop-desk.invariant in
    let here = next_at ys (into_iter_items c.loop-desk.desk-iterator) (into_iter_items c.next.new.self)
    c.args.desks.items c.in-Some.desk i.rest c.in-Some.ensures.steps.0 in
    desk_number g.N.EngineNames.names c.args.desks.items (length ys) c.in-Some.desk c.requires.new here
    ∙ sym i.number
