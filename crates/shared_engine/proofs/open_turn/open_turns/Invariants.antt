use Rattle.std.proofs.Common.{◌≡◌, ◌++◌, length}
use Rattle.std.specs.Vec.Iter.{into_iter_items, into_iter_len}
use Rattle.shared_engine.specs.Rings.{AreTurns}
use Rattle.shared_engine.proofs.open_turn.open_turns.Given as goal

-- the turns of the boxes so far
abbrev pub invariant-loop-desk : goal.invariant-loop-desk
invariant-loop-desk g l = record {
  rest : l.yielded ++ into_iter_items l.desk-iterator ≡ l.fn.desks.items;
  count : into_iter_len l.desk-iterator ≡ length (into_iter_items l.desk-iterator);
  number : l.number ≡ length l.yielded;
  many : length l.turns.items ≡ length l.yielded;
  turns : AreTurns g.N.EngineNames.names l.turns.items;
}
