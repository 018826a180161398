use Rattle.std.proofs.Common.{◌≡◌, take, map}
use Rattle.shared_engine.specs.Beginnings.{fresh_turn}
use Rattle.shared_engine.proofs.open_turn.deal_turns.Given as goal

-- one seat of each turn so far
abbrev pub invariant-loop-b : goal.invariant-loop-b
invariant-loop-b g l = record {
  turns : l.turns.items ≡ l.fn.turns.items;
  list : l.list.items ≡ map fresh_turn (take l.b l.fn.turns.items);
}
