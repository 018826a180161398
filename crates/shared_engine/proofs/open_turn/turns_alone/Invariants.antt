use Rattle.std.proofs.Common.{◌≡◌, ◌++◌}
use Rattle.std.specs.Vec.Iter.{into_iter_items}
use Rattle.shared_engine.proofs.open_turn.turns_alone.Given as goal

-- the turns so far
abbrev pub invariant-loop-one : goal.invariant-loop-one
invariant-loop-one g l = record {
  all : l.yielded ++ into_iter_items l.one-iterator ≡ l.fn.given.items;
  turns : l.turns.items ≡ l.yielded;
}
