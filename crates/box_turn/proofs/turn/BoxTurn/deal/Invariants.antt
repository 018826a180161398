use Rattle.std.proofs.Common.{◌-◌, ◌≡◌, ◌<◌, ◌≤◌, replicate}
use Rattle.box_turn.specs.Seats.{new_seat}
use Rattle.box_turn.proofs.turn.BoxTurn.deal.Given as goal

-- the first seat has the parts that are left, and the seats given so far are new ones
abbrev pub invariant-loop-left : goal.invariant-loop-left
invariant-loop-left g l = record {
  some : 0 < l.left;
  first : l.first ≡ record { turn = l.self.name; names = l.fn.first.names; parts = l.left; misses = 0 };
  given : l.given ≡ replicate (l.seats - l.left) (new_seat l.self.name l.fn.first.names);
  few : l.left ≤ l.seats;
}

abbrev pub decreases-loop-left : goal.decreases-loop-left
decreases-loop-left g l = l.left - 1
