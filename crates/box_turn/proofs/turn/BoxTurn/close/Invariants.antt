use Rattle.std.proofs.Common.{◌≡◌, ◌+◌, false, All, length}
use Rattle.box_turn.proofs.turn.BoxTurn.close.Given as goal

-- the seats that are left are of this turn and don't hold it; with the parts of the last one they are all
abbrev pub invariant-loop-other : goal.invariant-loop-other
invariant-loop-other g l = record {
  turn : All (λ s. (s.turn ≡ l.fn.self.name) × (s.holds ≡ false)) l.left;
  mine : l.last.turn ≡ l.fn.self.name;
  parts : length l.left + l.last.parts ≡ l.fn.self.seats;
}

abbrev pub decreases-loop-other : goal.decreases-loop-other
decreases-loop-other g l = length l.left
