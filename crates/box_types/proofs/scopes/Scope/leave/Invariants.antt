use Rattle.std.proofs.Common.{◌≡◌, take, length}
use Rattle.box_types.proofs.scopes.Scope.leave.Given as goal

abbrev pub invariant-loop-self : goal.invariant-loop-self
invariant-loop-self l = record {
  visible : take l.count l.self.visible ≡ take l.count l.initial.self.visible;
  next : l.self.next ≡ l.initial.self.next;
  earlier : l.self.earlier ≡ l.initial.self.earlier;
}

abbrev pub decreases-loop-self : goal.decreases-loop-self
decreases-loop-self l = length l.self.visible
