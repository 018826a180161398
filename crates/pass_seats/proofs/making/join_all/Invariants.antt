use Rattle.std.proofs.Common.{◌≡◌, length}
use Rattle.pass_seats.proofs.Opening.{AreJoined}
use Rattle.pass_seats.proofs.making.join_all.Given as goal

-- the seats before this one have their places at the box
abbrev pub invariant-loop-w : goal.invariant-loop-w
invariant-loop-w g l = record {
  joined : AreJoined l.fn.cell.number l.w l.places.items;
  all : length l.places.items ≡ length l.fn.places.items;
  cell : l.cell ≡ record l.fn.cell { journal = record l.fn.cell.journal { makers = l.w } };
}
