use Rattle.std.proofs.Common.{◌≡◌, ◌+◌, length, All, false}
use Rattle.pass_gather.proofs.settling.join_workers.Given as goal

abbrev pub invariant-loop-worker : goal.invariant-loop-worker
invariant-loop-worker l = record {
  unmarked : All (λ w. w.mark ≡ false) l.left.items;
  workers : All (λ w. w.name ≡ l.quit) l.left.items;
  name : l.first.name ≡ l.fn.first.name;
  given : l.first.given ≡ l.fn.first.given;
  held : All (λ h. h.1 ≡ false) l.first.held;
  many : length l.first.held + length l.left.items ≡ length l.fn.first.held + length l.fn.workers.items;
}

abbrev pub decreases-loop-worker : goal.decreases-loop-worker
decreases-loop-worker l = length l.left.items
