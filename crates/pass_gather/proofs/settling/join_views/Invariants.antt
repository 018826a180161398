use Rattle.std.proofs.Common.{◌≡◌, length, All, None}
use Rattle.pass_gather.proofs.settling.join_views.Given as goal

abbrev pub invariant-loop-view : goal.invariant-loop-view
invariant-loop-view l = record {
  views : All (λ v. v.name ≡ l.quit) l.left.items;
  name : l.first.name ≡ l.fn.first.name;
  given : l.first.given ≡ l.fn.first.given;
  held : l.first.held ≡ l.fn.first.held;
  seen : l.first.seen ≡ None → All (λ v. v.seen ≡ None) l.left.items → All (λ v. v.seen ≡ None) l.fn.views.items;
}

abbrev pub decreases-loop-view : goal.decreases-loop-view
decreases-loop-view l = length l.left.items
