use Rattle.std.proofs.Common.{◌≡◌, ℕ, ◌<◌}
use Rattle.shape_terms.specs.Numbers.{coefficient}
use Rattle.shape_terms.proofs.rows.rows_apart.Given as goal

abbrev pub invariant-loop-at : goal.invariant-loop-at
invariant-loop-at l = (k : ℕ) → k < l.at → coefficient l.xs k ≡ coefficient l.ys k
