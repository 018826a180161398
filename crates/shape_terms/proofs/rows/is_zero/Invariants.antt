use Rattle.std.proofs.Common.{◌≡◌, ℕ, ◌<◌, drop}
use Rattle.std.proofs.Math.IntN.{pos}
use Rattle.shape_terms.specs.Numbers.{is_zero, coefficient}
use Rattle.shape_terms.proofs.rows.is_zero.Given as goal

abbrev pub invariant-loop-c : goal.invariant-loop-c
invariant-loop-c l = record {
  value : is_zero (drop l.c-index l.c-items) ≡ is_zero l.row;
  passed : (k : ℕ) → k < l.c-index → coefficient l.c-items k ≡ pos 0;
  same : l.c-items ≡ l.row;
}
