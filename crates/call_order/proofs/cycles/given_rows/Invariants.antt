-- What lasts over the loop of `given_rows`.
use Rattle.std.proofs.Common.{◌≡◌, ℕ, ◌<◌, length, get_or, []}
use Rattle.call_order.specs.Marks.{KnowsGiven}
use Rattle.call_order.proofs.cycles.given_rows.Given as goal

abbrev pub invariant-loop-info : goal.invariant-loop-info
invariant-loop-info l = record {
  count : length l.rows ≡ l.info-index;
  each : (box : ℕ) → box < l.info-index → KnowsGiven l.boxes box (get_or l.rows box []);
}
