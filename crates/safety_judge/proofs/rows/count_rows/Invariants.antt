use Rattle.std.proofs.Common.{◌≡◌, ◌*◌, ◌≤◌, drop, map, length, min, List}
use Rattle.safety_check.specs.Cases.{product}
use Rattle.safety_check.specs.declared.region.Region.{Region}
use Rattle.safety_judge.proofs.rows.count_rows.Given as goal

abbrev pub invariant-loop-regions : goal.invariant-loop-regions
invariant-loop-regions l = record {
  value : min 4097 (l.product * product (map (λ (rs : List Region). length rs)
      (drop l.regions-index l.choices)))
      ≡ min 4097 (product (map (λ (rs : List Region). length rs) l.choices));
  few : l.product ≤ 4097;
}
