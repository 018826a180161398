use Rattle.std.proofs.Common.{◌≡◌, ◌≤◌, ◌+◌, drop, min}
use Rattle.box_types.specs.Limits.{actions_of}
use Rattle.box_types.proofs.outer_places.actions_of_boxes.Given as goal

abbrev pub invariant-loop-declared : goal.invariant-loop-declared
invariant-loop-declared l = record {
  most : l.count ≤ 257;
  rest : min 257 (l.count + actions_of l.cats (drop l.declared-index l.boxes))
      ≡ min 257 (actions_of l.cats l.boxes);
}
