use Rattle.std.proofs.Common.{◌≡◌, ◌≤◌, take}
use Rattle.std.specs.List.{count_by}
use Rattle.box_types.specs.WrongKind.{is_action}
use Rattle.box_types.proofs.outer_places.actions_among.Given as goal

abbrev pub invariant-loop-proc : goal.invariant-loop-proc
invariant-loop-proc l = record {
  count : l.count ≡ count_by (λ q. is_action q.form) (take l.proc-index l.procs);
  within : l.count ≤ l.proc-index;
}
