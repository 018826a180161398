use Rattle.std.proofs.Common.{◌≡◌, ◌++◌, drop}
use Rattle.box_types.specs.Actions.{actions_among}
use Rattle.box_types.proofs.naming_cats.push_actions.Given as goal

abbrev pub invariant-loop-number : goal.invariant-loop-number
invariant-loop-number l = l.actions ++ actions_among l.box_number l.number (drop l.number l.procs)
    ≡ l.initial.actions ++ actions_among l.box_number 0 l.procs
