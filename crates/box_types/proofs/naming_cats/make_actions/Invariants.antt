use Rattle.std.proofs.Common.{◌≡◌, ◌++◌, drop}
use Rattle.box_types.specs.Actions.{actions_of}
use Rattle.box_types.proofs.naming_cats.make_actions.Given as goal

abbrev pub invariant-loop-number : goal.invariant-loop-number
invariant-loop-number l = l.actions ++ actions_of l.cats l.number (drop l.number l.boxes)
    ≡ actions_of l.cats 0 l.boxes
