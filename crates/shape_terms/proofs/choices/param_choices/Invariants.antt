use Rattle.std.proofs.Common.{◌≡◌, ◌+◌, ◌++◌, drop}
use Rattle.shape_terms.specs.Cases.{param_choices}
use Rattle.shape_terms.proofs.choices.param_choices.Given as goal

abbrev pub invariant-loop-at : goal.invariant-loop-at
invariant-loop-at l =
    l.choices ++ param_choices (l.first + l.at) (drop l.at l.params) ≡ param_choices l.first l.params
