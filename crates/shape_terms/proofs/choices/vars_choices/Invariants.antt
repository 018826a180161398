use Rattle.std.proofs.Common.{◌≡◌, ◌++◌, drop}
use Rattle.shape_terms.specs.Cases.{vars_choices}
use Rattle.shape_terms.proofs.choices.vars_choices.Given as goal

abbrev pub invariant-loop-place : goal.invariant-loop-place
invariant-loop-place l =
    l.choices ++ vars_choices l.place l.first l.second l.hints (drop l.place l.vars)
    ≡ vars_choices 0 l.first l.second l.hints l.vars
