use Rattle.std.proofs.Common.{◌≡◌, ◌++◌, drop}
use Rattle.safety_check.specs.Cases.{vars_choices}
use Rattle.safety_judge.proofs.choices.vars_choices.Given as goal

abbrev pub invariant-loop-var : goal.invariant-loop-var
invariant-loop-var l = record {
  value : l.choices ++ vars_choices l.seen l.number (drop l.var-index l.vars) ≡ vars_choices l.seen 0 l.vars;
  number : l.number ≡ l.var-index;
}
