use Rattle.std.proofs.Common.{◌≡◌, ◌++◌, drop}
use Rattle.safety_check.specs.Cases.{params_choices}
use Rattle.safety_judge.proofs.choices.params_choices.Given as goal

abbrev pub invariant-loop-param : goal.invariant-loop-param
invariant-loop-param l = record {
  value : l.choices ++ params_choices l.seen l.number (drop l.param-index l.params) ≡ params_choices l.seen 0 l.params;
  number : l.number ≡ l.param-index;
}
