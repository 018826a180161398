use Rattle.std.proofs.Common.{◌≡◌, ◌++◌, map, take}
use Rattle.safety_check.specs.Cases.{one_choice}
use Rattle.safety_judge.proofs.choices.add_values.Given as goal

abbrev pub invariant-loop-value : goal.invariant-loop-value
invariant-loop-value l = l.choices ≡ l.initial.choices ++ map one_choice (take l.value-index l.values)
