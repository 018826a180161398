use Rattle.std.proofs.Common.{◌≡◌, ◌++◌, take}
use Rattle.method_code.proofs.entering.add_copies.Given as goal

abbrev pub invariant-loop-value : goal.invariant-loop-value
invariant-loop-value l = l.slots ≡ l.initial.slots ++ take l.value-index l.values
