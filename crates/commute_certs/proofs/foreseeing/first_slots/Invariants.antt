use Rattle.std.proofs.Common.{◌≡◌, ◌++◌, map, take}
use Rattle.commute_certs.specs.Foreseen.{first_symbol}
use Rattle.commute_certs.proofs.foreseeing.first_slots.Given as goal

abbrev pub invariant-loop-value : goal.invariant-loop-value
invariant-loop-value l = l.slots ≡ l.initial.slots ++ map first_symbol (take l.value-index l.value-items)
