use Rattle.std.proofs.Common.{◌≡◌, drop}
use Rattle.effect_sets.specs.Masks.{add_read}
use Rattle.effect_sets.proofs.instructions.read.Given as goal

abbrev pub invariant-loop-instruction : goal.invariant-loop-instruction
invariant-loop-instruction l =
    add_read l.set (drop l.instruction-index l.instructions) ≡ add_read 0 l.instructions
