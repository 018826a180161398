use Rattle.std.proofs.Common.{◌≡◌, drop}
use Rattle.effect_sets.specs.Masks.{add_written}
use Rattle.effect_sets.proofs.instructions.written.Given as goal

abbrev pub invariant-loop-instruction : goal.invariant-loop-instruction
invariant-loop-instruction l =
    add_written l.set (drop l.instruction-index l.instructions) ≡ add_written 0 l.instructions
