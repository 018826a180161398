use Rattle.std.proofs.Common.{take}
use Rattle.compat_matrix.specs.Members.{Adds, IsCalled}
use Rattle.compat_matrix.proofs.members.add_calls.Given as goal

-- the calls of the instructions so far
abbrev pub invariant-loop-instruction : goal.invariant-loop-instruction
invariant-loop-instruction l = Adds l.program l.initial.members l.members (IsCalled l.program l.box_number
    (take l.instruction-index l.instructions))
