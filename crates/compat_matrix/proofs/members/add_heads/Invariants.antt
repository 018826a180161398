use Rattle.std.proofs.Common.{take}
use Rattle.compat_matrix.specs.Members.{Adds, IsBegun}
use Rattle.compat_matrix.proofs.members.add_heads.Given as goal

-- the preprocedures of the heads so far
abbrev pub invariant-loop-head : goal.invariant-loop-head
invariant-loop-head l = Adds l.program l.initial.members l.members (IsBegun l.program l.box_number
    (take l.head-index l.heads))
