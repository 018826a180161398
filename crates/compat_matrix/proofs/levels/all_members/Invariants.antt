use Rattle.std.proofs.Common.{take}
use Rattle.compat_matrix.specs.Members.{AreAllMembers}
use Rattle.compat_matrix.proofs.levels.all_members.Given as goal

-- the members of the actions so far
abbrev pub invariant-loop-action : goal.invariant-loop-action
invariant-loop-action l = AreAllMembers l.program (take l.action-index l.action-items) l.all
