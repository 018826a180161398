use Rattle.std.proofs.Common.{take}
use Rattle.compat_matrix.specs.Certificates.{levels_of}
use Rattle.compat_matrix.specs.Leasts.{IsLeast}
use Rattle.compat_matrix.proofs.least.least.Given as goal

-- the least level of the members so far
abbrev pub invariant-loop-x : goal.invariant-loop-x
invariant-loop-x l = IsLeast l.program (levels_of l.certificates) (take l.x-index l.xs) l.ys l.level
