use Rattle.std.proofs.Common.{[], ◌∷◌, take}
use Rattle.compat_matrix.specs.Certificates.{levels_of}
use Rattle.compat_matrix.specs.Leasts.{IsLeast}
use Rattle.compat_matrix.proofs.least.least_of.Given as goal

-- the least level beside the members so far
abbrev pub invariant-loop-y : goal.invariant-loop-y
invariant-loop-y l = IsLeast l.program (levels_of l.certificates) (l.x ∷ []) (take l.y-index l.ys) l.level
