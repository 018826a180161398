use Rattle.std.proofs.Common.{drop}
use Rattle.compat_matrix.specs.Certificates.{written_from}
use Rattle.compat_matrix.specs.Deciding.{SoFar}
use Rattle.compat_matrix.proofs.deciding.certificates.Given as goal

-- the certificates of the cats before a cat
abbrev pub invariant-loop-cat : goal.invariant-loop-cat
invariant-loop-cat l = SoFar l.program (written_from l.cat (drop l.cat l.program.cats)) l.certificates
