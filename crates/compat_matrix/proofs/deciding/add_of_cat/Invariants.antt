use Rattle.compat_matrix.specs.Deciding.{SoFar}
use Rattle.compat_matrix.proofs.WrittenLemmas.{rest_of}
use Rattle.compat_matrix.proofs.deciding.add_of_cat.Given as goal

-- the certificates before a place of the cat
abbrev pub invariant-loop-at : goal.invariant-loop-at
invariant-loop-at l = SoFar l.program (rest_of l.program l.cat l.own l.at) l.certificates
