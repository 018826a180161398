use Rattle.std.proofs.Common.{◌≡◌, drop}
use Rattle.compat_matrix.specs.Certificates.{levels_of}
use Rattle.compat_matrix.proofs.least.level_of.Given as goal

abbrev pub invariant-loop-certificate : goal.invariant-loop-certificate
invariant-loop-certificate l =
    levels_of (drop l.certificate-index l.certificates) l.cat l.first l.second ≡ levels_of l.certificates
    l.cat l.first l.second
