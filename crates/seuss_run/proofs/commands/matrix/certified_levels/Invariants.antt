use Rattle.std.proofs.Common.{◌≡◌, drop, map, ◌++◌}
use Rattle.compat_matrix.specs.declared.certificate.Certificate.{Certificate}
use Rattle.seuss_run.proofs.commands.matrix.certified_levels.Given as goal

-- the certificates so far have these levels
abbrev pub invariant-loop-certificate : goal.invariant-loop-certificate
invariant-loop-certificate l =
    map (λ (e : Certificate). e.level) l.certificates
    ≡ l.levels ++ map (λ (e : Certificate). e.level) (drop l.certificate-index l.certificates)
