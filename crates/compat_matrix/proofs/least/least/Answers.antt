use Rattle.std.proofs.Common.{List, [], inl, refl, subst}
use Rattle.std.proofs.lemmas.List.{take_all}
use Rattle.compat_matrix.specs.declared.member.Member.{Member}
use Rattle.compat_matrix.specs.Certificates.{levels_of}
use Rattle.compat_matrix.specs.Leasts.{IsLeast}
use Rattle.compat_matrix.proofs.Lowering.{least_before, left_step}
use Rattle.compat_matrix.proofs.least.least.Goals as goal

pub loop-x-init : goal.loop-x-init
loop-x-init c = least_before c.args.program.now (levels_of c.args.certificates.now) [] c.args.ys.now
    (inl refl)

pub loop-x-preserved : goal.loop-x-preserved
loop-x-preserved c =
    left_step c.args.program.now (levels_of c.args.certificates.now) c.loop-x.level c.least_of.result
    c.lower-level.result c.lower-level.ensures c.args.xs.now
    c.args.ys.now c.loop-x.x-index
    c.loop-x-test.true c.loop-x.invariant c.least_of.ensures

pub returns : goal.returns
returns c =
    subst (λ (xs : List Member).
    IsLeast c.args.program.now (levels_of c.args.certificates.now) xs c.args.ys.now c.loop-x.level)
    (take_all c.loop-x.x-index c.args.xs.now c.loop-x-test.false) c.loop-x.invariant
