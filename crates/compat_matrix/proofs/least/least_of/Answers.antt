use Rattle.std.proofs.Common.{List, [], ◌∷◌, inr, refl, subst}
use Rattle.std.proofs.lemmas.List.{take_all}
use Rattle.compat_matrix.specs.declared.member.Member.{Member}
use Rattle.compat_matrix.specs.Certificates.{levels_of}
use Rattle.compat_matrix.specs.Leasts.{IsLeast}
use Rattle.compat_matrix.proofs.Lowering.{least_before, right_step}
use Rattle.compat_matrix.proofs.least.least_of.Goals as goal

pub loop-y-init : goal.loop-y-init
loop-y-init c = least_before c.args.program.now (levels_of c.args.certificates.now) (c.args.x.now ∷ []) []
    (inr refl)

pub loop-y-preserved : goal.loop-y-preserved
loop-y-preserved c =
    right_step c.args.program.now (levels_of c.args.certificates.now) c.loop-y.level c.beside.result
    c.lower-level.result c.lower-level.ensures
    (c.args.x.now ∷ []) c.args.ys.now c.loop-y.y-index
    c.loop-y-test.true c.loop-y.invariant c.beside.ensures

pub returns : goal.returns
returns c =
    subst (λ (ys : List Member).
    IsLeast c.args.program.now (levels_of c.args.certificates.now) (c.args.x.now ∷ []) ys c.loop-y.level)
    (take_all c.loop-y.y-index c.args.ys.now c.loop-y-test.false) c.loop-y.invariant
