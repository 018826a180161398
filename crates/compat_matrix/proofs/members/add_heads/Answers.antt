use Rattle.std.proofs.Common.{List, subst}
use Rattle.std.proofs.lemmas.List.{take_all}
use Rattle.method_code.specs.declared.method.Head.{Head}
use Rattle.compat_matrix.specs.Members.{Adds, IsBegun}
use Rattle.compat_matrix.proofs.Adding.{begun_none, begun_step}
use Rattle.compat_matrix.proofs.members.add_heads.Goals as goal

pub loop-head-init : goal.loop-head-init
loop-head-init c = begun_none c.args.program.now c.args.box_number c.args.members.now

pub loop-head-preserved : goal.loop-head-preserved
loop-head-preserved c =
    begun_step c.args.program.now c.args.box_number c.args.heads.now c.loop-head.head-index
    c.head-item.result
    c.args.members.now c.loop-head.members c.add_head.new.members c.loop-head-test.true c.head-item.is
    c.loop-head.invariant c.in_ok-add_head.ensures

pub returns : goal.returns
returns c =
    subst (λ (hs : List Head). Adds c.args.program.now c.args.members.now c.loop-head.members
    (IsBegun c.args.program.now c.args.box_number hs))
    (take_all c.loop-head.head-index c.args.heads.now c.loop-head-test.false) c.loop-head.invariant
