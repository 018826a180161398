use Rattle.std.proofs.Common.{List, ◌+◌, take, sym, subst}
use Rattle.seuss_program.specs.declared.program.ActionInfo.{ActionInfo}
use Rattle.compat_matrix.specs.declared.member.Member.{Member}
use Rattle.compat_matrix.specs.Rule.{none_certified}
use Rattle.compat_matrix.specs.Members.{AreAllMembers}
use Rattle.compat_matrix.proofs.Lowering.{all_more}
use Rattle.compat_matrix.proofs.levels.all_members.Goals as goal

pub loop-action-preserved : goal.loop-action-preserved
loop-action-preserved c =
    let items = c.as_slice-action-items.result.now in
    let nobody : ActionInfo = record { box_number = 0; procedure = 0 } in
    subst (λ (all : List (List Member)). AreAllMembers c.args.program.now
    (take (c.loop-action.action-index + 1) items) all) (sym c.in_ok-push.ensures.ok)
    (all_more c.args.program.now none_certified c.args.program.now items c.loop-action.all
    c.loop-action.action-index nobody
    c.in_ok-members.field-0 c.loop-action-test.true c.loop-action.invariant c.in_ok-members.ensures)
