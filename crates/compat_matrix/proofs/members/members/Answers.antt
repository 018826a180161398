use Rattle.std.proofs.Common.{ℕ, List, length, sym, subst, arith}
use Rattle.compat_matrix.specs.declared.part.Part.TheVariants.{Line}
use Rattle.compat_matrix.specs.declared.member.Member.{Member}
use Rattle.compat_matrix.specs.Members.{Adds, IsOne, IsOnTheWay}
use Rattle.compat_matrix.proofs.Walking.{way_begins, way_next, way_ends}
use Rattle.compat_matrix.proofs.members.members.Goals as goal

pub loop-init : goal.loop-init
loop-init c = record {
  within = omega arith;
  way = way_begins c.args.program.now c.requires.keeps c.args.action.now c.add.new.members
      (subst (λ (ms : List Member). Adds c.args.program.now ms c.add.new.members
      (IsOne c.args.action.now.box_number c.args.action.now.procedure Line)) c.new-members.ensures
      c.in_ok-add.ensures);
}

pub loop-preserved : goal.loop-preserved
loop-preserved c = record {
  within = omega (arith, c.in_ok-add_round.ensures.more, c.len-end.ensures);
  way = way_next c.args.program.now c.requires.keeps c.args.action.now c.add_round.new.members
      c.len-end.result c.loop.counter
      (c.in_ok-add_round.ensures.way c.args.action.now c.loop.counter
      (subst (λ (n : ℕ). IsOnTheWay c.args.program.now c.args.action.now c.loop.members c.loop.start n
      c.loop.counter) (sym c.len-end.ensures) c.loop.invariant.way));
}

pub returns : goal.returns
returns c =
    way_ends c.args.program.now c.requires.keeps c.args.action.now c.loop.members c.loop.start
    (length c.loop.members) c.loop.counter (omega arith) c.loop.invariant.way
