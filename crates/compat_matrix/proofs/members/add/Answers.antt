use Rattle.std.proofs.Common.{List, subst, sym}
use Rattle.std.proofs.lemmas.Result.{on_ok_weaker}
use Rattle.compat_matrix.specs.declared.member.Member.{Member}
use Rattle.compat_matrix.specs.Members.{Lists, Adds, IsOne}
use Rattle.compat_matrix.proofs.Adding.{adds_listed, adds_missing, adds_pushed}
use Rattle.compat_matrix.proofs.members.add.Goals as goal

pub returns-then-is_listed : goal.returns-then-is_listed
returns-then-is_listed c =
    adds_listed c.args.program.now c.args.members.now c.args.box_number c.args.procedure c.args.part
    (subst (λ (ms : List Member). Lists ms c.args.box_number c.args.procedure c.args.part)
    c.as_slice.ensures c.if-is_listed.ensures)

pub returns-in-Some : goal.returns-in-Some
returns-in-Some c =
    let m : Member = record {
      box_number = c.args.box_number;
      procedure = c.args.procedure;
      part =
          c.args.part;
      effects = c.in-Some.effects;
    } in
    let found = c.in-Some.ensures in
    on_ok_weaker c.push.result
    (λ e. subst (λ (ms : List Member). Adds c.args.program.now c.args.members.now ms
    (IsOne c.args.box_number c.args.procedure c.args.part)) (sym e)
    (adds_pushed c.args.program.now c.args.members.now m (record {
      procedure = found.0;
      there =
          found.1;
      effects = found.2;
      small = found.3;
    })))
    c.push.ensures.ok

pub returns-in-None : goal.returns-in-None
returns-in-None c = adds_missing c.args.program.now c.args.members.now c.args.box_number c.args.procedure
    c.args.part c.in-None.ensures
