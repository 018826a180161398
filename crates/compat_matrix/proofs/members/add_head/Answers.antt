use Rattle.std.proofs.Common.{ℕ, subst}
use Rattle.std.proofs.lemmas.Result.{on_ok_weaker}
use Rattle.compat_matrix.specs.declared.part.Part.TheVariants.{Line}
use Rattle.compat_matrix.specs.Members.{Adds, IsOne}
use Rattle.compat_matrix.proofs.Adding.{begun_one}
use Rattle.compat_matrix.proofs.members.add_head.Goals as goal

pub returns-in-Some : goal.returns-in-Some
returns-in-Some c = on_ok_weaker c.add.result (λ a.
    begun_one c.args.program.now c.args.box_number c.args.head.now c.in-Some.call c.args.members.now
    c.add.new.members c.in-Some.is
    (subst (λ (box : ℕ). Adds c.args.program.now c.args.members.now c.add.new.members
    (IsOne box c.in-Some.call.method Line)) c.target-below.ensures a)) c.add.ensures
