use Rattle.std.proofs.Common.{sym, arith}
use Rattle.compat_matrix.proofs.Adding.{none_found, some_found}
use Rattle.compat_matrix.proofs.members.effects_at.Goals as goal

pub returns-in-Some : goal.returns-in-Some
returns-in-Some c =
    some_found c.args.program.now c.args.box_number c.args.procedure c.args.code.now
    c.number_of-number.result c.requires c.number_of-number.ensures
    c.in-Some.field-0.now c.effects.result (sym c.in-Some.ensures) c.effects.ensures.of_procedure
    (omega arith)

pub returns-in-None : goal.returns-in-None
returns-in-None c =
    none_found c.args.program.now c.args.box_number c.args.procedure c.args.code.now
    c.number_of-number.result c.requires c.number_of-number.ensures (sym c.in-None.ensures)
