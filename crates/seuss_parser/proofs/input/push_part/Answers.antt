use Rattle.std.proofs.Common.{refl, sym, arith}
use Rattle.std.proofs.lemmas.Bool.{eqb-false}
use Rattle.seuss_parser.proofs.InputReads.{part_bad}
use Rattle.seuss_parser.proofs.input.push_part.Goals as goal

pub returns-in_default : goal.returns-in_default
returns-in_default c =
    let some = eqb-false _ 0 (sym c.if-is_empty.ensures) in
    (refl, part_bad c.args.part.now (omega (arith, some)) c.in_default.ensures)
