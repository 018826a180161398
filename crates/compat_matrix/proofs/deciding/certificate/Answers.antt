use Rattle.std.proofs.Common.{refl, sym, ap, ◌∙◌}
use Rattle.seuss_program.specs.declared.tree.Ref.TheVariants as R
use Rattle.commute_certs.specs.declared.verdict.Verdict.TheVariants.{Yes, No, Unclear}
use Rattle.compat_matrix.proofs.NamedMethods.{named, decided}
use Rattle.compat_matrix.proofs.Refusals.{fails}
use Rattle.compat_matrix.proofs.deciding.certificate.Goals as goal

pub returns-in-Yes : goal.returns-in-Yes
returns-in-Yes c = λ own there among.
    let k = named c.args.program.now c.args.cat c.args.at own c.args.semi.now c.requires there among in
    record {
      same_cat = refl;
      first = k.first.1 ∙ ap R.Method (sym (c.number.ensures k.first.0 k.first.1));
      second = k.second.1 ∙ ap R.Method (sym (c.number-in-Yes.ensures k.second.0 k.second.1));
      decided = decided c.args.program.now c.args.cat c.args.at own c.args.semi.now c.in_ok-level.field-0
          (Yes c.in-Yes.level) c.requires there among c.in-Yes.is c.in_ok-level.ensures;
    }

pub returns-in-No : goal.returns-in-No
returns-in-No c = λ own there among.
    let verdict = No c.in-No.vars c.in-No.first c.in-No.second in
    fails verdict
    (λ pair level. c.one_verdict.ensures.yes_or_no pair level c.in-No.vars c.in-No.first c.in-No.second)
    (c.args.cat, (own, c.args.semi.now))
    (decided c.args.program.now c.args.cat c.args.at own c.args.semi.now c.in_ok-level.field-0 verdict
    c.requires there among c.in-No.is c.in_ok-level.ensures)

pub returns-in-Unclear : goal.returns-in-Unclear
returns-in-Unclear c = λ own there among.
    let verdict = Unclear c.in-Unclear.why in
    fails verdict (λ pair level. c.one_verdict.ensures.yes_or_unclear pair level c.in-Unclear.why)
    (c.args.cat, (own, c.args.semi.now))
    (decided c.args.program.now c.args.cat c.args.at own c.args.semi.now c.in_ok-level.field-0 verdict
    c.requires there among c.in-Unclear.is c.in_ok-level.ensures)
