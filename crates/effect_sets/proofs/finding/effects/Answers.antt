use Rattle.std.proofs.Common.{◌∙◌}
use Rattle.std.proofs.lemmas.Option.{none-some}
use Rattle.method_code.specs.Codes.{method_code}
use Rattle.effect_sets.proofs.Telling.{effects_at, coded_at}
use Rattle.effect_sets.proofs.finding.effects.Goals as goal

pub returns-in-Some-clause-of_procedure : goal.returns-in-Some-clause-of_procedure
returns-in-Some-clause-of_procedure c = λ q coded.
    effects_at c.args.code.now c.args.method c.in-Some.method.now c.effects_of.result q c.in-Some.ensures
    c.effects_of.ensures coded

pub returns-in-Some-clause-in_program : goal.returns-in-Some-clause-in_program
returns-in-Some-clause-in_program c = λ p box number q is there numbered.
    effects_at c.args.code.now c.args.method c.in-Some.method.now c.effects_of.result q c.in-Some.ensures
    c.effects_of.ensures
    (coded_at p c.args.code.now c.args.method box number q is there numbered)

pub returns-in-None-clause-in_program : goal.returns-in-None-clause-in_program
returns-in-None-clause-in_program c = λ p box number q is there numbered.
    absurd (none-some (method_code q)
    (c.in-None.ensures ∙ coded_at p c.args.code.now c.args.method box number q is there numbered))
