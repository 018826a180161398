use Rattle.std.proofs.Common.{sym}
use Rattle.safety_judge.proofs.FindingLaws.{answer-of-cat, without-cat}
use Rattle.safety_judge.proofs.judging.by_cat.Goals as goal

pub returns-in-Some : goal.returns-in-Some
returns-in-Some c = answer-of-cat c.args.program.now c.args.property.now c.in-Some.cat.now c.first_bad.result
    c.requires (sym c.in-Some.ensures.value) c.first_bad.ensures

pub returns-in-None : goal.returns-in-None
returns-in-None c = without-cat c.args.program.now c.args.property.now c.requires (sym c.in-None.ensures.value)
