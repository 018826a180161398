use Rattle.seuss_run.proofs.HeldProperties.{judged_by}
use Rattle.seuss_run.proofs.commands.prove.judged.Goals as goal

-- what is safe is kept, and so holds throughout
pub returns : goal.returns
returns c =
    let p = c.args.program.now in
    let property = c.args.property.now in
    judged_by p property c.judge.result c.judge.ensures.answer
    (c.judge.ensures.kept c.requires.keeps c.requires.property)
    (λ safe input actions budget. c.safe_properties_are_kept.ensures.runs p property input actions budget
    c.requires.keeps c.requires.property safe)
