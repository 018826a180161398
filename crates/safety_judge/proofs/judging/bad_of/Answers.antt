use Rattle.std.proofs.Common.{◌∙◌, ap}
use Rattle.safety_judge.specs.Rows.{choices_of}
use Rattle.safety_judge.proofs.FindingLaws.{answer-by}
use Rattle.safety_judge.proofs.judging.bad_of.Goals as goal

pub returns : goal.returns
returns c =
    answer-by c.args.cat.now c.args.q.now c.args.property.now c.in_ok-choices.choices c.bad_by.result
    c.requires
    (c.in_ok-choices.ensures ∙ ap (choices_of c.args.cat.now c.args.q.now) c.in_ok-seen.ensures)
    c.bad_by.ensures
