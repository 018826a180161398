use Rattle.std.proofs.Common.{◌∙◌, ap, min, List}
use Rattle.safety_check.specs.declared.region.Region.{Region}
use Rattle.safety_judge.proofs.CountLaws.{cap-both}
use Rattle.safety_judge.proofs.RowLaws.{rows}
use Rattle.safety_judge.proofs.rows.count.Goals as goal

pub returns : goal.returns
returns c = cap-both (rows c.args.choices.now.vars) (rows c.args.choices.now.slots) c.count_rows-vars.result
    c.count_rows.result c.times.result
    (c.count_rows-vars.ensures ∙ ap (λ (xs : List (List Region)). min 4097 (rows xs)) c.as_slice.ensures)
    (c.count_rows.ensures ∙ ap (λ (xs : List (List Region)). min 4097 (rows xs)) c.as_slice-2.ensures)
    c.times.ensures
