use Rattle.std.proofs.Common.{List, ap, ◌∙◌}
use Rattle.std.specs.Prelude.{slice_set}
use Rattle.std.proofs.lemmas.List.{set-set}
use Rattle.seuss_program.specs.declared.state.Vars.{Vars}
use Rattle.method_code.proofs.passing.take_vars.Goals as goal

pub returns-then-at-len-clause-back : goal.returns-then-at-len-clause-back
returns-then-at-len-clause-back c = λ vars.
    ap (λ (boxes : List Vars). slice_set boxes c.args.box_number vars) c.replace.ensures.after
    ∙ set-set c.args.state.now.boxes c.args.box_number (record { values = c.new.result }) vars
