use Rattle.std.proofs.Common.{◌≡◌, map, take}
use Rattle.std.specs.Prelude.{slice_get}
use Rattle.seuss_program.specs.declared.program.BoxInfo.{BoxInfo}
use Rattle.method_code.specs.Plans.{box_plan}
use Rattle.method_code.proofs.plan.Plan.of.Given as goal

abbrev pub invariant-loop-info : goal.invariant-loop-info
invariant-loop-info l =
    l.boxes ≡ map (λ (info : BoxInfo). box_plan l.program info (slice_get l.program.cats info.cat))
    (take l.info-index l.program.boxes)
