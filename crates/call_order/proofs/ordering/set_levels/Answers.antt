-- Proofs of the goals of `set_levels`.
use Rattle.std.proofs.Common.{◌≡◌, List, ℕ, refl, ap, subst, ◌∙◌}
use Rattle.seuss_program.specs.declared.program.BoxInfo.{BoxInfo}
use Rattle.call_order.specs.Cycles.{HasNoCycle}
use Rattle.call_order.specs.LevelLists.{AreLevels, set_levels}
use Rattle.call_order.proofs.LevelLemmas.{is_levelled}
use Rattle.call_order.proofs.ordering.set_levels.Goals as goal

pub returns : goal.returns
returns c =
    let given : c.in_ok-boxes.boxes ≡ set_levels c.args.program.boxes c.in_ok-levels.levels =
    c.in_ok-boxes.ensures ∙ ap (λ (ns : List ℕ). set_levels c.args.program.boxes ns) c.as_slice-4.ensures in (
      subst (λ (bs : List BoxInfo). HasNoCycle bs) c.as_slice-2.ensures c.in_default.ensures.first,
      is_levelled c.args.program _ c.in_ok-levels.levels
          (subst (λ (bs : List BoxInfo). AreLevels bs c.in_ok-levels.levels) c.as_slice-3.ensures
          c.in_ok-levels.ensures) given refl refl,
    )
