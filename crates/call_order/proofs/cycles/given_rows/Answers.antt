-- Proofs of the goals of `given_rows`.
use Rattle.std.proofs.Common.{List, Bool, refl, sym, ap, ◌∙◌, arith, get_or, [], subst, ◌<◌, ◌+◌, ℕ}
use Rattle.std.proofs.lemmas.Grind.{common_steps}
use Rattle.seuss_program.specs.declared.program.BoxInfo.{BoxInfo}
use Rattle.call_order.specs.Marks.{KnowsGiven}
use Rattle.call_order.proofs.MarkLemmas.{given_at, all_there, row_known, one_more_row}
use Rattle.call_order.proofs.cycles.given_rows.Goals as goal

pub given_row-requires-clause-given : goal.given_row-requires-clause-given
given_row-requires-clause-given c = all_there c.args.boxes.now c.loop-info.info-index _ _ c.requires
    (c.as_slice.ensures ∙
    (ap (λ (b : BoxInfo). b.given) c.info-item.is
    ∙ given_at c.args.boxes.now c.loop-info.info-index c.info-item.result c.loop-info-test.true)) refl

pub loop-info-preserved : goal.loop-info-preserved
loop-info-preserved c = record {
  count = grind (arith, common_steps, c.in_ok-push.ensures.ok, c.loop-info.invariant.count);
  each = subst (λ (rows : List (List Bool)). (k : ℕ) → k < c.loop-info.info-index + 1 →
      KnowsGiven c.args.boxes.now k (get_or rows k [])) (sym c.in_ok-push.ensures.ok)
      (one_more_row c.args.boxes.now c.loop-info.info-index c.loop-info.rows c.in_ok-given_row.field-0
      c.loop-info.invariant.count c.loop-info.invariant.each
      (row_known c.args.boxes.now c.requires c.loop-info.info-index c.as_slice.result.now
      c.in_ok-given_row.field-0
      (c.as_slice.ensures ∙
      (ap (λ (b : BoxInfo). b.given) c.info-item.is
      ∙ given_at c.args.boxes.now c.loop-info.info-index c.info-item.result c.loop-info-test.true))
      c.in_ok-given_row.ensures));
}
