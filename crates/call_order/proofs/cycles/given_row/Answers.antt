-- Proofs of the goals of `given_row`.
use Rattle.std.proofs.Common.{◌<◌, List, Bool, length, sym, ap, subst, ◌∙◌}
use Rattle.std.specs.Prelude.{All}
use Rattle.call_order.specs.Marks.{marked_with}
use Rattle.call_order.proofs.MarkLemmas.{no_marks_count}
use Rattle.call_order.proofs.cycles.given_row.Goals as goal

pub mark_all-requires : goal.mark_all-requires
mark_all-requires c = subst (λ n. All (λ g. g < n) c.args.given.now)
    (sym (ap (λ (l : List Bool). length l) c.in_ok-marks.ensures
    ∙ no_marks_count (length c.args.boxes.now))) c.requires.given

pub loop-init : goal.loop-init
loop-init c = record {
  value = c.mark_all.ensures.value ∙ ap (λ (l : List Bool). marked_with c.args.given.now l)
      c.in_ok-marks.ensures;
  count = c.mark_all.ensures.count ∙
      (ap (λ (l : List Bool). length l) c.in_ok-marks.ensures ∙ no_marks_count (length c.args.boxes.now));
}
