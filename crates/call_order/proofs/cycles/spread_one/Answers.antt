-- Proofs of the goals of `spread_one`.
use Rattle.std.proofs.Common.{◌∙◌, sym, ap, subst, if◌then◌else◌, Bool, true, false, ◌≡◌, List, ℕ, get_or}
use Rattle.call_order.specs.Marks.{marked_with}
use Rattle.call_order.specs.Cycles.{given_of}
use Rattle.call_order.proofs.MarkLemmas.{given_at, all_there}
use Rattle.call_order.proofs.cycles.spread_one.Goals as goal

pub mark_all-requires : goal.mark_all-requires
mark_all-requires c = all_there c.args.boxes.now c.args.number _ _ c.requires.there
    (c.as_slice-then-as_slice-number.ensures ∙ given_at c.args.boxes.now c.args.number
    c.index-boxes-number.result c.requires.number)
    c.requires.count

pub returns-then-as_slice-number-clause-value : goal.returns-then-as_slice-number-clause-value
returns-then-as_slice-number-clause-value c =
    c.mark_all.ensures.value
    ∙ (ap (λ (l : List ℕ). marked_with l c.args.marks.now)
    (c.as_slice-then-as_slice-number.ensures ∙ given_at c.args.boxes.now c.args.number
    c.index-boxes-number.result c.requires.number)
    ∙ sym (ap (λ (t : Bool). if t then marked_with (given_of c.args.boxes.now c.args.number)
    c.args.marks.now else c.args.marks.now)
    (subst (λ l. get_or l c.args.number false ≡ true) c.as_slice.ensures c.if-as_slice-number.true)))
