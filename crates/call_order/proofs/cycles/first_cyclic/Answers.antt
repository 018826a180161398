-- Proofs of the goals of `first_cyclic`.
use Rattle.std.proofs.Common.{◌≡◌, List, Bool, false, refl, ap, subst, ◌∙◌, get_or}
use Rattle.call_order.proofs.MarkLemmas.{below-next, not_cyclic, no_cycle_by}
use Rattle.call_order.specs.Cycles.{IsCyclic}
use Rattle.call_order.proofs.cycles.first_cyclic.Goals as goal

pub loop-number-preserved : goal.loop-number-preserved
loop-number-preserved c = below-next (λ box. IsCyclic c.args.boxes.now box → ⊥) c.loop-number.number _ refl
    c.loop-number.invariant
    (not_cyclic c.args.boxes.now c.args.rows.now c.loop-number.number c.index-as_slice-number.result
    c.requires.known c.loop-number-test.true
    (c.index-as_slice-number.is ∙ ap
    (λ (l : List (List Bool)). get_or l c.loop-number.number c.index-as_slice-number.result)
    c.as_slice.ensures)
    (subst (λ (l : List Bool). get_or l c.loop-number.number false ≡ false)
    c.as_slice-in-loop-number.ensures c.if-as_slice-number.false))

pub returns-clause-first : goal.returns-clause-first
returns-clause-first c = no_cycle_by c.args.boxes.now c.loop-number.number c.loop-number-test.false
    c.loop-number.invariant
