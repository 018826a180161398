use Rattle.std.proofs.Common.{List, [], ◌∷◌, ◌++◌, take, sym, ap, subst, ◌∙◌}
use Rattle.std.proofs.lemmas.List.{take_more}
use Rattle.shape_terms.specs.declared.case.Case.{Case}
use Rattle.commute_certs.specs.Decisions.{Seen}
use Rattle.commute_certs.proofs.deciding.find.Goals as goal

pub loop-case-preserved : goal.loop-case-preserved
loop-case-preserved c =
    subst (λ (cs : List Case). Seen c.args.first.now c.args.second.now cs c.in_ok-found.found)
    (sym (take_more c.args.cases.now c.loop-case.case-index c.case-item.result c.loop-case-test.true
    ∙ ap (λ (x : Case). take c.loop-case.case-index c.args.cases.now ++ x ∷ []) (sym c.case-item.is)))
    (c.in_ok-found.ensures c.args.first.now c.args.second.now
    (take c.loop-case.case-index c.args.cases.now) c.loop-case.invariant c.in_ok-orders.ensures)
