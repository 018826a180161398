use Rattle.std.proofs.Common.{◌≡◌, List, ◌∷◌, [], ◌++◌, sym, ap, subst, ◌∙◌}
use Rattle.std.specs.Result.{OnOk}
use Rattle.std.proofs.lemmas.List.{append_assoc, append-nil}
use Rattle.std.specs.List.{flat_map}
use Rattle.seuss_program.specs.declared.state.Value.{Value}
use Rattle.seuss_program.specs.Attempts.{locals_of}
use Rattle.tight_order.proofs.StatementLemmas.{locals-Let, locals-Assign, locals-Call, locals-If}
use Rattle.tight_order.proofs.StatementLemmas.{locals-While}
use Rattle.tight_order.proofs.entry.+locals.Goals as goal

pub add_local-returns-in-Let : goal.add_local-returns-in-Let
add_local-returns-in-Let t c =
    subst (λ (vs : List Value). OnOk c.push.result (c.push.new.self ≡ c.args.slots.now ++ vs))
    (ap (λ v. v ∷ []) c.first_value.ensures ∙ sym
    (locals-Let c.args.statement.now c.in-Let.name c.in-Let.kind c.in-Let.value c.in-Let.is))
    c.push.ensures.ok

pub add_local-returns-in-While : goal.add_local-returns-in-While
add_local-returns-in-While t c =
    subst (λ (vs : List Value). OnOk c.add_locals-in-While.result
    (c.add_locals-in-While.new.slots ≡ c.args.slots.now ++ vs))
    (ap (flat_map locals_of) c.as_slice-in-While.ensures
    ∙ sym (locals-While c.args.statement.now c.in-While.cond c.in-While.turn c.in-While.is))
    c.add_locals-in-While.ensures

pub add_local-returns-in_ok-add_locals-in-If : goal.add_local-returns-in_ok-add_locals-in-If
add_local-returns-in_ok-add_locals-in-If t c =
    subst (λ (vs : List Value). OnOk c.add_locals-in-If.result (c.add_locals-in-If.new.slots ≡ vs))
    (ap (λ vs. vs ++ flat_map locals_of c.as_slice-in-If.result.now) c.in_ok-add_locals-in-If.ensures
    ∙ (append_assoc c.args.slots.now (flat_map locals_of c.as_slice.result.now)
    (flat_map locals_of c.as_slice-in-If.result.now)
    ∙ ap (λ vs. c.args.slots.now ++ vs)
    (ap (λ ss. flat_map locals_of ss ++ flat_map locals_of c.as_slice-in-If.result.now) c.as_slice.ensures
    ∙ (ap (λ ss. flat_map locals_of c.in-If.yes ++ flat_map locals_of ss) c.as_slice-in-If.ensures
    ∙ sym (locals-If c.args.statement.now c.in-If.cond c.in-If.yes c.in-If.no c.in-If.is)))))
    c.add_locals-in-If.ensures

-- nothing is added
unchanged : (slots vs : List Value) → vs ≡ [] → slots ≡ slots ++ vs
unchanged slots vs h = sym (ap (λ ws. slots ++ ws) h ∙ append-nil slots)

pub add_local-returns-in-Assign : goal.add_local-returns-in-Assign
add_local-returns-in-Assign t c = unchanged c.args.slots.now (locals_of c.args.statement.now)
    (locals-Assign c.args.statement.now c.in-Assign.name c.in-Assign.value c.in-Assign.is)

pub add_local-returns-in-Call : goal.add_local-returns-in-Call
add_local-returns-in-Call t c = unchanged c.args.slots.now (locals_of c.args.statement.now)
    (locals-Call c.args.statement.now c.in-Call.bind c.in-Call.call c.in-Call.is)
