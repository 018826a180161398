use Rattle.std.proofs.Common.{rules, ◌≡◌, Ok, Err, sym, subst, ap, ◌∙◌}
use Rattle.std.specs.Int.{w64}
use Rattle.std.specs.Int.RustNames.{FitsSigned}
use Rattle.std.proofs.lemmas.Int.{to_z-of_z}
use Rattle.shape_terms.specs.declared.shape.Shape.TheVariants as Q
use Rattle.shape_terms.specs.declared.symbol.Symbol.TheVariants as Y
use Rattle.commute_certs.specs.declared.part.Part.TheVariants as P
use Rattle.commute_certs.specs.Terms.{part_of}
use Rattle.commute_certs.specs.Answers.{Tells}
use Rattle.shape_terms.proofs.Bits.{fitting}
use Rattle.commute_certs.proofs.Nodes.{handed_on, same_part, int_told, bool_told, empty_told, name_told}
use Rattle.commute_certs.proofs.Nodes.{neg_stopped, neg_told, not_stopped, not_told, one_stopped, one_told}
use Rattle.commute_certs.proofs.Nodes.{left_stopped, decision_stopped, left_decides, right_stopped}
use Rattle.commute_certs.proofs.Nodes.{two_told}
use Rattle.commute_certs.proofs.term.+part_in.Goals as goal

pub returns-in-Int : goal.returns-in-Int
returns-in-Int t c =
    let fits : FitsSigned w64 c.in-Int.z = search rules in
    subst (λ z. Tells (Ok (P.Digits z)) (part_of c.args.expr.now c.args.vars.now c.args.slots.now))
    (sym (to_z-of_z w64 c.in-Int.z fits))
    (int_told c.args.expr.now c.args.vars.now c.args.slots.now c.in-Int.z (fitting c.in-Int.z fits)
    c.in-Int.is)

pub returns-in-Bool : goal.returns-in-Bool
returns-in-Bool t c = bool_told c.args.expr.now c.args.vars.now c.args.slots.now _ c.in-Bool.is

pub returns-in-Empty : goal.returns-in-Empty
returns-in-Empty t c = empty_told c.args.expr.now c.args.vars.now c.args.slots.now _
    (ap (λ s. Ok (P.Other (Y.Sequence s))) (c.exact.ensures ∙ ap Q.Exact c.new.ensures)) c.in-Empty.is

pub returns-in_ok-lookup-in-Name : goal.returns-in_ok-lookup-in-Name
returns-in_ok-lookup-in-Name t c =
    name_told c.args.expr.now c.args.vars.now c.args.slots.now c.in-Name.name _
    c.in_ok-lookup-in-Name.ensures c.in-Name.is

pub returns-in_err-part_in-in-Neg : goal.returns-in_err-part_in-in-Neg
returns-in_err-part_in-in-Neg t c =
    let same : c.from_residual-in_err-part_in-in-Neg.result ≡ Err c.in_err-part_in-in-Neg.field-0.0 =
    search rules in
    handed_on c.from_residual-in_err-part_in-in-Neg.result c.in_err-part_in-in-Neg.field-0.0
    (part_of c.args.expr.now c.args.vars.now c.args.slots.now) same
    (neg_stopped c.args.expr.now c.args.vars.now c.args.slots.now c.in-Neg.part
    c.in_err-part_in-in-Neg.field-0.0 c.in-Neg.is
    (same_part (Err c.in_err-part_in-in-Neg.field-0.0) c.deref.result.now c.in-Neg.part c.args.vars.now
    c.args.slots.now c.deref.ensures c.in_err-part_in-in-Neg.ensures))

pub returns-in_ok-part_in-in-Neg : goal.returns-in_ok-part_in-in-Neg
returns-in_ok-part_in-in-Neg t c =
    neg_told c.args.expr.now c.args.vars.now c.args.slots.now c.in-Neg.part c.in_ok-part_in-in-Neg.field-0
    c.negated.result c.in-Neg.is
    (same_part (Ok c.in_ok-part_in-in-Neg.field-0) c.deref.result.now c.in-Neg.part c.args.vars.now
    c.args.slots.now c.deref.ensures c.in_ok-part_in-in-Neg.ensures) c.negated.ensures

pub returns-in_err-part_in-in-Not : goal.returns-in_err-part_in-in-Not
returns-in_err-part_in-in-Not t c =
    let same : c.from_residual-in_err-part_in-in-Not.result ≡ Err c.in_err-part_in-in-Not.field-0.0 =
    search rules in
    handed_on c.from_residual-in_err-part_in-in-Not.result c.in_err-part_in-in-Not.field-0.0
    (part_of c.args.expr.now c.args.vars.now c.args.slots.now) same
    (not_stopped c.args.expr.now c.args.vars.now c.args.slots.now c.in-Not.part
    c.in_err-part_in-in-Not.field-0.0 c.in-Not.is
    (same_part (Err c.in_err-part_in-in-Not.field-0.0) c.deref-in-Not.result.now c.in-Not.part
    c.args.vars.now c.args.slots.now c.deref-in-Not.ensures c.in_err-part_in-in-Not.ensures))

pub returns-in_ok-part_in-in-Not : goal.returns-in_ok-part_in-in-Not
returns-in_ok-part_in-in-Not t c =
    not_told c.args.expr.now c.args.vars.now c.args.slots.now c.in-Not.part c.in_ok-part_in-in-Not.field-0
    c.denied.result c.in-Not.is
    (same_part (Ok c.in_ok-part_in-in-Not.field-0) c.deref-in-Not.result.now c.in-Not.part c.args.vars.now
    c.args.slots.now c.deref-in-Not.ensures c.in_ok-part_in-in-Not.ensures) c.denied.ensures

pub returns-in_err-part_in-in-One : goal.returns-in_err-part_in-in-One
returns-in_err-part_in-in-One t c =
    let same : c.from_residual-in_err-part_in-in-One.result ≡ Err c.in_err-part_in-in-One.field-0.0 =
    search rules in
    handed_on c.from_residual-in_err-part_in-in-One.result c.in_err-part_in-in-One.field-0.0
    (part_of c.args.expr.now c.args.vars.now c.args.slots.now) same
    (one_stopped c.args.expr.now c.args.vars.now c.args.slots.now c.in-One.part c.in-One.fun
    c.in_err-part_in-in-One.field-0.0 c.in-One.is
    (same_part (Err c.in_err-part_in-in-One.field-0.0) c.deref-in-One.result.now c.in-One.part
    c.args.vars.now c.args.slots.now c.deref-in-One.ensures c.in_err-part_in-in-One.ensures))

pub returns-in_ok-part_in-in-One : goal.returns-in_ok-part_in-in-One
returns-in_ok-part_in-in-One t c =
    one_told c.args.expr.now c.args.vars.now c.args.slots.now c.in-One.part c.in-One.fun
    c.in_ok-part_in-in-One.field-0 c.measured.result c.in-One.is
    (same_part (Ok c.in_ok-part_in-in-One.field-0) c.deref-in-One.result.now c.in-One.part c.args.vars.now
    c.args.slots.now c.deref-in-One.ensures c.in_ok-part_in-in-One.ensures) c.measured.ensures

pub returns-in_err-x-in-Two : goal.returns-in_err-x-in-Two
returns-in_err-x-in-Two t c =
    let same : c.from_residual-in_err-x-in-Two.result ≡ Err c.in_err-x-in-Two.field-0.0 = search rules in
    handed_on c.from_residual-in_err-x-in-Two.result c.in_err-x-in-Two.field-0.0
    (part_of c.args.expr.now c.args.vars.now c.args.slots.now) same
    (left_stopped c.args.expr.now c.args.vars.now c.args.slots.now c.in-Two.op c.in-Two.left c.in-Two.right
    c.in_err-x-in-Two.field-0.0 c.in-Two.is
    (same_part (Err c.in_err-x-in-Two.field-0.0) c.deref-in-Two.result.now c.in-Two.left
    c.args.vars.now c.args.slots.now c.deref-in-Two.ensures c.in_err-x-in-Two.ensures))

pub returns-in_err-decides-in-Two : goal.returns-in_err-decides-in-Two
returns-in_err-decides-in-Two t c =
    let same : c.from_residual-in_err-decides-in-Two.result ≡ Err c.in_err-decides-in-Two.field-0.0 =
    search rules in
    handed_on c.from_residual-in_err-decides-in-Two.result c.in_err-decides-in-Two.field-0.0
    (part_of c.args.expr.now c.args.vars.now c.args.slots.now) same
    (decision_stopped c.args.expr.now c.args.vars.now c.args.slots.now c.in-Two.op c.in-Two.left
    c.in-Two.right c.in_ok-x-in-Two.x c.in_err-decides-in-Two.field-0.0 c.in-Two.is
    (same_part (Ok c.in_ok-x-in-Two.x) c.deref-in-Two.result.now c.in-Two.left c.args.vars.now
    c.args.slots.now c.deref-in-Two.ensures c.in_ok-x-in-Two.ensures) c.in_err-decides-in-Two.ensures)

pub returns-then-branch : goal.returns-then-branch
returns-then-branch t c =
    left_decides c.args.expr.now c.args.vars.now c.args.slots.now c.in-Two.op c.in-Two.left c.in-Two.right
    c.in_ok-x-in-Two.x c.in_ok-decides-in-Two.field-0 c.as_truth.result c.in-Two.is
    (same_part (Ok c.in_ok-x-in-Two.x) c.deref-in-Two.result.now c.in-Two.left c.args.vars.now
    c.args.slots.now c.deref-in-Two.ensures c.in_ok-x-in-Two.ensures) c.in_ok-decides-in-Two.ensures
    c.if-branch.true c.as_truth.ensures

pub returns-in_err-y-in-Two : goal.returns-in_err-y-in-Two
returns-in_err-y-in-Two t c =
    let same : c.from_residual-in_err-y-in-Two.result ≡ Err c.in_err-y-in-Two.field-0.0 = search rules in
    handed_on c.from_residual-in_err-y-in-Two.result c.in_err-y-in-Two.field-0.0
    (part_of c.args.expr.now c.args.vars.now c.args.slots.now) same
    (right_stopped c.args.expr.now c.args.vars.now c.args.slots.now c.in-Two.op c.in-Two.left
    c.in-Two.right c.in_ok-x-in-Two.x c.in_ok-decides-in-Two.field-0 c.in_err-y-in-Two.field-0.0
    c.in-Two.is
    (same_part (Ok c.in_ok-x-in-Two.x) c.deref-in-Two.result.now c.in-Two.left c.args.vars.now
    c.args.slots.now c.deref-in-Two.ensures c.in_ok-x-in-Two.ensures) c.in_ok-decides-in-Two.ensures
    c.if-branch.false
    (same_part (Err c.in_err-y-in-Two.field-0.0) c.deref-in-Two-2.result.now c.in-Two.right c.args.vars.now
    c.args.slots.now c.deref-in-Two-2.ensures c.in_err-y-in-Two.ensures))

pub returns-in_ok-y-in-Two : goal.returns-in_ok-y-in-Two
returns-in_ok-y-in-Two t c =
    two_told c.args.expr.now c.args.vars.now c.args.slots.now c.in-Two.op c.in-Two.left c.in-Two.right
    c.in_ok-x-in-Two.x c.in_ok-y-in-Two.y c.in_ok-decides-in-Two.field-0 c.combine.result c.in-Two.is
    (same_part (Ok c.in_ok-x-in-Two.x) c.deref-in-Two.result.now c.in-Two.left c.args.vars.now
    c.args.slots.now c.deref-in-Two.ensures c.in_ok-x-in-Two.ensures) c.in_ok-decides-in-Two.ensures
    c.if-branch.false
    (same_part (Ok c.in_ok-y-in-Two.y) c.deref-in-Two-2.result.now c.in-Two.right c.args.vars.now
    c.args.slots.now c.deref-in-Two-2.ensures c.in_ok-y-in-Two.ensures) c.combine.ensures
