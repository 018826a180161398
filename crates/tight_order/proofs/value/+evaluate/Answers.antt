use Rattle.std.proofs.Common.{rules, ◌≡◌, ℤ, neg_ℤ, List, Result, Ok, Err, sym, subst}
use Rattle.std.proofs.Common.{to_z, of_z}
use Rattle.std.specs.Int.{w64}
use Rattle.std.specs.Int.RustNames.{FitsSigned}
use Rattle.std.proofs.lemmas.Int.{to_z-of_z}
use Rattle.seuss_program.specs.declared.state.Value.{Value}
use Rattle.seuss_program.specs.declared.state.Value.TheVariants as V
use Rattle.seuss_program.specs.declared.tree.Ref.{Ref}
use Rattle.seuss_program.specs.declared.tree.Expr.{Expr}
use Rattle.seuss_program.specs.Values.{part_of, int_of, seq_of, apply, element, exact}
use Rattle.tight_order.specs.declared.stop.Stop.{Stop}
use Rattle.tight_order.specs.Answers.{Evaluates, EvaluatesNumber, HasValue, IsRead}
use Rattle.tight_order.proofs.PartLemmas.{same_part, int_value, bool_value, empty_value, name_value}
use Rattle.tight_order.proofs.PartLemmas.{not_stopped, not_value, one_stopped}
use Rattle.tight_order.proofs.PartLemmas.{one_value, left_stopped, left_decides, right_stopped, two_value}
use Rattle.tight_order.proofs.ReadLemmas.{same_read, read_stopped, int_read, name_read, minus_stopped}
use Rattle.tight_order.proofs.ReadLemmas.{minus_value, number_stopped, numbers_stopped, numbers_value}
use Rattle.tight_order.proofs.ReadLemmas.{numbers_read, place_stopped, element_value, lent_value}
use Rattle.tight_order.proofs.ReadLemmas.{computing_takes}
use Rattle.tight_order.proofs.value.+evaluate.Goals as goal

-- the answer that a `?` hands on is the one that stopped
handed_on : (r : Result Value Stop) (s : Stop) (e : Expr Ref) (vars slots : List Value) → r ≡ Err s →
    HasValue (Err s) (part_of e) vars slots → HasValue r (part_of e) vars slots
handed_on r s e vars slots same h = subst (λ (r : Result Value Stop). HasValue r (part_of e) vars slots)
    (sym same) h

-- the same of a reading
handed_read : (r : Result ℤ Stop) (s : Stop) (e : Expr Ref) (vars slots : List Value) → r ≡ Err s →
    IsRead int_of (Err s) (part_of e) vars slots → IsRead int_of r (part_of e) vars slots
handed_read r s e vars slots same h = subst (λ (r : Result ℤ Stop). IsRead int_of r (part_of e) vars slots)
    (sym same) h

pub evaluate-returns-in-Int : goal.evaluate-returns-in-Int
evaluate-returns-in-Int t c =
    let fits : FitsSigned w64 c.in-Int.z = search rules in
    subst (λ z. HasValue (Ok (V.Int z)) (part_of c.args.expr.now) c.args.vars.now c.args.slots.now)
    (sym (to_z-of_z w64 c.in-Int.z fits))
    (int_value c.args.expr.now c.args.vars.now c.args.slots.now c.in-Int.z c.in-Int.is)

pub evaluate-returns-in-Bool : goal.evaluate-returns-in-Bool
evaluate-returns-in-Bool t c = bool_value c.args.expr.now c.args.vars.now c.args.slots.now _ c.in-Bool.is

pub evaluate-returns-in-Empty : goal.evaluate-returns-in-Empty
evaluate-returns-in-Empty t c = empty_value c.args.expr.now c.args.vars.now c.args.slots.now _ c.new.ensures
    c.in-Empty.is

pub evaluate-returns-in-Name : goal.evaluate-returns-in-Name
evaluate-returns-in-Name t c = name_value c.args.expr.now c.args.vars.now c.args.slots.now _ _ c.in-Name.is
    c.lookup.ensures

pub evaluate-returns-in_err-evaluate-in-Not : goal.evaluate-returns-in_err-evaluate-in-Not
evaluate-returns-in_err-evaluate-in-Not t c =
    let same : c.from_residual-in_err-evaluate-in-Not.result ≡ Err c.in_err-evaluate-in-Not.field-0.0 =
    search rules in
    handed_on c.from_residual-in_err-evaluate-in-Not.result c.in_err-evaluate-in-Not.field-0.0
    c.args.expr.now c.args.vars.now c.args.slots.now same
    (not_stopped c.args.expr.now c.args.vars.now c.args.slots.now c.in-Not.part
    c.in_err-evaluate-in-Not.field-0.0 c.in-Not.is
    (same_part (Err c.in_err-evaluate-in-Not.field-0.0) c.deref-in-Not.result.now c.in-Not.part
    c.args.vars.now c.args.slots.now c.deref-in-Not.ensures c.in_err-evaluate-in-Not.ensures))

pub evaluate-returns-in_err-v-in-One : goal.evaluate-returns-in_err-v-in-One
evaluate-returns-in_err-v-in-One t c =
    let same : c.from_residual-in_err-v-in-One.result ≡ Err c.in_err-v-in-One.field-0.0 = search rules in
    handed_on c.from_residual-in_err-v-in-One.result c.in_err-v-in-One.field-0.0 c.args.expr.now
    c.args.vars.now c.args.slots.now same
    (one_stopped c.args.expr.now c.args.vars.now c.args.slots.now c.in-One.part c.in-One.fun
    c.in_err-v-in-One.field-0.0 c.in-One.is
    (same_part (Err c.in_err-v-in-One.field-0.0) c.deref-in-One-2.result.now c.in-One.part c.args.vars.now
    c.args.slots.now c.deref-in-One-2.ensures c.in_err-v-in-One.ensures))

pub evaluate-returns-in_err-x-in-Two : goal.evaluate-returns-in_err-x-in-Two
evaluate-returns-in_err-x-in-Two t c =
    let same : c.from_residual-in_err-x-in-Two.result ≡ Err c.in_err-x-in-Two.field-0.0 = search rules in
    handed_on c.from_residual-in_err-x-in-Two.result c.in_err-x-in-Two.field-0.0 c.args.expr.now
    c.args.vars.now c.args.slots.now same
    (left_stopped c.args.expr.now c.args.vars.now c.args.slots.now c.in-Two.op c.in-Two.left c.in-Two.right
    c.in_err-x-in-Two.field-0.0 c.in-Two.is
    (same_part (Err c.in_err-x-in-Two.field-0.0) c.deref-in-Two-2.result.now c.in-Two.left c.args.vars.now
    c.args.slots.now c.deref-in-Two-2.ensures c.in_err-x-in-Two.ensures))

pub evaluate-returns-in_err-y-in-Two : goal.evaluate-returns-in_err-y-in-Two
evaluate-returns-in_err-y-in-Two t c =
    let same : c.from_residual-in_err-y-in-Two.result ≡ Err c.in_err-y-in-Two.field-0.0 = search rules in
    handed_on c.from_residual-in_err-y-in-Two.result c.in_err-y-in-Two.field-0.0 c.args.expr.now
    c.args.vars.now c.args.slots.now same
    (right_stopped c.args.expr.now c.args.vars.now c.args.slots.now c.in-Two.op c.in-Two.left c.in-Two.right
    c.in_ok-x-in-Two.x c.truth-in-Two.result c.in_err-y-in-Two.field-0.0 c.in-Two.is
    (same_part (Ok c.in_ok-x-in-Two.x) c.deref-in-Two-2.result.now c.in-Two.left c.args.vars.now
    c.args.slots.now c.deref-in-Two-2.ensures c.in_ok-x-in-Two.ensures) (sym c.if-is_decided.ensures)
    c.truth-in-Two.ensures
    (same_part (Err c.in_err-y-in-Two.field-0.0) c.deref-in-Two-3.result.now c.in-Two.right
    c.args.vars.now c.args.slots.now c.deref-in-Two-3.ensures c.in_err-y-in-Two.ensures))

pub evaluate-returns-in_ok-evaluate-in-Not : goal.evaluate-returns-in_ok-evaluate-in-Not
evaluate-returns-in_ok-evaluate-in-Not t c =
    not_value c.args.expr.now c.args.vars.now c.args.slots.now c.in-Not.part c.in_ok-evaluate-in-Not.field-0
    c.truth.result c.in-Not.is
    (same_part (Ok c.in_ok-evaluate-in-Not.field-0) c.deref-in-Not.result.now c.in-Not.part
    c.args.vars.now c.args.slots.now c.deref-in-Not.ensures c.in_ok-evaluate-in-Not.ensures)
    c.truth.ensures

pub evaluate-returns-then-is_decided : goal.evaluate-returns-then-is_decided
evaluate-returns-then-is_decided t c =
    left_decides c.args.expr.now c.args.vars.now c.args.slots.now c.in-Two.op c.in-Two.left c.in-Two.right
    c.in_ok-x-in-Two.x c.truth-in-Two.result c.truth-then-is_decided.result c.in-Two.is
    (same_part (Ok c.in_ok-x-in-Two.x) c.deref-in-Two-2.result.now c.in-Two.left c.args.vars.now
    c.args.slots.now c.deref-in-Two-2.ensures c.in_ok-x-in-Two.ensures) (sym c.if-is_decided.ensures)
    c.truth-in-Two.ensures c.truth-then-is_decided.ensures

pub evaluate-returns-in_ok-y-in-Two : goal.evaluate-returns-in_ok-y-in-Two
evaluate-returns-in_ok-y-in-Two t c =
    two_value c.args.expr.now c.args.vars.now c.args.slots.now c.in-Two.op c.in-Two.left c.in-Two.right
    c.in_ok-x-in-Two.x c.in_ok-y-in-Two.y c.truth-in-Two.result c.combine.result c.in-Two.is
    (same_part (Ok c.in_ok-x-in-Two.x) c.deref-in-Two-2.result.now c.in-Two.left c.args.vars.now
    c.args.slots.now c.deref-in-Two-2.ensures c.in_ok-x-in-Two.ensures) (sym c.if-is_decided.ensures)
    c.truth-in-Two.ensures
    (same_part (Ok c.in_ok-y-in-Two.y) c.deref-in-Two-3.result.now c.in-Two.right c.args.vars.now
    c.args.slots.now c.deref-in-Two-3.ensures c.in_ok-y-in-Two.ensures) c.combine.ensures

pub evaluate-returns-in_ok-v-in-One : goal.evaluate-returns-in_ok-v-in-One
evaluate-returns-in_ok-v-in-One t c =
    one_value c.args.expr.now c.args.vars.now c.args.slots.now c.in-One.part c.in-One.fun c.in_ok-v-in-One.v
    c.sequence.result c.of_sequence.result c.in-One.is
    (same_part (Ok c.in_ok-v-in-One.v) c.deref-in-One-2.result.now c.in-One.part c.args.vars.now
    c.args.slots.now c.deref-in-One-2.ensures c.in_ok-v-in-One.ensures) c.sequence.ensures
    c.of_sequence.ensures.value c.of_sequence.ensures.beside

pub evaluate-returns-in_err-number_in-in-Neg : goal.evaluate-returns-in_err-number_in-in-Neg
evaluate-returns-in_err-number_in-in-Neg t c =
    let same : c.from_residual.result ≡ Err c.in_err-number_in-in-Neg.field-0.0 = search rules in
    handed_on c.from_residual.result c.in_err-number_in-in-Neg.field-0.0 c.args.expr.now c.args.vars.now
    c.args.slots.now same
    (minus_stopped c.args.expr.now c.args.vars.now c.args.slots.now c.in-Neg.part c.in-Neg.is
    c.in_err-number_in-in-Neg.field-0.0
    (same_read int_of (Err c.in_err-number_in-in-Neg.field-0.0) c.deref.result.now c.in-Neg.part
    c.args.vars.now c.args.slots.now c.deref.ensures c.in_err-number_in-in-Neg.ensures))

pub evaluate-returns-in_ok-number_in-in-Neg : goal.evaluate-returns-in_ok-number_in-in-Neg
evaluate-returns-in_ok-number_in-in-Neg t c =
    let fits : FitsSigned w64 c.in_ok-number_in-in-Neg.field-0 = search rules in
    minus_value c.args.expr.now c.args.vars.now c.args.slots.now c.in-Neg.part c.in-Neg.is
    c.in_ok-number_in-in-Neg.field-0
    c.negated.result
    (same_read int_of (Ok c.in_ok-number_in-in-Neg.field-0) c.deref.result.now c.in-Neg.part
    c.args.vars.now c.args.slots.now c.deref.ensures c.in_ok-number_in-in-Neg.ensures)
    (subst (λ (z : ℤ). Evaluates c.negated.result (exact (neg_ℤ z)))
    (to_z-of_z w64 c.in_ok-number_in-in-Neg.field-0 fits) c.negated.ensures)

pub evaluate-returns-in_err-a-in-Two : goal.evaluate-returns-in_err-a-in-Two
evaluate-returns-in_err-a-in-Two t c =
    let same : c.from_residual-in_err-a-in-Two.result ≡ Err c.in_err-a-in-Two.field-0.0 = search rules in
    handed_on c.from_residual-in_err-a-in-Two.result c.in_err-a-in-Two.field-0.0 c.args.expr.now
    c.args.vars.now
    c.args.slots.now same
    (number_stopped c.args.expr.now c.args.vars.now c.args.slots.now c.in-Two.op c.in-Two.left
    c.in-Two.right c.in-Two.is
    c.in_err-a-in-Two.field-0.0
    (same_read int_of (Err c.in_err-a-in-Two.field-0.0) c.deref-then-is_of_numbers.result.now c.in-Two.left
    c.args.vars.now c.args.slots.now c.deref-then-is_of_numbers.ensures c.in_err-a-in-Two.ensures))

pub evaluate-returns-in_err-b-in-Two : goal.evaluate-returns-in_err-b-in-Two
evaluate-returns-in_err-b-in-Two t c =
    let same : c.from_residual-in_err-b-in-Two.result ≡ Err c.in_err-b-in-Two.field-0.0 = search rules in
    handed_on c.from_residual-in_err-b-in-Two.result c.in_err-b-in-Two.field-0.0 c.args.expr.now
    c.args.vars.now
    c.args.slots.now same
    (numbers_stopped c.args.expr.now c.args.vars.now c.args.slots.now c.in-Two.op c.in-Two.left
    c.in-Two.right c.in-Two.is
    (sym c.if-is_of_numbers.ensures) c.in_ok-a-in-Two.a
    (same_read int_of (Ok c.in_ok-a-in-Two.a) c.deref-then-is_of_numbers.result.now c.in-Two.left
    c.args.vars.now c.args.slots.now c.deref-then-is_of_numbers.ensures c.in_ok-a-in-Two.ensures)
    c.in_err-b-in-Two.field-0.0
    (same_read int_of (Err c.in_err-b-in-Two.field-0.0) c.deref-then-is_of_numbers-2.result.now
    c.in-Two.right
    c.args.vars.now c.args.slots.now c.deref-then-is_of_numbers-2.ensures c.in_err-b-in-Two.ensures))

pub evaluate-returns-then-is_of_numbers : goal.evaluate-returns-then-is_of_numbers
evaluate-returns-then-is_of_numbers t c =
    let left : FitsSigned w64 c.in_ok-a-in-Two.a = search rules in
    let right : FitsSigned w64 c.in_ok-b-in-Two.b = search rules in
    numbers_value c.args.expr.now c.args.vars.now c.args.slots.now c.in-Two.op c.in-Two.left
    c.in-Two.right c.in-Two.is
    (sym c.if-is_of_numbers.ensures) c.in_ok-a-in-Two.a
    (same_read int_of (Ok c.in_ok-a-in-Two.a) c.deref-then-is_of_numbers.result.now c.in-Two.left
    c.args.vars.now c.args.slots.now c.deref-then-is_of_numbers.ensures c.in_ok-a-in-Two.ensures)
    c.in_ok-b-in-Two.b c.combine_numbers.result
    (same_read int_of (Ok c.in_ok-b-in-Two.b) c.deref-then-is_of_numbers-2.result.now c.in-Two.right
    c.args.vars.now c.args.slots.now c.deref-then-is_of_numbers-2.ensures c.in_ok-b-in-Two.ensures)
    (subst (λ (y : ℤ). Evaluates c.combine_numbers.result
    (apply c.in-Two.op (V.Int c.in_ok-a-in-Two.a) (V.Int y)))
    (to_z-of_z w64 c.in_ok-b-in-Two.b right)
    (subst (λ (x : ℤ). Evaluates c.combine_numbers.result
    (apply c.in-Two.op (V.Int x) (V.Int (to_z w64 (of_z w64 c.in_ok-b-in-Two.b)))))
    (to_z-of_z w64 c.in_ok-a-in-Two.a left) c.combine_numbers.ensures))

pub evaluate-returns-in_err-at-in-Two : goal.evaluate-returns-in_err-at-in-Two
evaluate-returns-in_err-at-in-Two t c =
    let same : c.from_residual-in_err-at-in-Two.result ≡ Err c.in_err-at-in-Two.field-0.0 = search rules in
    handed_on c.from_residual-in_err-at-in-Two.result c.in_err-at-in-Two.field-0.0 c.args.expr.now
    c.args.vars.now
    c.args.slots.now same
    (place_stopped c.args.expr.now c.args.vars.now c.args.slots.now c.in-Two.op c.in-Two.left
    c.in-Two.right c.in-Two.is
    c.in-Some.ensures.0 c.in-Some.zs.now
    (same_read seq_of (Ok c.in-Some.zs.now) c.deref-in-Two.result.now c.in-Two.left
    c.args.vars.now c.args.slots.now c.deref-in-Two.ensures c.in-Some.ensures.1)
    c.in_err-at-in-Two.field-0.0
    (same_read int_of (Err c.in_err-at-in-Two.field-0.0) c.deref-in-Some.result.now c.in-Two.right
    c.args.vars.now c.args.slots.now c.deref-in-Some.ensures c.in_err-at-in-Two.ensures))

pub evaluate-returns-in-Some : goal.evaluate-returns-in-Some
evaluate-returns-in-Some t c =
    let fits : FitsSigned w64 c.in_ok-at-in-Two.at = search rules in
    element_value c.args.expr.now c.args.vars.now c.args.slots.now c.in-Two.op c.in-Two.left
    c.in-Two.right c.in-Two.is
    c.in-Some.ensures.0 c.in-Some.zs.now
    (same_read seq_of (Ok c.in-Some.zs.now) c.deref-in-Two.result.now c.in-Two.left
    c.args.vars.now c.args.slots.now c.deref-in-Two.ensures c.in-Some.ensures.1)
    c.in_ok-at-in-Two.at c.element_at.result
    (same_read int_of (Ok c.in_ok-at-in-Two.at) c.deref-in-Some.result.now c.in-Two.right
    c.args.vars.now c.args.slots.now c.deref-in-Some.ensures c.in_ok-at-in-Two.ensures)
    (subst (λ (n : ℤ). Evaluates c.element_at.result (element c.in-Some.zs.now n))
    (to_z-of_z w64 c.in_ok-at-in-Two.at fits) c.element_at.ensures)

pub evaluate-returns-in-Some-lent : goal.evaluate-returns-in-Some-lent
evaluate-returns-in-Some-lent t c =
    lent_value c.args.expr.now c.args.vars.now c.args.slots.now c.in-One.fun c.in-One.part
    c.in-Some-lent.zs.now
    c.of_lent.result c.in-One.is
    (same_read seq_of (Ok c.in-Some-lent.zs.now) c.deref-in-One.result.now c.in-One.part
    c.args.vars.now c.args.slots.now c.deref-in-One.ensures c.in-Some-lent.ensures)
    c.of_lent.ensures.value c.of_lent.ensures.beside

pub number_in-returns-in-Int : goal.number_in-returns-in-Int
number_in-returns-in-Int t c =
    let fits : FitsSigned w64 c.in-Int.z = search rules in
    subst (λ z. IsRead int_of (Ok z) (part_of c.args.expr.now) c.args.vars.now c.args.slots.now)
    (sym (to_z-of_z w64 c.in-Int.z fits)) (int_read c.args.expr.now c.args.vars.now c.args.slots.now
    c.in-Int.z c.in-Int.is)

pub number_in-returns-in-Name : goal.number_in-returns-in-Name
number_in-returns-in-Name t c =
    let fits : FitsSigned w64 c.number_named.result = search rules in
    subst (λ z. IsRead int_of (Ok z) (part_of c.args.expr.now) c.args.vars.now c.args.slots.now)
    (sym (to_z-of_z w64 c.number_named.result fits))
    (name_read c.args.expr.now c.args.vars.now c.args.slots.now c.in-Name.name c.number_named.result
    c.in-Name.is
    c.number_named.ensures)

pub number_in-returns-in_err-x-in-Two : goal.number_in-returns-in_err-x-in-Two
number_in-returns-in_err-x-in-Two t c =
    let same : c.from_residual.result ≡ Err c.in_err-x-in-Two.field-0.0 = search rules in
    handed_read c.from_residual.result c.in_err-x-in-Two.field-0.0 c.args.expr.now c.args.vars.now
    c.args.slots.now same
    (read_stopped int_of (part_of c.args.expr.now) c.args.vars.now c.args.slots.now
    c.in_err-x-in-Two.field-0.0
    (number_stopped c.args.expr.now c.args.vars.now c.args.slots.now c.in-Two.op c.in-Two.left
    c.in-Two.right c.in-Two.is
    c.in_err-x-in-Two.field-0.0
    (same_read int_of (Err c.in_err-x-in-Two.field-0.0) c.deref.result.now c.in-Two.left
    c.args.vars.now c.args.slots.now c.deref.ensures c.in_err-x-in-Two.ensures)))

pub number_in-returns-in_err-y-in-Two : goal.number_in-returns-in_err-y-in-Two
number_in-returns-in_err-y-in-Two t c =
    let same : c.from_residual-in_err-y-in-Two.result ≡ Err c.in_err-y-in-Two.field-0.0 = search rules in
    handed_read c.from_residual-in_err-y-in-Two.result c.in_err-y-in-Two.field-0.0 c.args.expr.now
    c.args.vars.now
    c.args.slots.now same
    (read_stopped int_of (part_of c.args.expr.now) c.args.vars.now c.args.slots.now
    c.in_err-y-in-Two.field-0.0
    (numbers_stopped c.args.expr.now c.args.vars.now c.args.slots.now c.in-Two.op c.in-Two.left
    c.in-Two.right c.in-Two.is
    (computing_takes c.in-Two.op (sym c.if-is_computing.ensures)) c.in_ok-x-in-Two.x
    (same_read int_of (Ok c.in_ok-x-in-Two.x) c.deref.result.now c.in-Two.left
    c.args.vars.now c.args.slots.now c.deref.ensures c.in_ok-x-in-Two.ensures)
    c.in_err-y-in-Two.field-0.0
    (same_read int_of (Err c.in_err-y-in-Two.field-0.0) c.deref-then-is_computing.result.now c.in-Two.right
    c.args.vars.now c.args.slots.now c.deref-then-is_computing.ensures c.in_err-y-in-Two.ensures)))

pub number_in-returns-then-is_computing : goal.number_in-returns-then-is_computing
number_in-returns-then-is_computing t c =
    let left : FitsSigned w64 c.in_ok-x-in-Two.x = search rules in
    let right : FitsSigned w64 c.in_ok-y-in-Two.y = search rules in
    numbers_read c.args.expr.now c.args.vars.now c.args.slots.now c.in-Two.op c.in-Two.left
    c.in-Two.right c.in-Two.is
    (computing_takes c.in-Two.op (sym c.if-is_computing.ensures)) c.in_ok-x-in-Two.x
    (same_read int_of (Ok c.in_ok-x-in-Two.x) c.deref.result.now c.in-Two.left
    c.args.vars.now c.args.slots.now c.deref.ensures c.in_ok-x-in-Two.ensures)
    c.in_ok-y-in-Two.y c.computed.result
    (same_read int_of (Ok c.in_ok-y-in-Two.y) c.deref-then-is_computing.result.now c.in-Two.right
    c.args.vars.now c.args.slots.now c.deref-then-is_computing.ensures c.in_ok-y-in-Two.ensures)
    (subst (λ (y : ℤ). EvaluatesNumber c.computed.result
    (apply c.in-Two.op (V.Int c.in_ok-x-in-Two.x) (V.Int y)))
    (to_z-of_z w64 c.in_ok-y-in-Two.y right)
    (subst (λ (x : ℤ). EvaluatesNumber c.computed.result
    (apply c.in-Two.op (V.Int x) (V.Int (to_z w64 (of_z w64 c.in_ok-y-in-Two.y)))))
    (to_z-of_z w64 c.in_ok-x-in-Two.x left) c.computed.ensures))
