use Rattle.shape_terms.proofs.TextLemmas.{not_in_int, not_in_bool, not_in_empty, in_name, in_neg, in_not}
use Rattle.shape_terms.proofs.TextLemmas.{in_one, in_two}
use Rattle.shape_terms.proofs.texts.+in_expression.Goals as goal

pub returns-in-Int : goal.returns-in-Int
returns-in-Int t c = not_in_int c.args.variable c.args.expr.now _ c.in-Int.is

pub returns-in-Bool : goal.returns-in-Bool
returns-in-Bool t c = not_in_bool c.args.variable c.args.expr.now _ c.in-Bool.is

pub returns-in-Empty : goal.returns-in-Empty
returns-in-Empty t c = not_in_empty c.args.variable c.args.expr.now c.in-Empty.is

pub returns-in-Name : goal.returns-in-Name
returns-in-Name t c = in_name c.args.variable c.args.expr.now _ _ c.in-Name.is c.is_variable.ensures

pub returns-in-Neg : goal.returns-in-Neg
returns-in-Neg t c =
    in_neg c.args.variable c.args.expr.now _ _ _ c.in-Neg.is c.deref.ensures c.in_expression.ensures

pub returns-in-Not : goal.returns-in-Not
returns-in-Not t c =
    in_not c.args.variable c.args.expr.now _ _ _ c.in-Not.is c.deref-in-Not.ensures
    c.in_expression-in-Not.ensures

pub returns-in-Two : goal.returns-in-Two
returns-in-Two t c =
    in_two c.args.variable c.args.expr.now _ _ _ _ _ _ _ _ c.in-Two.is c.deref-in-Two.ensures
    c.deref-in-Two-2.ensures
    c.in_expression-in-Two.ensures c.in_expression-in-Two-2.ensures c.either.ensures

pub returns-in-One : goal.returns-in-One
returns-in-One t c =
    in_one c.args.variable c.args.expr.now _ _ _ _ c.in-One.is c.deref-in-One.ensures
    c.in_expression-in-One.ensures
