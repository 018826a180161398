use Rattle.std.proofs.Common.{◌∙◌, sym, ap, ◌++◌}
use Rattle.safety_check.specs.Texts.{expr_names}
use Rattle.safety_judge.proofs.Growth.{unchanged, grown, grown-twice}
use Rattle.safety_judge.proofs.TextNodes.{names-int, names-bool, names-empty, names-name, names-neg}
use Rattle.safety_judge.proofs.TextNodes.{names-not, names-one, names-two}
use Rattle.safety_judge.proofs.seen.+add_names.Goals as goal

pub returns-in-Int : goal.returns-in-Int
returns-in-Int t c = unchanged c.args.names.now _ (names-int c.args.expr.now _ c.in-Int.is)

pub returns-in-Bool : goal.returns-in-Bool
returns-in-Bool t c = unchanged c.args.names.now _ (names-bool c.args.expr.now _ c.in-Bool.is)

pub returns-in-Empty : goal.returns-in-Empty
returns-in-Empty t c = unchanged c.args.names.now _ (names-empty c.args.expr.now c.in-Empty.is)

pub returns-in-Name : goal.returns-in-Name
returns-in-Name t c = grown c.push.result c.args.names.now c.push.new.self _ _
    (sym (names-name c.args.expr.now _ c.in-Name.is)) c.push.ensures.ok

pub returns-in-Neg : goal.returns-in-Neg
returns-in-Neg t c = grown c.add_names.result c.args.names.now c.add_names.new.names _ _
    (ap expr_names c.deref.ensures ∙ sym (names-neg c.args.expr.now _ c.in-Neg.is)) c.add_names.ensures

pub returns-in-Not : goal.returns-in-Not
returns-in-Not t c = grown c.add_names-in-Not.result c.args.names.now c.add_names-in-Not.new.names _ _
    (ap expr_names c.deref-in-Not.ensures ∙ sym (names-not c.args.expr.now _ c.in-Not.is))
    c.add_names-in-Not.ensures

pub returns-in-One : goal.returns-in-One
returns-in-One t c = grown c.add_names-in-One.result c.args.names.now c.add_names-in-One.new.names _ _
    (ap expr_names c.deref-in-One.ensures ∙ sym (names-one c.args.expr.now _ _ c.in-One.is))
    c.add_names-in-One.ensures

pub returns-in_ok-add_names-in-Two : goal.returns-in_ok-add_names-in-Two
returns-in_ok-add_names-in-Two t c =
    grown-twice c.add_names-in-Two-2.result c.args.names.now c.add_names-in-Two.new.names
    c.add_names-in-Two-2.new.names _ _ _ c.in_ok-add_names-in-Two.ensures
    (ap (λ e. expr_names e ++ expr_names c.deref-in-Two-2.result.now) c.deref-in-Two.ensures
    ∙ (ap (λ e. expr_names c.in-Two.left ++ expr_names e) c.deref-in-Two-2.ensures
    ∙ sym (names-two c.args.expr.now _ _ _ c.in-Two.is)))
    c.add_names-in-Two-2.ensures
