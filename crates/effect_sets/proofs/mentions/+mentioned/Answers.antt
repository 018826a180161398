use Rattle.std.proofs.Common.{◌∙◌, ap}
use Rattle.std.specs.Prelude.{bit_or}
use Rattle.effect_sets.specs.Masks.{mask}
use Rattle.effect_sets.proofs.Masking.{int_mask, bool_mask, empty_mask, named_mask, neg_mask, not_mask}
use Rattle.effect_sets.proofs.Masking.{two_mask, one_mask}
use Rattle.effect_sets.proofs.mentions.+mentioned.Goals as goal

pub returns-in-Int : goal.returns-in-Int
returns-in-Int t c = int_mask c.args.expr.now _ c.in-Int.is

pub returns-in-Bool : goal.returns-in-Bool
returns-in-Bool t c = bool_mask c.args.expr.now _ c.in-Bool.is

pub returns-in-Empty : goal.returns-in-Empty
returns-in-Empty t c = empty_mask c.args.expr.now c.in-Empty.is

pub returns-in-Name : goal.returns-in-Name
returns-in-Name t c = c.named.ensures ∙ named_mask c.args.expr.now _ c.in-Name.is

pub returns-in-Neg : goal.returns-in-Neg
returns-in-Neg t c = c.mentioned.ensures ∙ (ap mask c.deref.ensures ∙ neg_mask c.args.expr.now _ c.in-Neg.is)

pub returns-in-Not : goal.returns-in-Not
returns-in-Not t c = c.mentioned-in-Not.ensures
    ∙ (ap mask c.deref-in-Not.ensures ∙ not_mask c.args.expr.now _ c.in-Not.is)

pub returns-in-Two : goal.returns-in-Two
returns-in-Two t c =
    ap (λ l. bit_or l c.mentioned-in-Two-2.result)
    (c.mentioned-in-Two.ensures ∙ ap mask c.deref-in-Two.ensures)
    ∙ (ap (λ r. bit_or (mask c.in-Two.left) r)
    (c.mentioned-in-Two-2.ensures ∙ ap mask c.deref-in-Two-2.ensures)
    ∙ two_mask c.args.expr.now _ c.in-Two.left c.in-Two.right c.in-Two.is)

pub returns-in-One : goal.returns-in-One
returns-in-One t c = c.mentioned-in-One.ensures
    ∙ (ap mask c.deref-in-One.ensures ∙ one_mask c.args.expr.now _ _ c.in-One.is)
