use Rattle.std.proofs.Common.{◌∙◌, ap}
use Rattle.shape_terms.specs.declared.shape.Shape.TheVariants.{Exact}
use Rattle.shape_terms.specs.declared.symbol.Symbol.TheVariants.{Sequence}
use Rattle.shape_terms.proofs.CaseLemmas.{one_more, exact_grown}
use Rattle.shape_terms.proofs.choices.sequence_choices.Goals as goal

pub loop-length-preserved : goal.loop-length-preserved
loop-length-preserved c =
    one_more _ _ _ _ _ _ c.in_ok-push.ensures.ok
    (ap Sequence (c.exact.ensures ∙ ap Exact c.in_ok-forms.ensures))
    c.loop-length.invariant (exact_grown c.args.place c.loop-length.length)
