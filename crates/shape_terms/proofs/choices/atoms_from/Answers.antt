use Rattle.std.proofs.Common.{arith}
use Rattle.shape_terms.proofs.CaseLemmas.{one_more, atoms_grown}
use Rattle.shape_terms.proofs.choices.atoms_from.Goals as goal

pub loop-at-preserved : goal.loop-at-preserved
loop-at-preserved c =
    one_more _ _ _ _ _ _ c.in_ok-push.ensures.ok c.in_ok-atom.ensures.form c.loop-at.invariant
    (atoms_grown c.args.first c.loop-at.at (omega arith))
