use Rattle.std.proofs.Common.{arith, ◌∙◌, ap, take}
use Rattle.std.proofs.lemmas.Int.{to_z-of_z}
use Rattle.shape_terms.specs.Numbers.{rows_with}
use Rattle.shape_terms.proofs.RowLemmas.{row_grown, row_whole}
use Rattle.shape_terms.proofs.rows.rows_with.Goals as goal

pub loop-at-preserved : goal.loop-at-preserved
loop-at-preserved c =
    row_grown _ c.args.xs.now c.args.ys.now c.loop-at.row _ c.loop-at.at _
    (omega arith) c.loop-at.invariant c.in_ok-push.ensures.ok
    (grind (arith, to_z-of_z, c.with_times.ensures, c.coefficient.ensures, c.coefficient-in-loop-at.ensures))

pub returns : goal.returns
returns c = row_whole c.args.k c.args.xs.now c.args.ys.now c.loop-at.row c.loop-at.at (omega arith)
    (c.loop-at.invariant
    ∙ ap (λ k. take c.loop-at.at (rows_with k c.args.xs.now c.args.ys.now))
    (to_z-of_z _ c.args.k c.ranges.k))
