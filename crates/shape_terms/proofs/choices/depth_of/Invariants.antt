use Rattle.std.proofs.Common.{◌≡◌, drop}
use Rattle.shape_terms.specs.Cases.{depth_of}
use Rattle.shape_terms.proofs.choices.depth_of.Given as goal

abbrev pub invariant-loop-hint : goal.invariant-loop-hint
invariant-loop-hint l =
    depth_of l.side l.variable (drop l.hint-index l.hints) ≡ depth_of l.side l.variable l.hints
