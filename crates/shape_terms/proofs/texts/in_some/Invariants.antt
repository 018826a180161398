use Rattle.std.proofs.Common.{◌≡◌, drop}
use Rattle.shape_terms.specs.Texts.{in_some}
use Rattle.shape_terms.proofs.texts.in_some.Given as goal

abbrev pub invariant-loop-expr : goal.invariant-loop-expr
invariant-loop-expr l = in_some l.variable (drop l.expr-index l.exprs) ≡ in_some l.variable l.exprs
