-- Whether the numbers of an expression and of a statement have 64 bits, by its parts.
use Rattle.std.specs.Prelude.{◌≡◌, Bool, ◌&&◌, List, [], ◌∷◌}
use Rattle.std.proofs.Common.{refl, sym, ap, ◌∙◌}
use Rattle.seuss_program.specs.declared.tree.Name.{Name}
use Rattle.seuss_program.specs.declared.tree.Expr.{Expr}
use Rattle.seuss_program.specs.declared.tree.Node.{Node, map-Node, roll-Node}
use Rattle.seuss_program.specs.declared.tree.Node.TheOpen.{Node-F}
use Rattle.seuss_program.specs.declared.tree.Statement.{Statement, fold-roll-Statement, map-Statement}
use Rattle.seuss_program.specs.declared.tree.Statement.{roll-Statement}
use Rattle.seuss_program.specs.declared.tree.Statement.TheOpen.{Statement-F}
use Rattle.seuss_program.specs.Keeping.{all_true}
use Rattle.seuss_program.specs.WellFormed.{node_numbers, has_numbers, numbers_step, statement_numbers}
use Rattle.seuss_program.specs.WellFormed.{body_numbers}
use Rattle.box_types.proofs.ExpressionNumbers.{numbers_of, numbers-expr, numbers-roll}
use Rattle.call_order.proofs.StatementLayers.{each}

-- an expression by the layer of its node
pub numbers-by : (e : Expr Name) (d : Node-F Name (Node Name) (Expr Name)) → roll-Node Name d ≡ e.node →
    has_numbers e ≡ node_numbers
    (map-Node Name (Node Name) (Expr Name) Bool Bool numbers_of has_numbers d)
numbers-by e d h = numbers-expr e ∙ (ap numbers_of (sym h) ∙ numbers-roll d)

-- a statement by its layer
pub statement-roll : (d : Statement-F Name (Statement Name)) →
    statement_numbers (roll-Statement Name d) ≡ numbers_step
    (map-Statement Name (Statement Name) Bool statement_numbers d)
unfolding statement_numbers
statement-roll d = fold-roll-Statement Name Bool numbers_step d

-- the statements inside a statement are a body
pub each-numbers : (ss : List (Statement Name)) → all_true (each statement_numbers ss) ≡ body_numbers ss
each-numbers [] = refl
each-numbers (s ∷ ss) = ap (λ t. statement_numbers s && t) (each-numbers ss)
