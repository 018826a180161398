-- Whether the numbers of an expression have 64 bits, by its parts.
use Rattle.std.specs.Prelude.{◌≡◌, Bool, true, false, ◌&&◌}
use Rattle.std.proofs.Common.{refl}
use Rattle.seuss_program.specs.declared.tree.Name.{Name}
use Rattle.seuss_program.specs.declared.tree.Expr.{Expr, fold_out-Expr}
use Rattle.seuss_program.specs.declared.tree.Node.{Node, fold-Node, fold-roll-Node, map-Node, roll-Node}
use Rattle.seuss_program.specs.declared.tree.Node.TheOpen.{Node-F}
use Rattle.seuss_program.specs.WellFormed.{node_numbers, has_numbers}

-- what holds of two parts holds of each
pub both : (a b : Bool) → (a && b) ≡ true → (a ≡ true) × (b ≡ true)
both true b h = (refl, h)
both false b h = absurd (cc)

-- whether the numbers of a node have 64 bits
pub numbers_of : Node Name → Bool
numbers_of n = fold-Node Name Bool Bool node_numbers (λ layer. layer.node) n

-- an expression is as its node
pub numbers-expr : (e : Expr Name) → has_numbers e ≡ numbers_of e.node
unfolding has_numbers numbers_of
numbers-expr e = fold_out-Expr Name Bool Bool node_numbers (λ layer. layer.node) e

-- a node by its layer
pub numbers-roll : (d : Node-F Name (Node Name) (Expr Name)) →
    numbers_of (roll-Node Name d) ≡ node_numbers
    (map-Node Name (Node Name) (Expr Name) Bool Bool numbers_of has_numbers d)
unfolding has_numbers numbers_of
numbers-roll d = fold-roll-Node Name Bool Bool node_numbers (λ layer. layer.node) d
