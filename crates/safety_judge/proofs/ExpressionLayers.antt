-- What an expression comes to, by its node.
use Rattle.std.proofs.Common.{◌≡◌, sym, ap, ◌∙◌}
use Rattle.seuss_program.specs.declared.tree.Ref.{Ref}
use Rattle.seuss_program.specs.declared.tree.Node.{Node, fold-Node, fold-roll-Node, map-Node, roll-Node}
use Rattle.seuss_program.specs.declared.tree.Node.TheOpen.{Node-F}
use Rattle.seuss_program.specs.declared.tree.Expr.{Expr, fold-Expr, fold_out-Expr}

module _ (M : Type 0) (step : Node-F Ref M M → M) where
  -- what an expression comes to
  abbrev pub of_expr : Expr Ref → M
  of_expr e = fold-Expr Ref M M step (λ layer. layer.node) e

  -- what a node comes to
  abbrev pub of_node : Node Ref → M
  of_node n = fold-Node Ref M M step (λ layer. layer.node) n

  -- an expression comes to what its layer does
  pub at-layer : (e : Expr Ref) (n : Node Ref) (d : Node-F Ref (Node Ref) (Expr Ref)) → e.node ≡ n →
      roll-Node Ref d ≡ n →
      of_expr e ≡ step (map-Node Ref (Node Ref) (Expr Ref) M M of_node of_expr d)
  at-layer e n d is rolls = fold_out-Expr Ref M M step (λ layer. layer.node) e
      ∙ (ap of_node (is ∙ sym rolls) ∙ fold-roll-Node Ref M M step (λ layer. layer.node) d)
