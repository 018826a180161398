-- How each form of an expression is printed, and what it is without its lines.
use Rattle.std.proofs.Common.{◌≡◌, ℕ, ℤ, Bool, [], ◌∷◌, sym, ap, ◌∙◌}
use Rattle.seuss_parser.specs.Trees as G
use Rattle.seuss_parser.specs.declared.symbol.Symbol.TheVariants as S
use Rattle.seuss_program.specs.declared.tree.Name.{Name}
use Rattle.seuss_program.specs.declared.tree.Op.{Op}
use Rattle.seuss_program.specs.declared.tree.Fun.{Fun}
use Rattle.seuss_program.specs.declared.tree.Expr.{Expr, Expr-F, fold-Expr, fold_out-Expr}
use Rattle.seuss_program.specs.declared.tree.Node.{Node, Node-F, fold-Node, fold-roll-Node, map-Node}
use Rattle.seuss_program.specs.declared.tree.Node.{roll-Node}
use Rattle.seuss_program.specs.declared.tree.Node.TheOpen as L
use Rattle.seuss_program.specs.declared.tree.Node.TheVariants as N
use Rattle.seuss_program.specs.declared.tree.Node.TheVariants.{rolls-Int, rolls-Bool, rolls-Empty}
use Rattle.seuss_program.specs.declared.tree.Node.TheVariants.{rolls-Name, rolls-Neg, rolls-Not, rolls-Two}
use Rattle.seuss_program.specs.declared.tree.Node.TheVariants.{rolls-One}
use Rattle.seuss_print.specs.Items.{Space, symbol, named, number, bracketed}
use Rattle.seuss_print.specs.Expressions.{Printed, printed, node_step, at_level, two_items, op_level}
use Rattle.seuss_print.specs.Expressions.{fun_symbol, truth_symbol, primary, minus_level, not_level}
use Rattle.seuss_print.specs.Lines as F

module _ {A B : Type 0} (step : Node-F Name A B → A) (out : Expr-F Name A B → B) where
  unfoldable pub folded : Expr Name → B
  folded e = fold-Expr Name A B step out e

  -- a fold at each form, by one layer
  pub at-layer : (line : ℕ) (n : Node Name) (d : Node-F Name (Node Name) (Expr Name)) →
      n ≡ roll-Node Name d →
      folded (G.expression line n) ≡ out
      (record {
        line = line;
        node = step
            (map-Node Name (Node Name) (Expr Name) A B (fold-Node Name A B step out)
            (fold-Expr Name A B step out) d);
      })
  unfolding folded
  at-layer line n d h =
      fold_out-Expr Name A B step out (G.expression line n)
      ∙ ap (λ a. out (record { line = line; node = a }))
      (ap (fold-Node Name A B step out) h ∙ fold-roll-Node Name A B step out d)

module _ (line : ℕ) where
  pub printed-Int : (z : _) → printed (G.expression line (N.Int z)) ≡ primary (number z ∷ [])
  unfolding printed folded
  printed-Int z = at-layer node_step (λ layer. layer.node) line (N.Int z) (L.Int z) (sym (rolls-Int z))

  pub printed-Bool : (b : Bool) → printed (G.expression line (N.Bool b))
      ≡ primary (symbol (truth_symbol b) ∷ [])
  unfolding printed folded
  printed-Bool b = at-layer node_step (λ layer. layer.node) line (N.Bool b) (L.Bool b) (sym (rolls-Bool b))

  pub printed-Empty : printed (G.expression line N.Empty)
      ≡ primary (symbol S.OpenSquare ∷ symbol S.CloseSquare ∷ [])
  unfolding printed folded
  printed-Empty = at-layer node_step (λ layer. layer.node) line N.Empty L.Empty (sym rolls-Empty)

  pub printed-Name : (n : Name) → printed (G.expression line (N.Name n)) ≡ primary (named n ∷ [])
  unfolding printed folded
  printed-Name n = at-layer node_step (λ layer. layer.node) line (N.Name n) (L.Name n) (sym (rolls-Name n))

  pub printed-Neg : (e : Expr Name) → printed (G.expression line (N.Neg e))
      ≡ record { level = minus_level; items = symbol S.Minus ∷ at_level minus_level (printed e) }
  unfolding printed folded
  printed-Neg e = at-layer node_step (λ layer. layer.node) line (N.Neg e) (L.Neg e) (sym (rolls-Neg e))

  pub printed-Not : (e : Expr Name) → printed (G.expression line (N.Not e))
      ≡ record { level = not_level; items = symbol S.Not ∷ Space ∷ at_level not_level (printed e) }
  unfolding printed folded
  printed-Not e = at-layer node_step (λ layer. layer.node) line (N.Not e) (L.Not e) (sym (rolls-Not e))

  pub printed-Two : (op : Op) (l r : Expr Name) →
      printed (G.expression line (N.Two op l r)) ≡ record
      { level = op_level op; items = two_items op (printed l) (printed r) }
  unfolding printed folded
  printed-Two op l r = at-layer node_step (λ layer. layer.node) line (N.Two op l r) (L.Two op l r)
      (sym (rolls-Two op l r))

  pub printed-One : (fun : Fun) (e : Expr Name) →
      printed (G.expression line (N.One fun e)) ≡ primary
      (symbol (fun_symbol fun) ∷ bracketed (printed e).items)
  unfolding printed folded
  printed-One fun e = at-layer node_step (λ layer. layer.node) line (N.One fun e) (L.One fun e)
      (sym (rolls-One fun e))

  -- the line doesn't matter
  pub printed-line : (other : ℕ) (n : Node Name) →
      printed (G.expression line n) ≡ printed (G.expression other n)
  unfolding printed
  printed-line other n =
      fold_out-Expr Name Printed Printed node_step (λ layer. layer.node) (G.expression line n)
      ∙ sym (fold_out-Expr Name Printed Printed node_step (λ layer. layer.node) (G.expression other n))

module _ (line : ℕ) where
  pub kept-Int : (z : ℤ) → F.expression (G.expression line (N.Int z)) ≡ G.expression 0 (N.Int z)
  unfolding F.expression folded
  kept-Int z = at-layer F.node_step (λ layer. record { line = 0; node = layer.node }) line (N.Int z)
      (L.Int z) (sym (rolls-Int z))

  pub kept-Bool : (b : Bool) → F.expression (G.expression line (N.Bool b)) ≡ G.expression 0 (N.Bool b)
  unfolding F.expression folded
  kept-Bool b = at-layer F.node_step (λ layer. record { line = 0; node = layer.node }) line (N.Bool b)
      (L.Bool b) (sym (rolls-Bool b))

  pub kept-Empty : F.expression (G.expression line N.Empty) ≡ G.expression 0 N.Empty
  unfolding F.expression folded
  kept-Empty = at-layer F.node_step (λ layer. record { line = 0; node = layer.node }) line N.Empty L.Empty
      (sym rolls-Empty)

  pub kept-Name : (n : Name) → F.expression (G.expression line (N.Name n))
      ≡ G.expression 0 (N.Name (F.name n))
  unfolding F.expression folded
  kept-Name n = at-layer F.node_step (λ layer. record { line = 0; node = layer.node }) line (N.Name n)
      (L.Name n) (sym (rolls-Name n))

  pub kept-Neg : (e : Expr Name) → F.expression (G.expression line (N.Neg e))
      ≡ G.expression 0 (N.Neg (F.expression e))
  unfolding F.expression folded
  kept-Neg e = at-layer F.node_step (λ layer. record { line = 0; node = layer.node }) line (N.Neg e)
      (L.Neg e) (sym (rolls-Neg e))

  pub kept-Not : (e : Expr Name) → F.expression (G.expression line (N.Not e))
      ≡ G.expression 0 (N.Not (F.expression e))
  unfolding F.expression folded
  kept-Not e = at-layer F.node_step (λ layer. record { line = 0; node = layer.node }) line (N.Not e)
      (L.Not e) (sym (rolls-Not e))

  pub kept-Two : (op : Op) (l r : Expr Name) → F.expression (G.expression line (N.Two op l r))
      ≡ G.expression 0 (N.Two op (F.expression l) (F.expression r))
  unfolding F.expression folded
  kept-Two op l r = at-layer F.node_step (λ layer. record { line = 0; node = layer.node }) line
      (N.Two op l r) (L.Two op l r) (sym (rolls-Two op l r))

  pub kept-One : (fun : Fun) (e : Expr Name) → F.expression (G.expression line (N.One fun e))
      ≡ G.expression 0 (N.One fun (F.expression e))
  unfolding F.expression folded
  kept-One fun e = at-layer F.node_step (λ layer. record { line = 0; node = layer.node }) line (N.One fun e)
      (L.One fun e) (sym (rolls-One fun e))

  pub kept-line : (other : ℕ) (n : Node Name) → F.expression (G.expression line n)
      ≡ F.expression (G.expression other n)
  unfolding F.expression
  kept-line other n =
      fold_out-Expr Name (Node Name) (Expr Name) F.node_step
      (λ layer. record { line = 0; node = layer.node }) (G.expression line n)
      ∙ sym (fold_out-Expr Name (Node Name) (Expr Name) F.node_step
      (λ layer. record { line = 0; node = layer.node }) (G.expression other n))
