-- An expression whose names are known values stands for itself with its names as numbers.
use Rattle.std.specs.Prelude.{◌≡◌, ℕ, List, []}
use Rattle.std.proofs.Common.{refl, sym, subst, ◌∙◌}
use Rattle.seuss_program.specs.declared.tree.Name.{Name}
use Rattle.seuss_program.specs.declared.tree.Ref.{Ref}
use Rattle.seuss_program.specs.declared.tree.Node.{Node, fold-Node, fold-roll-Node, map-Node, roll-Node}
use Rattle.seuss_program.specs.declared.tree.Node.TheVariants as N
use Rattle.seuss_program.specs.declared.tree.Node.TheOpen as L
use Rattle.seuss_program.specs.declared.tree.Node.TheOpen.{Node-F}
use Rattle.seuss_program.specs.declared.tree.Node.TheVariants.{rolls-Int, rolls-Bool, rolls-Empty}
use Rattle.seuss_program.specs.declared.tree.Node.TheVariants.{rolls-Name, rolls-Neg, rolls-Not, rolls-Two}
use Rattle.seuss_program.specs.declared.tree.Node.TheVariants.{rolls-One}
use Rattle.seuss_program.specs.declared.tree.Expr.{Expr, Expr-F, fold_out-Expr, ind-Expr, roll-Expr}
use Rattle.seuss_program.specs.declared.tree.Expr.{map-Expr}
use Rattle.seuss_program.specs.declared.tree.Cat.{Cat}
use Rattle.box_types.specs.declared.scopes.Local.{Local}
use Rattle.box_types.specs.Scopes.{meaning_of}
use Rattle.box_types.specs.Unknown.{names_step, in_names, is_nothing, unknown_name}
use Rattle.box_types.specs.WrongKind.{is_no_value, no_value}
use Rattle.box_types.specs.Namings.{name_ref, node_step, expression}
use Rattle.box_types.specs.Locals.{Locals}
use Rattle.box_types.specs.Meanings.{ExprStands, OfInt, OfBool, OfEmpty, OfName, OfNeg, OfNot, OfTwo, OfOne}
use Rattle.box_types.specs.Meanings.{on_line}
use Rattle.box_types.proofs.OwnNames.{none_first, none_second, no_failure}
use Rattle.box_types.proofs.SeenLocals.{Sees, value_stands}

module _ (own : Cat Name) (here : Locals) (visible : List Local) (next : ℕ)
    (sees : Sees here visible next) where
  -- what is found at the names of a node
  names_of : (Name → List ℕ) → Node Name → List ℕ
  names_of at n = fold-Node Name (List ℕ) (List ℕ) (names_step at) (λ layer. layer.node) n

  -- a node with its names as numbers
  numbered_of : Node Name → Node Ref
  numbered_of n = fold-Node Name (Node Ref) (Expr Ref) (node_step own visible)
      (λ layer. record { line = layer.line; node = layer.node }) n

  -- an expression by its node
  names-expr : (at : Name → List ℕ) (e : Expr Name) → in_names at e ≡ names_of at e.node
  unfolding in_names names_of
  names-expr at e = fold_out-Expr Name (List ℕ) (List ℕ) (names_step at) (λ layer. layer.node) e

  numbered-expr : (e : Expr Name) → expression own visible e ≡ on_line e.line (numbered_of e.node)
  unfolding expression numbered_of
  numbered-expr e = fold_out-Expr Name (Node Ref) (Expr Ref) (node_step own visible)
      (λ layer. record { line = layer.line; node = layer.node }) e

  -- a node by its layer
  names-roll : (at : Name → List ℕ) (d : Node-F Name (Node Name) (Expr Name)) →
      names_of at (roll-Node Name d) ≡ names_step at
      (map-Node Name (Node Name) (Expr Name) (List ℕ) (List ℕ) (names_of at) (in_names at) d)
  unfolding in_names names_of
  names-roll at d = fold-roll-Node Name (List ℕ) (List ℕ) (names_step at) (λ layer. layer.node) d

  numbered-roll : (d : Node-F Name (Node Name) (Expr Name)) →
      numbered_of (roll-Node Name d) ≡ node_step own visible
      (map-Node Name (Node Name) (Expr Name) (Node Ref) (Expr Ref) numbered_of (expression own visible) d)
  unfolding expression numbered_of
  numbered-roll d = fold-roll-Node Name (Node Ref) (Expr Ref) (node_step own visible)
      (λ layer. record { line = layer.line; node = layer.node }) d

  -- a node, on whatever line, and an expression, whose names are known and are values
  NodeClaim : Node Name → Type 0
  NodeClaim n = names_of (unknown_name own visible) n ≡ [] → names_of (no_value own visible) n ≡ [] →
      (line : ℕ) → ExprStands own here (on_line line n) (on_line line (numbered_of n))

  abbrev Claim : Expr Name → Type 0
  Claim e = in_names (unknown_name own visible) e ≡ [] → in_names (no_value own visible) e ≡ [] →
      ExprStands own here e (expression own visible e)

  -- an expression, by its node
  expr-claim : (e : Expr Name) → NodeClaim e.node → Claim e
  unfolding NodeClaim
  expr-claim e claim known value = subst (ExprStands own here e) (sym (numbered-expr e))
      (claim (sym (names-expr (unknown_name own visible) e) ∙ known)
      (sym (names-expr (no_value own visible) e) ∙ value) e.line)

  -- a node stands for another one, by their layers
  node-stands : (d : Node-F Name (Node Name) (Expr Name)) (n : Node Name) (m : Node Ref) (line : ℕ) →
      roll-Node Name d ≡ n →
      node_step own visible
      (map-Node Name (Node Name) (Expr Name) (Node Ref) (Expr Ref) numbered_of (expression own visible) d)
      ≡ m →
      ExprStands own here (on_line line n) (on_line line m) →
      ExprStands own here (on_line line (roll-Node Name d)) (on_line line (numbered_of (roll-Node Name d)))
  node-stands d n m line is made stands =
      subst (λ (x : Node Ref). ExprStands own here (on_line line (roll-Node Name d)) (on_line line x))
      (sym (numbered-roll d ∙ made))
      (subst (λ (x : Node Name). ExprStands own here (on_line line x) (on_line line m)) (sym is) stands)

  -- a node and an expression, by the claims of their parts
  node-step : (y : Node-F Name ((n : Node Name) × NodeClaim n) ((e : Expr Name) × Claim e)) →
      NodeClaim (roll-Node Name
      (map-Node Name ((n : Node Name) × NodeClaim n) ((e : Expr Name) × Claim e) (Node Name) (Expr Name)
      (λ e. e.0) (λ e. e.0) y))
  unfolding NodeClaim
  node-step (L.Int z) known value line =
      node-stands (L.Int z) (N.Int z) (N.Int z) line (rolls-Int z) refl (OfInt line z)
  node-step (L.Bool b) known value line =
      node-stands (L.Bool b) (N.Bool b) (N.Bool b) line (rolls-Bool b) refl (OfBool line b)
  node-step L.Empty known value line =
      node-stands L.Empty N.Empty N.Empty line rolls-Empty refl (OfEmpty line)
  node-step (L.Name name) known value line =
      let ref : Ref = name_ref own visible name in
      node-stands (L.Name name) (N.Name name) (N.Name ref) line (rolls-Name name) refl
      (OfName line name ref (value_stands own here visible next sees name
      (no_failure (is_nothing (meaning_of own visible name)) name.line
      (sym (names-roll (unknown_name own visible) (L.Name name)) ∙ known))
      (no_failure (is_no_value (meaning_of own visible name)) name.line
      (sym (names-roll (no_value own visible) (L.Name name)) ∙ value))))
  node-step (L.Neg e) known value line =
      let f : Expr Ref = expression own visible e.0 in
      node-stands (L.Neg e.0) (N.Neg e.0) (N.Neg f) line (rolls-Neg e.0) refl
      (OfNeg line e.0 f (e.1 (sym (names-roll (unknown_name own visible) (L.Neg e.0)) ∙ known)
      (sym (names-roll (no_value own visible) (L.Neg e.0)) ∙ value)))
  node-step (L.Not e) known value line =
      let f : Expr Ref = expression own visible e.0 in
      node-stands (L.Not e.0) (N.Not e.0) (N.Not f) line (rolls-Not e.0) refl
      (OfNot line e.0 f (e.1 (sym (names-roll (unknown_name own visible) (L.Not e.0)) ∙ known)
      (sym (names-roll (no_value own visible) (L.Not e.0)) ∙ value)))
  node-step (L.Two op l r) known value line =
      let d : Node-F Name (Node Name) (Expr Name) = L.Two op l.0 r.0 in
      let m : Expr Ref = expression own visible l.0 in
      let s : Expr Ref = expression own visible r.0 in
      let all_known = sym (names-roll (unknown_name own visible) d) ∙ known in
      let all_values = sym (names-roll (no_value own visible) d) ∙ value in
      node-stands d (N.Two op l.0 r.0) (N.Two op m s) line (rolls-Two op l.0 r.0) refl
      (OfTwo line op l.0 r.0 m s
      (l.1 (none_first (in_names (unknown_name own visible) l.0) _ all_known)
      (none_first (in_names (no_value own visible) l.0) _ all_values))
      (r.1 (none_second (in_names (unknown_name own visible) l.0) _ all_known)
      (none_second (in_names (no_value own visible) l.0) _ all_values)))
  node-step (L.One fun e) known value line =
      let f : Expr Ref = expression own visible e.0 in
      node-stands (L.One fun e.0) (N.One fun e.0) (N.One fun f) line (rolls-One fun e.0) refl
      (OfOne line fun e.0 f (e.1 (sym (names-roll (unknown_name own visible) (L.One fun e.0)) ∙ known)
      (sym (names-roll (no_value own visible) (L.One fun e.0)) ∙ value)))

  expr-step : (y : Expr-F Name ((n : Node Name) × NodeClaim n) ((e : Expr Name) × Claim e)) →
      Claim (roll-Expr Name
      (map-Expr Name ((n : Node Name) × NodeClaim n) ((e : Expr Name) × Claim e) (Node Name) (Expr Name)
      (λ e. e.0) (λ e. e.0) y))
  expr-step y = expr-claim
      (roll-Expr Name (map-Expr Name ((n : Node Name) × NodeClaim n) ((e : Expr Name) × Claim e) (Node Name)
      (Expr Name) (λ e. e.0) (λ e. e.0) y)) y.node.1

  -- an expression in which no name is unknown and each is a value stands for itself with numbers
  pub expression_stands : (e : Expr Name) → in_names (unknown_name own visible) e ≡ [] →
      in_names (no_value own visible) e ≡ [] → ExprStands own here e (expression own visible e)
  expression_stands = ind-Expr Name NodeClaim Claim
      (λ x y is. subst (λ d. NodeClaim (roll-Node Name d)) is (node-step y))
      (λ x y is. subst (λ d. Claim (roll-Expr Name d)) is (expr-step y))
