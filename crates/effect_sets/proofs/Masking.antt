-- The set of an expression, by those of its parts.
use Rattle.std.proofs.Common.{◌≡◌, ℤ, ℕ, Bool, sym, ap, ◌∙◌}
use Rattle.std.specs.Prelude.{bit_or}
use Rattle.seuss_program.specs.declared.tree.Ref.{Ref}
use Rattle.seuss_program.specs.declared.tree.Op.{Op}
use Rattle.seuss_program.specs.declared.tree.Fun.{Fun}
use Rattle.seuss_program.specs.declared.tree.Node.{Node, fold-Node, fold-roll-Node, map-Node, roll-Node}
use Rattle.seuss_program.specs.declared.tree.Node.TheOpen as N
use Rattle.seuss_program.specs.declared.tree.Node.TheOpen.{Node-F}
use Rattle.seuss_program.specs.declared.tree.Node.TheVariants as V
use Rattle.seuss_program.specs.declared.tree.Node.TheVariants.{rolls-Int, rolls-Bool, rolls-Empty}
use Rattle.seuss_program.specs.declared.tree.Node.TheVariants.{rolls-Name, rolls-Neg, rolls-Not, rolls-Two}
use Rattle.seuss_program.specs.declared.tree.Node.TheVariants.{rolls-One}
use Rattle.seuss_program.specs.declared.tree.Expr.{Expr, fold_out-Expr}
use Rattle.effect_sets.specs.Masks.{name_mask, node_mask, mask}

pub mask_of : Node Ref → ℕ
mask_of n = fold-Node Ref ℕ ℕ node_mask (λ layer. layer.node) n

pub mask-expr : (e : Expr Ref) → mask e ≡ mask_of e.node
unfolding mask mask_of
mask-expr e = fold_out-Expr Ref ℕ ℕ node_mask (λ layer. layer.node) e

pub mask-roll : (d : Node-F Ref (Node Ref) (Expr Ref)) →
    mask_of (roll-Node Ref d) ≡ node_mask (map-Node Ref (Node Ref) (Expr Ref) ℕ ℕ mask_of mask d)
unfolding mask mask_of
mask-roll d = fold-roll-Node Ref ℕ ℕ node_mask (λ layer. layer.node) d

module _ (e : Expr Ref) where
  layer : (d : Node-F Ref (Node Ref) (Expr Ref)) → e.node ≡ roll-Node Ref d →
      mask e ≡ node_mask (map-Node Ref (Node Ref) (Expr Ref) ℕ ℕ mask_of mask d)
  layer d h = mask-expr e ∙ (ap mask_of h ∙ mask-roll d)

  pub int_mask : (z : ℤ) → e.node ≡ V.Int z → 0 ≡ mask e
  int_mask z h = sym (layer (N.Int z) (h ∙ sym (rolls-Int z)))

  pub bool_mask : (b : Bool) → e.node ≡ V.Bool b → 0 ≡ mask e
  bool_mask b h = sym (layer (N.Bool b) (h ∙ sym (rolls-Bool b)))

  pub empty_mask : e.node ≡ V.Empty → 0 ≡ mask e
  empty_mask h = sym (layer N.Empty (h ∙ sym rolls-Empty))

  pub named_mask : (name : Ref) → e.node ≡ V.Name name → name_mask name ≡ mask e
  named_mask name h = sym (layer (N.Name name) (h ∙ sym (rolls-Name name)))

  pub neg_mask : (part : Expr Ref) → e.node ≡ V.Neg part → mask part ≡ mask e
  neg_mask part h = sym (layer (N.Neg part) (h ∙ sym (rolls-Neg part)))

  pub not_mask : (part : Expr Ref) → e.node ≡ V.Not part → mask part ≡ mask e
  not_mask part h = sym (layer (N.Not part) (h ∙ sym (rolls-Not part)))

  pub two_mask : (op : Op) (l r : Expr Ref) → e.node ≡ V.Two op l r → bit_or (mask l) (mask r) ≡ mask e
  two_mask op l r h = sym (layer (N.Two op l r) (h ∙ sym (rolls-Two op l r)))

  pub one_mask : (fun : Fun) (part : Expr Ref) → e.node ≡ V.One fun part → mask part ≡ mask e
  one_mask fun part h = sym (layer (N.One fun part) (h ∙ sym (rolls-One fun part)))
