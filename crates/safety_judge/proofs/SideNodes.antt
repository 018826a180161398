-- The sides of an expression, by the sides of its parts.
use Rattle.std.proofs.Common.{◌≡◌, ℤ, Bool, Result, Some, IfOk, pos, sym, ap, subst, ◌∙◌}
use Rattle.seuss_base.specs.declared.memory.Memory.{Memory}
use Rattle.seuss_program.specs.declared.tree.Ref.{Ref}
use Rattle.seuss_program.specs.declared.tree.Op.{Op}
use Rattle.seuss_program.specs.declared.tree.Fun.{Fun}
use Rattle.seuss_program.specs.declared.tree.Node.TheVariants as N
use Rattle.seuss_program.specs.declared.tree.Node.TheVariants.{rolls-Int, rolls-Bool, rolls-Empty}
use Rattle.seuss_program.specs.declared.tree.Node.TheVariants.{rolls-Name, rolls-Neg, rolls-Not, rolls-Two}
use Rattle.seuss_program.specs.declared.tree.Node.TheVariants.{rolls-One}
use Rattle.seuss_program.specs.declared.tree.Node.TheOpen as L
use Rattle.seuss_program.specs.declared.tree.Node.TheOpen.{Node-F}
use Rattle.seuss_program.specs.declared.tree.Expr.{Expr}
use Rattle.safety_check.specs.Spans.{single}
use Rattle.safety_check.specs.Regions.{Regions}
use Rattle.safety_check.specs.RegionValues.{node_sides, sides, plain_side, negated_side, inverted_side}
use Rattle.safety_check.specs.RegionValues.{both_sides, measured_side, number_side}
use Rattle.safety_check.specs.declared.region.Region.TheVariants.{Truth, Lengths}
use Rattle.safety_check.specs.declared.sides.Sides.{Sides}
use Rattle.safety_judge.proofs.ExpressionLayers.{at-layer}

module _ (regions : Regions) (e : Expr Ref) where
  pub int-is : (z : ℤ) → e.node ≡ N.Int z → sides regions e ≡ number_side z
  unfolding sides
  int-is z is = at-layer Sides (node_sides regions) e (N.Int z) (L.Int z) is (rolls-Int z)

  pub bool-is : (b : Bool) → e.node ≡ N.Bool b → sides regions e ≡ plain_side (Some (Truth (Some b)))
  unfolding sides
  bool-is b is = at-layer Sides (node_sides regions) e (N.Bool b) (L.Bool b) is (rolls-Bool b)

  pub empty-is : e.node ≡ N.Empty → sides regions e ≡ plain_side (Some (Lengths (single (pos 0))))
  unfolding sides
  empty-is is = at-layer Sides (node_sides regions) e N.Empty L.Empty is rolls-Empty

  pub name-is : (name : Ref) → e.node ≡ N.Name name → sides regions e ≡ plain_side (Some (regions name))
  unfolding sides
  name-is name is = at-layer Sides (node_sides regions) e (N.Name name) (L.Name name) is (rolls-Name name)

  -- a part as it was looked at
  looked : (part p : Expr Ref) (s : Sides) → p ≡ part → s ≡ sides regions p → s ≡ sides regions part
  looked part p s same is = is ∙ ap (sides regions) same

  pub neg-is : (part p : Expr Ref) (s : Sides) → e.node ≡ N.Neg part → p ≡ part → s ≡ sides regions p →
      negated_side s ≡ sides regions e
  unfolding sides
  neg-is part p s is same told = ap negated_side (looked part p s same told)
      ∙ sym (at-layer Sides (node_sides regions) e (N.Neg part) (L.Neg part) is (rolls-Neg part))

  pub not-is : (part p : Expr Ref) (s : Sides) → e.node ≡ N.Not part → p ≡ part → s ≡ sides regions p →
      inverted_side s ≡ sides regions e
  unfolding sides
  not-is part p s is same told = ap inverted_side (looked part p s same told)
      ∙ sym (at-layer Sides (node_sides regions) e (N.Not part) (L.Not part) is (rolls-Not part))

  pub one-is : (fun : Fun) (part p : Expr Ref) (s : Sides) → e.node ≡ N.One fun part → p ≡ part →
      s ≡ sides regions p → measured_side fun s ≡ sides regions e
  unfolding sides
  one-is fun part p s is same told = ap (measured_side fun) (looked part p s same told)
      ∙ sym (at-layer Sides (node_sides regions) e (N.One fun part) (L.One fun part) is
      (rolls-One fun part))

  pub two-is : (op : Op) (left right p q : Expr Ref) (l r : Sides) → e.node ≡ N.Two op left right →
      p ≡ left → q ≡ right → l ≡ sides regions p → r ≡ sides regions q →
      both_sides op l r ≡ sides regions e
  unfolding sides
  two-is op left right p q l r is same also told tells =
      ap (λ x. both_sides op x r) (looked left p l same told)
      ∙ (ap (both_sides op (sides regions left)) (looked right q r also tells)
      ∙ sym (at-layer Sides (node_sides regions) e (N.Two op left right) (L.Two op left right) is
      (rolls-Two op left right)))

-- an answer that is one thing is another one that is the same
pub told-as : {A : Type 0} (r : Result A Memory) (x y : A) → x ≡ y → IfOk r (λ t. t ≡ x) →
    IfOk r (λ t. t ≡ y)
told-as {A} r x y same h = subst (λ z. IfOk r (λ t. t ≡ z)) same h
