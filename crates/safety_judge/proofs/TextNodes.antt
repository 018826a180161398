-- The names and the cuts in an expression, by those in its parts.
use Rattle.std.proofs.Common.{◌≡◌, ℤ, Bool, List, [], ◌∷◌, ◌++◌, sym, ap, ◌∙◌}
use Rattle.std.proofs.lemmas.List.{append_assoc}
use Rattle.seuss_program.specs.declared.tree.Ref.{Ref}
use Rattle.seuss_program.specs.declared.tree.Op.{Op}
use Rattle.seuss_program.specs.declared.tree.Fun.{Fun}
use Rattle.seuss_program.specs.declared.tree.Node.TheVariants as N
use Rattle.seuss_program.specs.declared.tree.Node.TheVariants.{rolls-Int, rolls-Bool, rolls-Empty}
use Rattle.seuss_program.specs.declared.tree.Node.TheVariants.{rolls-Name, rolls-Neg, rolls-Not, rolls-Two}
use Rattle.seuss_program.specs.declared.tree.Node.TheVariants.{rolls-One}
use Rattle.seuss_program.specs.declared.tree.Node.TheOpen as L
use Rattle.seuss_program.specs.declared.tree.Node.TheOpen.{Node-F}
use Rattle.seuss_program.specs.declared.tree.Expr.{Expr}
use Rattle.safety_check.specs.Texts.{Side, node_names, expr_names, node_side, side_of, other_look}
use Rattle.safety_check.specs.Texts.{number_look, name_look, negated_look, measured_look, compared_cuts}
use Rattle.safety_check.specs.declared.seen.Look.{Look}
use Rattle.safety_check.specs.declared.seen.Cut.{Cut}
use Rattle.safety_judge.proofs.ExpressionLayers.{at-layer}

module _ (e : Expr Ref) where
  -- the names of an expression, by its layer
  pub names-int : (z : ℤ) → e.node ≡ N.Int z → expr_names e ≡ []
  unfolding expr_names
  names-int z is = at-layer (List Ref) node_names e (N.Int z) (L.Int z) is (rolls-Int z)

  pub names-bool : (b : Bool) → e.node ≡ N.Bool b → expr_names e ≡ []
  unfolding expr_names
  names-bool b is = at-layer (List Ref) node_names e (N.Bool b) (L.Bool b) is (rolls-Bool b)

  pub names-empty : e.node ≡ N.Empty → expr_names e ≡ []
  unfolding expr_names
  names-empty is = at-layer (List Ref) node_names e N.Empty L.Empty is rolls-Empty

  pub names-name : (name : Ref) → e.node ≡ N.Name name → expr_names e ≡ name ∷ []
  unfolding expr_names
  names-name name is = at-layer (List Ref) node_names e (N.Name name) (L.Name name) is (rolls-Name name)

  pub names-neg : (part : Expr Ref) → e.node ≡ N.Neg part → expr_names e ≡ expr_names part
  unfolding expr_names
  names-neg part is = at-layer (List Ref) node_names e (N.Neg part) (L.Neg part) is (rolls-Neg part)

  pub names-not : (part : Expr Ref) → e.node ≡ N.Not part → expr_names e ≡ expr_names part
  unfolding expr_names
  names-not part is = at-layer (List Ref) node_names e (N.Not part) (L.Not part) is (rolls-Not part)

  pub names-one : (fun : Fun) (part : Expr Ref) → e.node ≡ N.One fun part → expr_names e ≡ expr_names part
  unfolding expr_names
  names-one fun part is =
      at-layer (List Ref) node_names e (N.One fun part) (L.One fun part) is (rolls-One fun part)

  pub names-two : (op : Op) (left right : Expr Ref) → e.node ≡ N.Two op left right →
      expr_names e ≡ expr_names left ++ expr_names right
  unfolding expr_names
  names-two op left right is = at-layer (List Ref) node_names e (N.Two op left right)
      (L.Two op left right) is (rolls-Two op left right)

  -- the side of an expression, by its layer
  pub side-int : (z : ℤ) → e.node ≡ N.Int z → side_of e ≡ record { look = number_look z; cuts = [] }
  unfolding side_of
  side-int z is = at-layer Side node_side e (N.Int z) (L.Int z) is (rolls-Int z)

  pub side-bool : (b : Bool) → e.node ≡ N.Bool b → side_of e ≡ record { look = other_look; cuts = [] }
  unfolding side_of
  side-bool b is = at-layer Side node_side e (N.Bool b) (L.Bool b) is (rolls-Bool b)

  pub side-empty : e.node ≡ N.Empty → side_of e ≡ record { look = other_look; cuts = [] }
  unfolding side_of
  side-empty is = at-layer Side node_side e N.Empty L.Empty is rolls-Empty

  pub side-name : (name : Ref) → e.node ≡ N.Name name →
      side_of e ≡ record { look = name_look name; cuts = [] }
  unfolding side_of
  side-name name is = at-layer Side node_side e (N.Name name) (L.Name name) is (rolls-Name name)

  pub side-neg : (part : Expr Ref) → e.node ≡ N.Neg part →
      side_of e ≡ record { look = negated_look (side_of part).look; cuts = (side_of part).cuts }
  unfolding side_of
  side-neg part is = at-layer Side node_side e (N.Neg part) (L.Neg part) is (rolls-Neg part)

  pub side-not : (part : Expr Ref) → e.node ≡ N.Not part →
      side_of e ≡ record { look = other_look; cuts = (side_of part).cuts }
  unfolding side_of
  side-not part is = at-layer Side node_side e (N.Not part) (L.Not part) is (rolls-Not part)

  pub side-one : (fun : Fun) (part : Expr Ref) → e.node ≡ N.One fun part →
      side_of e ≡ record { look = measured_look fun (side_of part).look; cuts = (side_of part).cuts }
  unfolding side_of
  side-one fun part is =
      at-layer Side node_side e (N.One fun part) (L.One fun part) is (rolls-One fun part)

  pub side-two : (op : Op) (left right : Expr Ref) → e.node ≡ N.Two op left right →
      side_of e ≡ record {
        look = other_look;
        cuts = ((side_of left).cuts ++ (side_of right).cuts)
            ++ compared_cuts op (side_of left).look (side_of right).look;
      }
  unfolding side_of
  side-two op left right is = at-layer Side node_side e (N.Two op left right) (L.Two op left right) is
      (rolls-Two op left right)

-- a part as it was looked at, and what its cuts are added to
module _ (e part p : Expr Ref) (same : p ≡ part) where
  -- the look of a part
  part-look : (look : Look) → look ≡ (side_of p).look → look ≡ (side_of part).look
  part-look look is = is ∙ ap (λ x. (side_of x).look) same

  -- the cuts of a part are those of the whole
  pub part-cuts : (old new : List Cut) → (side_of part).cuts ≡ (side_of e).cuts →
      new ≡ old ++ (side_of p).cuts → new ≡ old ++ (side_of e).cuts
  part-cuts old new alike is = is ∙ ap (λ cuts. old ++ cuts) (ap (λ x. (side_of x).cuts) same ∙ alike)

  pub look-neg : (look : Look) → e.node ≡ N.Neg part → look ≡ (side_of p).look →
      negated_look look ≡ (side_of e).look
  look-neg look is told =
      ap negated_look (part-look look told) ∙ sym (ap (λ (s : Side). s.look) (side-neg e part is))

  pub look-one : (fun : Fun) (look : Look) → e.node ≡ N.One fun part → look ≡ (side_of p).look →
      measured_look fun look ≡ (side_of e).look
  look-one fun look is told = ap (measured_look fun) (part-look look told)
      ∙ sym (ap (λ (s : Side). s.look) (side-one e fun part is))

-- the cuts of two parts, and then those between them
pub cuts-two : (e left right p q : Expr Ref) (op : Op) (l r : Look) (old first second last : List Cut) →
    e.node ≡ N.Two op left right → p ≡ left → q ≡ right → l ≡ (side_of p).look → r ≡ (side_of q).look →
    first ≡ old ++ (side_of p).cuts → second ≡ first ++ (side_of q).cuts →
    last ≡ second ++ compared_cuts op l r → last ≡ old ++ (side_of e).cuts
cuts-two e left right p q op l r old first second last is same also told tells one two three =
    three ∙ (ap (λ x. x ++ compared_cuts op l r) two
    ∙ (ap (λ x. (x ++ (side_of q).cuts) ++ compared_cuts op l r) one
    ∙ (ap (λ x. x ++ compared_cuts op l r) (append_assoc old (side_of p).cuts (side_of q).cuts)
    ∙ (append_assoc old ((side_of p).cuts ++ (side_of q).cuts) (compared_cuts op l r)
    ∙ ap (λ x. old ++ x) (in-order ∙ sym (ap (λ (s : Side). s.cuts) (side-two e op left right is)))))))
  where
    in-order : ((side_of p).cuts ++ (side_of q).cuts) ++ compared_cuts op l r
        ≡ ((side_of left).cuts ++ (side_of right).cuts)
        ++ compared_cuts op (side_of left).look (side_of right).look
    in-order = ap (λ x. ((side_of x).cuts ++ (side_of q).cuts) ++ compared_cuts op l r) same
        ∙ (ap (λ x. ((side_of left).cuts ++ (side_of x).cuts) ++ compared_cuts op l r) also
        ∙ (ap (λ x. ((side_of left).cuts ++ (side_of right).cuts) ++ compared_cuts op x r)
        (told ∙ ap (λ x. (side_of x).look) same)
        ∙ ap (λ x. ((side_of left).cuts ++ (side_of right).cuts) ++ compared_cuts op (side_of left).look x)
        (tells ∙ ap (λ x. (side_of x).look) also)))
