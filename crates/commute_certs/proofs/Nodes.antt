-- What the nodes of an expression come to, by what their parts come to.
use Rattle.std.proofs.Common.{◌≡◌, ℤ, Bool, true, false, if◌then◌else◌, List, [], Result, Ok, Err, refl}
use Rattle.std.proofs.Common.{sym, ap, subst, ◌∙◌}
use Rattle.seuss_program.specs.declared.tree.Ref.{Ref}
use Rattle.seuss_program.specs.declared.tree.Op.{Op}
use Rattle.seuss_program.specs.declared.tree.Fun.{Fun}
use Rattle.seuss_program.specs.declared.tree.Node.{Node, fold-Node, fold-roll-Node, map-Node, roll-Node}
use Rattle.seuss_program.specs.declared.tree.Node.TheOpen as N
use Rattle.seuss_program.specs.declared.tree.Node.TheVariants as NV
use Rattle.seuss_program.specs.declared.tree.Node.TheVariants.{rolls-Int, rolls-Bool, rolls-Empty}
use Rattle.seuss_program.specs.declared.tree.Node.TheVariants.{rolls-Name, rolls-Neg, rolls-Not, rolls-Two}
use Rattle.seuss_program.specs.declared.tree.Node.TheVariants.{rolls-One}
use Rattle.seuss_program.specs.declared.tree.Node.TheOpen.{Node-F}
use Rattle.seuss_program.specs.declared.tree.Expr.{Expr, fold_out-Expr}
use Rattle.seuss_program.specs.Values.{fits}
use Rattle.shape_terms.specs.declared.shape.Shape.TheVariants as Q
use Rattle.shape_terms.specs.declared.symbol.Symbol.{Symbol}
use Rattle.shape_terms.specs.declared.symbol.Symbol.TheVariants as Y
use Rattle.commute_certs.specs.declared.why.Reason.{Reason}
use Rattle.commute_certs.specs.declared.why.Reason.TheVariants as W
use Rattle.commute_certs.specs.declared.why.Untold.{Untold}
use Rattle.commute_certs.specs.declared.why.Untold.TheVariants as U
use Rattle.commute_certs.specs.declared.part.Part.{Part}
use Rattle.commute_certs.specs.declared.part.Part.TheVariants as P
use Rattle.commute_certs.specs.Terms.{Meant, node_meant, part_of, and_then, combined, decides, measured}
use Rattle.commute_certs.specs.Terms.{negated, named, symbol_of, shape_in, truth, truth_in, opposite}
use Rattle.commute_certs.specs.Answers.{Tells}

-- what a node comes to
pub node_of : Node Ref → Meant
node_of n = fold-Node Ref Meant Meant node_meant (λ layer. layer.node) n

-- an expression comes to what its node comes to
pub part-node : (e : Expr Ref) → part_of e ≡ node_of e.node
unfolding part_of node_of
part-node e = fold_out-Expr Ref Meant Meant node_meant (λ layer. layer.node) e

-- what a node of one layer comes to
abbrev pub layer_of : Node-F Ref (Node Ref) (Expr Ref) → Node-F Ref Meant Meant
layer_of d = map-Node Ref (Node Ref) (Expr Ref) Meant Meant node_of part_of d

pub node-roll : (d : Node-F Ref (Node Ref) (Expr Ref)) → node_of (roll-Node Ref d) ≡ node_meant (layer_of d)
unfolding part_of node_of
node-roll d = fold-roll-Node Ref Meant Meant node_meant (λ layer. layer.node) d

part-layer : (e : Expr Ref) (d : Node-F Ref (Node Ref) (Expr Ref)) → e.node ≡ roll-Node Ref d →
    part_of e ≡ node_meant (layer_of d)
part-layer e d h = part-node e ∙ (ap node_of h ∙ node-roll d)

-- why the first step isn't told, nothing is told
pub stopped : {A B : Type 0} (u : Untold) (m : Result A Reason) (f : A → Result B Reason) →
    Tells {A = A} (Err u) m → Tells {A = B} (Err u) (and_then m f)
stopped (U.Reason why) m f h = ap (λ x. and_then x f) h
stopped U.Memory m f h = tt

-- the second step starts from what the first one tells
pub went_on : {A B : Type 0} (x : A) (m : Result A Reason) (f : A → Result B Reason)
    (r : Result B Untold) → m ≡ Ok x → Tells r (f x) → Tells r (and_then m f)
went_on x m f r h k = subst (λ y. Tells r (and_then y f)) (sym h) k

-- the answer that a `?` hands on is the one that stopped
pub handed_on : {A : Type 0} (r : Result A Untold) (u : Untold) (m : Result A Reason) → r ≡ Err u →
    Tells {A = A} (Err u) m → Tells r m
handed_on r u m same h = subst (λ x. Tells x m) (sym same) h

-- equal expressions come to the same
pub same_part : (r : Result Part Untold) (x y : Expr Ref) (vars slots : List Symbol) → x ≡ y →
    Tells r (part_of x vars slots) → Tells r (part_of y vars slots)
same_part r x y vars slots e h = subst (λ (p : Expr Ref). Tells r (part_of p vars slots)) e h

module _ (e : Expr Ref) (vars slots : List Symbol) where
  at_layer : (d : Node-F Ref (Node Ref) (Expr Ref)) (r : Result Part Untold) → e.node ≡ roll-Node Ref d →
      Tells r (node_meant (layer_of d) vars slots) → Tells r (part_of e vars slots)
  at_layer d r h k = subst (λ (m : Meant). Tells r (m vars slots)) (sym (part-layer e d h)) k

  pub int_told : (z : ℤ) → fits z ≡ true → e.node ≡ NV.Int z → Tells (Ok (P.Digits z)) (part_of e vars slots)
  int_told z f h = at_layer (N.Int z) (Ok (P.Digits z)) (h ∙ sym (rolls-Int z))
      (ap (λ b. if b then Ok (P.Digits z) else Err W.MayTrap) f)

  pub bool_told : (b : Bool) → e.node ≡ NV.Bool b → Tells (Ok (P.Other (Y.Truth b))) (part_of e vars slots)
  bool_told b h = at_layer (N.Bool b) (Ok (P.Other (Y.Truth b))) (h ∙ sym (rolls-Bool b)) refl

  pub empty_told : (r : Result Part Untold) → r ≡ Ok (P.Other (Y.Sequence (Q.Exact []))) →
      e.node ≡ NV.Empty → Tells r (part_of e vars slots)
  empty_told r is h = subst (λ r. Tells r (part_of e vars slots)) (sym is)
      (at_layer N.Empty (Ok (P.Other (Y.Sequence (Q.Exact [])))) (h ∙ sym (rolls-Empty)) refl)

  pub name_told : (name : Ref) (s : Symbol) → s ≡ named name vars slots → e.node ≡ NV.Name name →
      Tells (Ok (P.Other s)) (part_of e vars slots)
  name_told name s is h = at_layer (N.Name name) (Ok (P.Other s)) (h ∙ sym (rolls-Name name))
      (ap (λ s. Ok (P.Other s)) (sym is))

  module _ (part : Expr Ref) where
    pub neg_stopped : (u : Untold) → e.node ≡ NV.Neg part →
        Tells {A = Part} (Err u) (part_of part vars slots) → Tells {A = Part} (Err u) (part_of e vars slots)
    neg_stopped u h k = at_layer (N.Neg part) (Err u) (h ∙ sym (rolls-Neg part))
        (stopped u (part_of part vars slots) negated k)

    pub neg_told : (a : Part) (r : Result Part Untold) → e.node ≡ NV.Neg part →
        part_of part vars slots ≡ Ok a → Tells r (negated a) → Tells r (part_of e vars slots)
    neg_told a r h k m = at_layer (N.Neg part) r (h ∙ sym (rolls-Neg part))
        (went_on a (part_of part vars slots) negated r k m)

    pub not_stopped : (u : Untold) → e.node ≡ NV.Not part →
        Tells {A = Part} (Err u) (part_of part vars slots) → Tells {A = Part} (Err u) (part_of e vars slots)
    not_stopped u h k = at_layer (N.Not part) (Err u) (h ∙ sym (rolls-Not part))
        (stopped u (part_of part vars slots) (λ a. truth (opposite (truth_in (symbol_of a)))) k)

    pub not_told : (a : Part) (r : Result Part Untold) → e.node ≡ NV.Not part →
        part_of part vars slots ≡ Ok a →
        Tells r (truth (opposite (truth_in (symbol_of a)))) → Tells r (part_of e vars slots)
    not_told a r h k m = at_layer (N.Not part) r (h ∙ sym (rolls-Not part))
        (went_on a (part_of part vars slots) (λ a. truth (opposite (truth_in (symbol_of a)))) r k m)

    pub one_stopped : (fun : Fun) (u : Untold) → e.node ≡ NV.One fun part →
        Tells {A = Part} (Err u) (part_of part vars slots) → Tells {A = Part} (Err u) (part_of e vars slots)
    one_stopped fun u h k = at_layer (N.One fun part) (Err u) (h ∙ sym (rolls-One fun part))
        (stopped u (part_of part vars slots) (λ a. measured fun (shape_in (symbol_of a))) k)

    pub one_told : (fun : Fun) (a : Part) (r : Result Part Untold) → e.node ≡ NV.One fun part →
        part_of part vars slots ≡ Ok a →
        Tells r (measured fun (shape_in (symbol_of a))) → Tells r (part_of e vars slots)
    one_told fun a r h k m = at_layer (N.One fun part) r (h ∙ sym (rolls-One fun part))
        (went_on a (part_of part vars slots) (λ a. measured fun (shape_in (symbol_of a))) r k m)

  module _ (op : Op) (left right : Expr Ref) where
    -- what is told behind the left part, where that decides alone or doesn't
    behind : Part → Bool → Result Part Reason
    behind a alone = if alone then truth (truth_in (symbol_of a)) else and_then (part_of right vars slots)
        (combined op a)

    second : Part → Result Part Reason
    second a = and_then (decides op a) (behind a)

    at_two : (r : Result Part Untold) → e.node ≡ NV.Two op left right →
        Tells r (and_then (part_of left vars slots) second) → Tells r (part_of e vars slots)
    unfolding second behind
    at_two r h k = at_layer (N.Two op left right) r (h ∙ sym (rolls-Two op left right)) k

    pub left_stopped : (u : Untold) → e.node ≡ NV.Two op left right →
        Tells {A = Part} (Err u) (part_of left vars slots) → Tells {A = Part} (Err u) (part_of e vars slots)
    left_stopped u h k = at_two (Err u) h (stopped u (part_of left vars slots) second k)

    from_left : (a : Part) (r : Result Part Untold) → e.node ≡ NV.Two op left right →
        part_of left vars slots ≡ Ok a → Tells r (second a) → Tells r (part_of e vars slots)
    from_left a r h k m = at_two r h (went_on a (part_of left vars slots) second r k m)

    pub decision_stopped : (a : Part) (u : Untold) → e.node ≡ NV.Two op left right →
        part_of left vars slots ≡ Ok a → Tells {A = Bool} (Err u) (decides op a) →
        Tells {A = Part} (Err u) (part_of e vars slots)
    unfolding second
    decision_stopped a u h k m = from_left a (Err u) h k (stopped u (decides op a) (behind a) m)

    decided : (a : Part) (b : Bool) (r : Result Part Untold) → e.node ≡ NV.Two op left right →
        part_of left vars slots ≡ Ok a → decides op a ≡ Ok b → Tells r (behind a b) →
        Tells r (part_of e vars slots)
    unfolding second
    decided a b r h k m n = from_left a r h k (went_on b (decides op a) (behind a) r m n)

    pub left_decides : (a : Part) (b : Bool) (r : Result Part Untold) → e.node ≡ NV.Two op left right →
        part_of left vars slots ≡ Ok a → decides op a ≡ Ok b → b ≡ true →
        Tells r (truth (truth_in (symbol_of a))) → Tells r (part_of e vars slots)
    unfolding behind
    left_decides a b r h k m alone n = decided a b r h k m (subst (λ b. Tells r (behind a b)) (sym alone) n)

    from_right : (a : Part) (b : Bool) (r : Result Part Untold) → e.node ≡ NV.Two op left right →
        part_of left vars slots ≡ Ok a → decides op a ≡ Ok b → b ≡ false →
        Tells r (and_then (part_of right vars slots) (combined op a)) → Tells r (part_of e vars slots)
    unfolding behind
    from_right a b r h k m alone n = decided a b r h k m (subst (λ b. Tells r (behind a b)) (sym alone) n)

    pub right_stopped : (a : Part) (b : Bool) (u : Untold) → e.node ≡ NV.Two op left right →
        part_of left vars slots ≡ Ok a → decides op a ≡ Ok b → b ≡ false →
        Tells {A = Part} (Err u) (part_of right vars slots) → Tells {A = Part} (Err u) (part_of e vars slots)
    right_stopped a b u h k m alone n =
        from_right a b (Err u) h k m alone (stopped u (part_of right vars slots) (combined op a) n)

    pub two_told : (a c : Part) (b : Bool) (r : Result Part Untold) → e.node ≡ NV.Two op left right →
        part_of left vars slots ≡ Ok a → decides op a ≡ Ok b → b ≡ false →
        part_of right vars slots ≡ Ok c → Tells r (combined op a c) → Tells r (part_of e vars slots)
    two_told a c b r h k m alone n done =
        from_right a b r h k m alone (went_on c (part_of right vars slots) (combined op a) r n done)
