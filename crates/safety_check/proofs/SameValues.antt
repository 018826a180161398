-- The value of an expression depends on the names in it alone.
use Rattle.std.proofs.Common.{◌≡◌, ℕ, neg_ℤ, Bool, true, false, not, ◌&&◌, ◌||◌, if◌then◌else◌}
use Rattle.std.proofs.Common.{List, [], ◌∷◌, ◌++◌}
use Rattle.std.proofs.Common.{Option, None, Some, Ok, refl, sym, ap, subst, ◌∙◌, arith, true≢false}
use Rattle.std.specs.Prelude.{option_and_then, ◌==◌}
use Rattle.seuss_program.specs.declared.state.Value.{Value}
use Rattle.seuss_program.specs.declared.state.Value.TheVariants as V
use Rattle.seuss_program.specs.declared.tree.Ref.{Ref}
use Rattle.seuss_program.specs.declared.tree.Ref.TheVariants as R
use Rattle.seuss_program.specs.declared.tree.Kind.{Kind}
use Rattle.seuss_program.specs.declared.tree.Kind.TheVariants as K
use Rattle.seuss_program.specs.declared.tree.Op.{Op}
use Rattle.seuss_program.specs.declared.tree.Op.TheVariants as O
use Rattle.seuss_program.specs.declared.tree.Node.{Node, fold-Node, fold-roll-Node, map-Node, roll-Node}
use Rattle.seuss_program.specs.declared.tree.Node.TheOpen as N
use Rattle.seuss_program.specs.declared.tree.Node.TheOpen.{Node-F}
use Rattle.seuss_program.specs.declared.tree.Expr.{Expr, fold_out-Expr, ind-Expr, roll-Expr, map-Expr}
use Rattle.seuss_program.specs.Values.{Part, Evaluated, node_part, part_of, named, both, next_to}
use Rattle.seuss_program.specs.Values.{and_then}
use Rattle.seuss_program.specs.Values.{is_comparison, exact, measure, exact_length, apply, int_of, bool_of}
use Rattle.seuss_program.specs.Values.{seq_of, value}
use Rattle.seuss_program.specs.Keeping as P
use Rattle.meaning_laws.proofs.ValueKinds.{part_of_node, part-expr, part-roll, kind_of_node, kind-expr}
use Rattle.meaning_laws.proofs.ValueKinds.{kind-roll}
use Rattle.meaning_laws.proofs.CalledProcedures.{none-some}
use Rattle.safety_check.specs.Regions.{is_name, is_among}
use Rattle.safety_check.specs.Texts.{node_names, expr_names}

-- the names in a node
names_of_node : Node Ref → List Ref
names_of_node n = fold-Node Ref (List Ref) (List Ref) node_names (λ layer. layer.node) n

-- the names in an expression are those in its node
names-expr : (e : Expr Ref) → expr_names e ≡ names_of_node e.node
unfolding expr_names names_of_node
names-expr e = fold_out-Expr Ref (List Ref) (List Ref) node_names (λ layer. layer.node) e

-- the names in a node are those in its layer
names-roll : (d : Node-F Ref (Node Ref) (Expr Ref)) →
    names_of_node (roll-Node Ref d)
    ≡ node_names (map-Node Ref (Node Ref) (Expr Ref) (List Ref) (List Ref) names_of_node expr_names d)
unfolding expr_names names_of_node
names-roll d = fold-roll-Node Ref (List Ref) (List Ref) node_names (λ layer. layer.node) d

-- a number is told the same as itself
equal-number : (n : ℕ) → n == n ≡ true
equal-number n = grind arith

-- `or` of what is true
or-in-left : (a b : Bool) → a ≡ true → a || b ≡ true
or-in-left true b h = refl
or-in-left false b h = absurd (true≢false (sym h))

-- and on the right
or-in-right : (a b : Bool) → b ≡ true → a || b ≡ true
or-in-right true b h = refl
or-in-right false b h = h

-- a name among some is among more
pub in-left : (m : Ref) (xs ys : List Ref) → is_among m xs ≡ true → is_among m (xs ++ ys) ≡ true
in-left m [] ys h = absurd (true≢false (sym h))
in-left m (x ∷ xs) ys h = by (is_name x m) refl h (λ i. in-left m xs ys i)
  where
    by : (b : Bool) → is_name x m ≡ b → b || is_among m xs ≡ true →
        (is_among m xs ≡ true → is_among m (xs ++ ys) ≡ true) → is_name x m || is_among m (xs ++ ys) ≡ true
    by true e h next = or-in-left (is_name x m) (is_among m (xs ++ ys)) e
    by false e h next = or-in-right (is_name x m) (is_among m (xs ++ ys)) (next h)

-- and among all
pub in-right : (m : Ref) (xs ys : List Ref) → is_among m ys ≡ true → is_among m (xs ++ ys) ≡ true
in-right m [] ys h = h
in-right m (x ∷ xs) ys h = or-in-right (is_name x m) (is_among m (xs ++ ys)) (in-right m xs ys h)

module _ (s : P.Scope) (vars slots later after : List Value) where
  -- a name that has a kind stands for the same value
  abbrev SameAt : List Ref → Type 0
  SameAt names = (m : Ref) (k : Kind) → is_among m names ≡ true → P.kind_at s m ≡ Some k →
      named m vars slots ≡ named m later after

  -- a part has the same value in both places
  pub record Alike (part : Part) : Type 0 where
    pub value : part.value vars slots ≡ part.value later after
    pub beside : part.beside vars slots ≡ part.beside later after

  -- a part of some kind
  abbrev AlikeSo : Option Kind → List Ref → Part → Type 0
  AlikeSo o names part = (k : Kind) → o ≡ Some k → SameAt names → Alike part

  -- a name
  name-alike : (name : Ref) (k : Kind) → P.kind_at s name ≡ Some k → SameAt (name ∷ []) →
      named name vars slots ≡ named name later after
  name-alike (R.Var n) k h same = same (R.Var n) k (or-in-left (n == n) false (equal-number n)) h
  name-alike (R.Slot n) k h same = same (R.Slot n) k (or-in-left (n == n) false (equal-number n)) h
  name-alike (R.Given n) k h same = refl
  name-alike (R.Method n) k h same = refl
  name-alike (R.Cat n) k h same = refl

  -- a part next to another one
  next-alike : (op : Op) (l r : Part) → Alike l → next_to op l r vars slots ≡ next_to op l r later after
  next-alike op l r h = by (is_comparison op && r.literal)
    where
      by : (b : Bool) → (if b then l.beside else l.value) vars slots ≡
          (if b then l.beside else l.value) later after
      by true = h.beside
      by false = h.value

  -- two parts under an operator
  both-alike : (op : Op) (l r : Part) → Alike l → Alike r → both op l r vars slots ≡ both op l r later after
  both-alike op l r h g = by op
    where
      two : (op : Op) →
          and_then (next_to op l r vars slots) (λ x. and_then (next_to op r l vars slots) (apply op x))
          ≡ and_then (next_to op l r later after) (λ x. and_then (next_to op r l later after) (apply op x))
      two op =
          ap (λ m. and_then m (λ x. and_then (next_to op r l vars slots) (apply op x))) (next-alike op l r h)
          ∙ ap (λ n. and_then (next_to op l r later after) (λ x. and_then n (apply op x)))
          (next-alike op r l g)

      or_of : Evaluated → Evaluated → Evaluated
      or_of m n = and_then m (λ x. if bool_of x then Ok (V.Bool true) else and_then n
          (λ y. Ok (V.Bool (bool_of y))))

      and_of : Evaluated → Evaluated → Evaluated
      and_of m n = and_then m (λ x. if bool_of x then and_then n (λ y. Ok (V.Bool (bool_of y))) else Ok
          (V.Bool false))

      by : (op : Op) → both op l r vars slots ≡ both op l r later after
      by O.Or = ap (λ m. and_then m (λ x. if bool_of x then Ok (V.Bool true) else and_then
          (r.value vars slots) (λ y. Ok (V.Bool (bool_of y))))) h.value
          ∙ ap (λ n. and_then (l.value later after) (λ x. if bool_of x then Ok
          (V.Bool true) else and_then n (λ y. Ok (V.Bool (bool_of y))))) g.value
      by O.And = ap (λ m. and_then m (λ x. if bool_of x then and_then (r.value vars slots)
          (λ y. Ok (V.Bool (bool_of y))) else Ok (V.Bool false))) h.value
          ∙ ap (λ n. and_then (l.value later after) (λ x. if bool_of x then and_then n
          (λ y. Ok (V.Bool (bool_of y))) else Ok (V.Bool false))) g.value
      by O.Eq = two O.Eq
      by O.Ne = two O.Ne
      by O.Lt = two O.Lt
      by O.Le = two O.Le
      by O.Gt = two O.Gt
      by O.Ge = two O.Ge
      by O.Plus = two O.Plus
      by O.Minus = two O.Minus
      by O.WrapPlus = two O.WrapPlus
      by O.WrapMinus = two O.WrapMinus
      by O.Times = two O.Times
      by O.Divide = two O.Divide
      by O.Remainder = two O.Remainder
      by O.At = two O.At
      by O.Add = two O.Add

  -- two parts that have a kind together have one each
  parts-are : (op : Op) (l r : Option Kind) (k : Kind) →
      option_and_then (λ left. option_and_then (P.two_kind op left) r) l ≡ Some k →
      (a : Kind) × (b : Kind) × (l ≡ Some a) × (r ≡ Some b)
  parts-are op (Some a) (Some b) k h = (a, b, refl, refl)
  parts-are op (Some a) None k h = absurd (none-some k h)
  parts-are op None r k h = absurd (none-some k h)

  -- a part that is wanted has a kind
  part-is : (wanted : Kind) (o : Option Kind) (g k : Kind) → P.where_of wanted o g ≡ Some k →
      (a : Kind) × (o ≡ Some a)
  part-is wanted (Some a) g k h = (a, refl)
  part-is wanted None g k h = absurd (none-some k h)

  -- what is claimed of a node
  NodeClaim : Node Ref → Type 0
  NodeClaim n = AlikeSo (kind_of_node s n) (names_of_node n) (part_of_node n)

  -- what is claimed of an expression
  Claim : Expr Ref → Type 0
  Claim e = AlikeSo (P.kind_in s e) (expr_names e) (part_of e)

  -- a node is alike where its layer is
  layer-alike : (d : Node-F Ref (Node Ref) (Expr Ref)) →
      AlikeSo
      (P.node_kind s (map-Node Ref (Node Ref) (Expr Ref) (Option Kind) (Option Kind) (kind_of_node s)
      (P.kind_in s) d))
      (node_names (map-Node Ref (Node Ref) (Expr Ref) (List Ref) (List Ref) names_of_node expr_names d))
      (node_part (map-Node Ref (Node Ref) (Expr Ref) Part Part part_of_node part_of d)) →
      NodeClaim (roll-Node Ref d)
  unfolding NodeClaim
  layer-alike d h k e same =
      subst Alike (sym (part-roll d))
      (h k (sym (kind-roll s d) ∙ e) (subst SameAt (names-roll d) same))

  module _ (X Y : Type 0) (f : X → Node Ref) (g : Y → Expr Ref) (each_part : (y : Y) → Claim (g y)) where
    node-alike : (y : Node-F Ref X Y) → NodeClaim (roll-Node Ref
        (map-Node Ref X Y (Node Ref) (Expr Ref) f g y))
    unfolding NodeClaim Claim
    node-alike (N.Int z) = layer-alike (N.Int z) (λ k h same. record { value = refl; beside = refl })
    node-alike (N.Bool b) = layer-alike (N.Bool b) (λ k h same. record { value = refl; beside = refl })
    node-alike N.Empty = layer-alike N.Empty (λ k h same. record { value = refl; beside = refl })
    node-alike (N.Name name) = layer-alike (N.Name name) (λ k h same.
        let e : Ok (named name vars slots) ≡ Ok (named name later after) =
        ap (λ v. Ok v) (name-alike name k h same) in
        record { value = e; beside = e })
    node-alike (N.Neg e) = layer-alike (N.Neg (g e)) (λ k h same.
        let own = part-is K.Int (P.kind_in s (g e)) K.Int k h in
        let inner = each_part e own.0 own.1 same in
        let is = ap (λ m. and_then m (λ v. exact (neg_ℤ (int_of v)))) inner.value in
        record { value = is; beside = is })
    node-alike (N.Not e) = layer-alike (N.Not (g e)) (λ k h same.
        let own = part-is K.Bool (P.kind_in s (g e)) K.Bool k h in
        let inner = each_part e own.0 own.1 same in
        let is = ap (λ m. and_then m (λ v. Ok (V.Bool (not (bool_of v))))) inner.value in
        record { value = is; beside = is })
    node-alike (N.Two op l r) = layer-alike (N.Two op (g l) (g r)) (λ k h same.
        let own = parts-are op (P.kind_in s (g l)) (P.kind_in s (g r)) k h in
        let left = each_part l own.0 own.2 (λ m j i at. same m j
        (in-left m (expr_names (g l)) (expr_names (g r)) i) at) in
        let right = each_part r own.1 own.3 (λ m j i at. same m j
        (in-right m (expr_names (g l)) (expr_names (g r)) i) at) in
        let is = both-alike op (part_of (g l)) (part_of (g r)) left right in
        record { value = is; beside = is })
    node-alike (N.One fun e) = layer-alike (N.One fun (g e)) (λ k h same.
        let own = part-is K.Seq (P.kind_in s (g e)) (P.fun_kind fun) k h in
        let inner = each_part e own.0 own.1 same in
        record {
          value = ap (λ m. and_then m (λ v. measure fun (seq_of v))) inner.value;
          beside = ap (λ m. and_then m (λ v. exact_length fun (seq_of v))) inner.value;
        })

  -- an expression is alike where its node is
  expr-alike : (e : Expr Ref) → NodeClaim e.node → Claim e
  unfolding NodeClaim Claim
  expr-alike e c k h same =
      subst Alike (sym (part-expr e)) (c k (sym (kind-expr s e) ∙ h) (subst SameAt (names-expr e) same))

  -- each expression is alike
  claims : (e : Expr Ref) → Claim e
  claims =
      ind-Expr Ref NodeClaim Claim
      (λ x y is. subst (λ d. NodeClaim (roll-Node Ref d)) is
      (node-alike _ _ (λ e. e.0) (λ e. e.0) (λ e. e.1) y))
      (λ x y is. subst (λ d. Claim (roll-Expr Ref d)) is
      (expr-alike (roll-Expr Ref (map-Expr Ref _ _ (Node Ref) (Expr Ref) (λ e. e.0) (λ e. e.0) y))
      y.node.1))

  -- An expression has the same value where each name in it stands for the same one.
  pub same-value : (e : Expr Ref) (k : Kind) → P.kind_in s e ≡ Some k →
      ((m : Ref) (j : Kind) → is_among m (expr_names e) ≡ true → P.kind_at s m ≡ Some j →
      named m vars slots ≡ named m later after) →
      value e vars slots ≡ value e later after
  unfolding Claim
  same-value e k h same = (claims e k h same).value
