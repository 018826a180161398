-- The expression of a property always has a value.
use Rattle.std.proofs.Common.{◌≡◌, ℤ, pos, negsuc, neg_ℤ, int_le, Bool, true, false, not, ◌&&◌}
use Rattle.std.proofs.Common.{if◌then◌else◌, List}
use Rattle.std.proofs.Common.{Option, None, Some, Ok, Err, refl, sym, subst, ◌∙◌, arith, true≢false}
use Rattle.std.proofs.Common.{◌^◌, ◌<◌, suc, zero}
use Rattle.std.specs.Prelude.{option_and_then}
use Rattle.std.proofs.lemmas.Bool.{and_parts, ltb-true, lt-ltb}
use Rattle.seuss_base.specs.declared.outcome.Trap.TheVariants.{Overflow}
use Rattle.seuss_program.specs.declared.state.Value.{Value}
use Rattle.seuss_program.specs.declared.state.Value.TheVariants as V
use Rattle.seuss_program.specs.declared.tree.Ref.{Ref}
use Rattle.seuss_program.specs.declared.tree.Kind.{Kind}
use Rattle.seuss_program.specs.declared.tree.Kind.TheVariants as K
use Rattle.seuss_program.specs.declared.tree.Op.{Op}
use Rattle.seuss_program.specs.declared.tree.Op.TheVariants as O
use Rattle.seuss_program.specs.declared.tree.Fun.{Fun}
use Rattle.seuss_program.specs.declared.tree.Fun.TheVariants as U
use Rattle.seuss_program.specs.declared.tree.Node.{Node, fold-Node, fold-roll-Node, map-Node, roll-Node}
use Rattle.seuss_program.specs.declared.tree.Node.TheOpen as N
use Rattle.seuss_program.specs.declared.tree.Node.TheOpen.{Node-F}
use Rattle.seuss_program.specs.declared.tree.Expr.{Expr, fold_out-Expr, ind-Expr, roll-Expr, map-Expr}
use Rattle.seuss_program.specs.Values.{Part, Evaluated, node_part, part_of, both, next_to}
use Rattle.seuss_program.specs.Values.{and_then, fits}
use Rattle.seuss_program.specs.Values.{is_comparison, exact, measure, exact_length, apply, int_of, bool_of}
use Rattle.seuss_program.specs.Values.{seq_of, value}
use Rattle.seuss_program.specs.Keeping as P
use Rattle.meaning_laws.proofs.FittingNumbers.{Fits}
use Rattle.meaning_laws.proofs.ValueKinds.{part_of_node, part-expr, part-roll, kind_of_node, kind-expr}
use Rattle.meaning_laws.proofs.ValueKinds.{kind-roll}
use Rattle.meaning_laws.proofs.CalledProcedures.{none-some}
use Rattle.safety_check.specs.Properties.{Look, is_allowed, is_length, node_look, look_of}

-- a node as a property may have it
look_of_node : Node Ref → Look
look_of_node n = fold-Node Ref Look Look node_look (λ layer. layer.node) n

-- an expression looks as its node does
look-expr : (e : Expr Ref) → look_of e ≡ look_of_node e.node
unfolding look_of look_of_node
look-expr e = fold_out-Expr Ref Look Look node_look (λ layer. layer.node) e

-- a node looks as its layer does
look-roll : (d : Node-F Ref (Node Ref) (Expr Ref)) →
    look_of_node (roll-Node Ref d) ≡ node_look (map-Node Ref (Node Ref)
    (Expr Ref) Look Look look_of_node look_of d)
unfolding look_of look_of_node
look-roll d = fold-roll-Node Ref Look Look node_look (λ layer. layer.node) d

-- there is a value
abbrev pub IsThere : Evaluated → Type 0
IsThere (Err t) = ⊥
IsThere (Ok v) = Unit {0}

-- a number in digits
abbrev Digits : Evaluated → Type 0
Digits (Err t) = ⊥
Digits (Ok v) = (int_le (pos 0) (int_of v) ≡ true) × Fits (int_of v)

-- a minus before a number in digits leaves 64 bits
neg-fits : (z : ℤ) → int_le (pos 0) z ≡ true → Fits z → Fits (neg_ℤ z)
neg-fits (pos zero) h f = refl
neg-fits (pos (suc n)) h f =
    let less = ltb-true (suc n) (2 ^ 63) f in
    let below : n < 2 ^ 63 = omega (arith, less) in
    lt-ltb n (2 ^ 63) below
neg-fits (negsuc n) h f = absurd (true≢false (sym h))

-- a minus before a number in digits
neg-there : (m : Evaluated) → Digits m → IsThere (and_then m (λ v. exact (neg_ℤ (int_of v))))
neg-there (Err t) h = h
neg-there (Ok v) h = by (fits (neg_ℤ (int_of v))) (neg-fits (int_of v) h.0 h.1)
  where
    by : (b : Bool) → b ≡ true → IsThere (if b then Ok (V.Int (neg_ℤ (int_of v))) else Err Overflow)
    by true e = tt
    by false e = absurd (true≢false (sym e))

-- `not` before a value
not-there : (m : Evaluated) → IsThere m → IsThere (and_then m (λ v. Ok (V.Bool (not (bool_of v)))))
not-there (Err t) h = h
not-there (Ok v) h = tt

-- an allowed operator of two values
apply-there : (op : Op) → is_allowed op ≡ true → (x y : Value) → IsThere (apply op x y)
apply-there O.Or h x y = tt
apply-there O.And h x y = tt
apply-there O.Eq h x y = tt
apply-there O.Ne h x y = tt
apply-there O.Lt h x y = tt
apply-there O.Le h x y = tt
apply-there O.Gt h x y = tt
apply-there O.Ge h x y = tt
apply-there O.Plus h x y = absurd (true≢false (sym h))
apply-there O.Minus h x y = absurd (true≢false (sym h))
apply-there O.WrapPlus h x y = tt
apply-there O.WrapMinus h x y = tt
apply-there O.Times h x y = absurd (true≢false (sym h))
apply-there O.Divide h x y = absurd (true≢false (sym h))
apply-there O.Remainder h x y = absurd (true≢false (sym h))
apply-there O.At h x y = absurd (true≢false (sym h))
apply-there O.Add h x y = absurd (true≢false (sym h))

-- two values under an allowed operator
two-there : (op : Op) → is_allowed op ≡ true → (m n : Evaluated) → IsThere m → IsThere n →
    IsThere (and_then m (λ x. and_then n (apply op x)))
two-there op a (Err t) n h g = h
two-there op a (Ok x) (Err t) h g = g
two-there op a (Ok x) (Ok y) h g = apply-there op a x y

-- `or` of two values
or-there : (m n : Evaluated) → IsThere m → IsThere n →
    IsThere (and_then m (λ x. if bool_of x then Ok (V.Bool true) else and_then n
    (λ y. Ok (V.Bool (bool_of y)))))
or-there (Err t) n h g = h
or-there (Ok x) (Err t) h g = absurd g
or-there (Ok x) (Ok y) h g = by (bool_of x)
  where
    by : (b : Bool) → IsThere (if b then Ok (V.Bool true) else Ok (V.Bool (bool_of y)))
    by true = tt
    by false = tt

-- `and` of two values
and-there : (m n : Evaluated) → IsThere m → IsThere n →
    IsThere (and_then m (λ x. if bool_of x then and_then n (λ y. Ok (V.Bool (bool_of y))) else Ok
    (V.Bool false)))
and-there (Err t) n h g = h
and-there (Ok x) (Err t) h g = absurd g
and-there (Ok x) (Ok y) h g = by (bool_of x)
  where
    by : (b : Bool) → IsThere (if b then Ok (V.Bool (bool_of y)) else Ok (V.Bool false))
    by true = tt
    by false = tt

module _ (s : P.Scope) (vars slots : List Value) where
  -- what looks as allowed has a value
  pub record Valued (look : Look) (part : Part) : Type 0 where
    pub digits : look.digits ≡ true → Digits (part.value vars slots)
    pub name : look.name ≡ true → IsThere (part.value vars slots)
    pub value : look.allowed ≡ true → IsThere (part.value vars slots)
    pub beside : look.allowed ≡ true → IsThere (part.beside vars slots)

  -- a part of some kind
  abbrev ValuedSo : Option Kind → Look → Part → Type 0
  ValuedSo o look part = (k : Kind) → o ≡ Some k → Valued look part

  -- a part next to another one
  next-there : (op : Op) (l r : Part) → IsThere (l.value vars slots) → IsThere (l.beside vars slots) →
      IsThere (next_to op l r vars slots)
  next-there op l r h g = by (is_comparison op && r.literal)
    where
      by : (b : Bool) → IsThere ((if b then l.beside else l.value) vars slots)
      by true = g
      by false = h

  -- two allowed parts
  both-there : (op : Op) (x y : Look) (l r : Part) → Valued x l → Valued y r →
      is_allowed op && (x.allowed && y.allowed) ≡ true → IsThere (both op l r vars slots)
  both-there op x y l r h g e = by op parts.0
    where
      parts : (is_allowed op ≡ true) × (x.allowed && y.allowed ≡ true)
      parts = and_parts (is_allowed op) (x.allowed && y.allowed) e

      sides : (x.allowed ≡ true) × (y.allowed ≡ true)
      sides = and_parts x.allowed y.allowed parts.1

      two : (op : Op) → is_allowed op ≡ true →
          IsThere (and_then (next_to op l r vars slots) (λ x. and_then (next_to op r l vars slots)
          (apply op x)))
      two op a =
          two-there op a (next_to op l r vars slots) (next_to op r l vars slots)
          (next-there op l r (h.value sides.0) (h.beside sides.0))
          (next-there op r l (g.value sides.1) (g.beside sides.1))

      by : (op : Op) → is_allowed op ≡ true → IsThere (both op l r vars slots)
      by O.Or a = or-there (l.value vars slots) (r.value vars slots) (h.value sides.0) (g.value sides.1)
      by O.And a = and-there (l.value vars slots) (r.value vars slots) (h.value sides.0) (g.value sides.1)
      by O.Eq a = two O.Eq a
      by O.Ne a = two O.Ne a
      by O.Lt a = two O.Lt a
      by O.Le a = two O.Le a
      by O.Gt a = two O.Gt a
      by O.Ge a = two O.Ge a
      by O.Plus a = absurd (true≢false (sym a))
      by O.Minus a = absurd (true≢false (sym a))
      by O.WrapPlus a = two O.WrapPlus a
      by O.WrapMinus a = two O.WrapMinus a
      by O.Times a = absurd (true≢false (sym a))
      by O.Divide a = absurd (true≢false (sym a))
      by O.Remainder a = absurd (true≢false (sym a))
      by O.At a = absurd (true≢false (sym a))
      by O.Add a = absurd (true≢false (sym a))

  -- the length of a value
  fun-there : (fun : Fun) (m : Evaluated) → is_length fun ≡ true → IsThere m →
      IsThere (and_then m (λ v. measure fun (seq_of v)))
  fun-there fun (Err t) e h = absurd h
  fun-there U.First (Ok v) e h = absurd (true≢false (sym e))
  fun-there U.Last (Ok v) e h = absurd (true≢false (sym e))
  fun-there U.Rest (Ok v) e h = absurd (true≢false (sym e))
  fun-there U.Front (Ok v) e h = absurd (true≢false (sym e))
  fun-there U.Len (Ok v) e h = tt

  -- and beside a literal
  length-there : (fun : Fun) (m : Evaluated) → is_length fun ≡ true → IsThere m →
      IsThere (and_then m (λ v. exact_length fun (seq_of v)))
  length-there fun (Err t) e h = absurd h
  length-there U.First (Ok v) e h = absurd (true≢false (sym e))
  length-there U.Last (Ok v) e h = absurd (true≢false (sym e))
  length-there U.Rest (Ok v) e h = absurd (true≢false (sym e))
  length-there U.Front (Ok v) e h = absurd (true≢false (sym e))
  length-there U.Len (Ok v) e h = tt

  -- two parts that have a kind together have one each
  parts-are : (op : Op) (l r : Option Kind) (k : Kind) →
      option_and_then (λ left. option_and_then (P.two_kind op left) r) l ≡ Some k →
      (a : Kind) × (b : Kind) × (l ≡ Some a) × (r ≡ Some b)
  parts-are op (Some a) (Some b) k h = (a, b, refl, refl)
  parts-are op (Some a) None k h = absurd (none-some k h)
  parts-are op None r k h = absurd (none-some k h)

  -- a part that is wanted has a kind
  part-is : (wanted : Kind) (o : Option Kind) (g k : Kind) → P.where_of wanted o g ≡ Some k →
      (a : Kind) × (o ≡ Some a)
  part-is wanted (Some a) g k h = (a, refl)
  part-is wanted None g k h = absurd (none-some k h)

  -- a literal that has a kind has 64 bits
  fits-is : (b : Bool) (k : Kind) → (if b then Some K.Int else None) ≡ Some k → b ≡ true
  fits-is true k h = refl
  fits-is false k h = absurd (none-some k h)

  -- what is claimed of a node
  NodeClaim : Node Ref → Type 0
  NodeClaim n = ValuedSo (kind_of_node s n) (look_of_node n) (part_of_node n)

  -- what is claimed of an expression
  Claim : Expr Ref → Type 0
  Claim e = ValuedSo (P.kind_in s e) (look_of e) (part_of e)

  -- a node has a value where its layer does
  layer-valued : (d : Node-F Ref (Node Ref) (Expr Ref)) →
      ValuedSo
      (P.node_kind s (map-Node Ref (Node Ref) (Expr Ref) (Option Kind) (Option Kind) (kind_of_node s)
      (P.kind_in s) d))
      (node_look (map-Node Ref (Node Ref) (Expr Ref) Look Look look_of_node look_of d))
      (node_part (map-Node Ref (Node Ref) (Expr Ref) Part Part part_of_node part_of d)) →
      NodeClaim (roll-Node Ref d)
  unfolding NodeClaim
  layer-valued d h k e =
      subst (λ q. Valued q (part_of_node (roll-Node Ref d))) (sym (look-roll d))
      (subst (λ p. Valued (node_look (map-Node Ref (Node Ref) (Expr Ref) Look Look look_of_node look_of d)) p)
      (sym (part-roll d)) (h k (sym (kind-roll s d) ∙ e)))

  -- what is told false isn't true
  never : {A : Type 0} → false ≡ true → A
  never e = absurd (true≢false (sym e))

  module _ (X Y : Type 0) (f : X → Node Ref) (g : Y → Expr Ref) (each_part : (y : Y) → Claim (g y)) where
    node-valued : (y : Node-F Ref X Y) → NodeClaim (roll-Node Ref
        (map-Node Ref X Y (Node Ref) (Expr Ref) f g y))
    unfolding NodeClaim Claim
    node-valued (N.Int z) = layer-valued (N.Int z) (λ k h. record {
      digits = λ e. (e, fits-is (fits z) k h);
      name = λ e. tt;
      value = λ e. tt;
      beside = λ e. tt;
    })
    node-valued (N.Bool b) = layer-valued (N.Bool b) (λ k h. record
        { digits = λ e. never e; name = λ e. tt; value = λ e. tt; beside = λ e. tt })
    node-valued N.Empty = layer-valued N.Empty (λ k h. record
        { digits = λ e. never e; name = λ e. tt; value = λ e. tt; beside = λ e. tt })
    node-valued (N.Name name) = layer-valued (N.Name name) (λ k h. record
        { digits = λ e. never e; name = λ e. tt; value = λ e. tt; beside = λ e. tt })
    node-valued (N.Neg e) = layer-valued (N.Neg (g e)) (λ k h.
        let own = part-is K.Int (P.kind_in s (g e)) K.Int k h in
        let inner = each_part e own.0 own.1 in
        let is = λ (i : (look_of (g e)).digits ≡ true).
        neg-there ((part_of (g e)).value vars slots) (inner.digits i) in
        record { digits = λ e. never e; name = λ e. never e; value = is; beside = is })
    node-valued (N.Not e) = layer-valued (N.Not (g e)) (λ k h.
        let own = part-is K.Bool (P.kind_in s (g e)) K.Bool k h in
        let inner = each_part e own.0 own.1 in
        let is = λ (i : (look_of (g e)).allowed ≡ true).
        not-there ((part_of (g e)).value vars slots) (inner.value i) in
        record { digits = λ e. never e; name = λ e. never e; value = is; beside = is })
    node-valued (N.Two op l r) = layer-valued (N.Two op (g l) (g r)) (λ k h.
        let own = parts-are op (P.kind_in s (g l)) (P.kind_in s (g r)) k h in
        let is = both-there op (look_of (g l)) (look_of (g r)) (part_of (g l)) (part_of (g r))
        (each_part l own.0 own.2) (each_part r own.1 own.3) in
        record { digits = λ e. never e; name = λ e. never e; value = is; beside = is })
    node-valued (N.One fun e) = layer-valued (N.One fun (g e)) (λ k h.
        let own = part-is K.Seq (P.kind_in s (g e)) (P.fun_kind fun) k h in
        let inner = each_part e own.0 own.1 in
        record {
          digits = λ e. never e;
          name = λ e. never e;
          value = λ i.
              let both = and_parts (is_length fun) (look_of (g e)).name i in
              fun-there fun ((part_of (g e)).value vars slots) both.0 (inner.name both.1);
          beside = λ i.
              let both = and_parts (is_length fun) (look_of (g e)).name i in
              length-there fun ((part_of (g e)).value vars slots) both.0 (inner.name both.1);
        })

  -- an expression has a value where its node does
  expr-valued : (e : Expr Ref) → NodeClaim e.node → Claim e
  unfolding NodeClaim Claim
  expr-valued e c k h =
      subst (λ q. Valued q (part_of e)) (sym (look-expr e))
      (subst (λ p. Valued (look_of_node e.node) p) (sym (part-expr e)) (c k (sym (kind-expr s e) ∙ h)))

  -- each expression that is allowed has a value
  claims : (e : Expr Ref) → Claim e
  claims =
      ind-Expr Ref NodeClaim Claim
      (λ x y is. subst (λ d. NodeClaim (roll-Node Ref d)) is
      (node-valued _ _ (λ e. e.0) (λ e. e.0) (λ e. e.1) y))
      (λ x y is. subst (λ d. Claim (roll-Expr Ref d)) is
      (expr-valued (roll-Expr Ref (map-Expr Ref _ _ (Node Ref) (Expr Ref) (λ e. e.0) (λ e. e.0) y))
      y.node.1))

  -- An expression that a property may have always has a value.
  pub value-there : (e : Expr Ref) (k : Kind) → P.kind_in s e ≡ Some k → (look_of e).allowed ≡ true →
      IsThere (value e vars slots)
  unfolding Claim
  value-there e k h a = (claims e k h).value a
