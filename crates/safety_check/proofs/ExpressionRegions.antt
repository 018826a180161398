-- The value of an expression lies in its region.
use Rattle.std.proofs.Common.{◌≡◌, ℤ, pos, neg_ℤ, ◌-ℤ◌, Bool, true, false, not, ◌&&◌, if◌then◌else◌, List}
use Rattle.std.proofs.Common.{Option, None, Some, Ok, Err, refl, sym, ap, subst, ◌∙◌, arith}
use Rattle.std.proofs.Common.{true≢false}
use Rattle.std.specs.Prelude.{IfSome, IfOk, option_map, option_and_then}
use Rattle.std.proofs.lemmas.Int.{ints}
use Rattle.seuss_program.specs.declared.state.Value.{Value}
use Rattle.seuss_program.specs.declared.state.Value.TheVariants as V
use Rattle.seuss_program.specs.declared.tree.Ref.{Ref}
use Rattle.seuss_program.specs.declared.tree.Kind.{Kind}
use Rattle.seuss_program.specs.declared.tree.Kind.TheVariants as K
use Rattle.seuss_program.specs.declared.tree.Op.{Op}
use Rattle.seuss_program.specs.declared.tree.Op.TheVariants as O
use Rattle.seuss_program.specs.declared.tree.Fun.{Fun}
use Rattle.seuss_program.specs.declared.tree.Node.{Node, fold-Node, fold-roll-Node, map-Node, roll-Node}
use Rattle.seuss_program.specs.declared.tree.Node.TheOpen as N
use Rattle.seuss_program.specs.declared.tree.Node.TheOpen.{Node-F}
use Rattle.seuss_program.specs.declared.tree.Expr.{Expr, fold_out-Expr, ind-Expr, roll-Expr, map-Expr}
use Rattle.seuss_program.specs.Values.{Part, Evaluated, node_part, part_of, named, both, next_to}
use Rattle.seuss_program.specs.Values.{and_then}
use Rattle.seuss_program.specs.Values.{is_comparison, exact, measure, exact_length, apply, int_of, bool_of}
use Rattle.seuss_program.specs.Values.{seq_of}
use Rattle.seuss_program.specs.Values.{HasSize, value}
use Rattle.seuss_program.specs.Keeping as P
use Rattle.meaning_laws.proofs.ValueKinds.{part_of_node, part-expr, part-roll, kind_of_node, kind-expr}
use Rattle.meaning_laws.proofs.ValueKinds.{kind-roll}
use Rattle.meaning_laws.proofs.ValueKinds.{value-gives, Gives}
use Rattle.meaning_laws.proofs.CalledProcedures.{none-some}
use Rattle.safety_check.specs.Spans.{single, differences}
use Rattle.safety_check.specs.Regions.{Region, Truth, Regions, Fit, Lies}
use Rattle.safety_check.specs.Regions.{numbers_of}
use Rattle.safety_check.specs.Regions.{truth_of}
use Rattle.safety_check.specs.RegionValues.{Told, Sides, next_to as side_next_to, or_known, and_known}
use Rattle.safety_check.specs.RegionValues.{or_right, and_right}
use Rattle.safety_check.specs.RegionValues.{combined, node_sides, sides, region, minus_region, not_region}
use Rattle.safety_check.specs.RegionValues.{apply_region, measure_region, length_region, exact_region}
use Rattle.safety_check.proofs.SpanLaws.{single-within, differences-within}
use Rattle.safety_check.proofs.RegionLaws.{number-within, truth-is, exact-told, not-told, apply-told}
use Rattle.safety_check.proofs.RegionLaws.{measure-told, length-told}

-- a node as a side, and an expression by its node
pub sides_of_node : Regions → Node Ref → Sides
sides_of_node regions n = fold-Node Ref Sides Sides (node_sides regions) (λ layer. layer.node) n

-- an expression is what its node is
pub sides-expr : (regions : Regions) (e : Expr Ref) → sides regions e ≡ sides_of_node regions e.node
unfolding sides sides_of_node
sides-expr regions e = fold_out-Expr Ref Sides Sides (node_sides regions) (λ layer. layer.node) e

-- a node is what its layer is
pub sides-roll : (regions : Regions) (d : Node-F Ref (Node Ref) (Expr Ref)) →
    sides_of_node regions (roll-Node Ref d)
    ≡ node_sides regions
    (map-Node Ref (Node Ref) (Expr Ref) Sides Sides (sides_of_node regions) (sides regions) d)
unfolding sides sides_of_node
sides-roll regions d = fold-roll-Node Ref Sides Sides (node_sides regions) (λ layer. layer.node) d

-- a value, where it is one, whose numbers have 64 bits
abbrev Sized : Evaluated → Type 0
Sized m = IfOk m HasSize

-- a value of a kind has numbers of 64 bits
sized : (m : Evaluated) (k : Kind) → Gives m k → Sized m
sized (Err t) k h = tt
sized (Ok v) k h = h.1

-- two values under an operator
two-told : (op : Op) (l r : Option Region) (m n : Evaluated) → Told l m → Told r n →
    (is_comparison op ≡ false → Sized m × Sized n) →
    Told (option_and_then (λ x. option_and_then (apply_region op x) r) l)
    (and_then m (λ x. and_then n (apply op x)))
two-told op l r (Err t) n h g a = tt
two-told op l r (Ok x) (Err t) h g a = tt
two-told op None r (Ok x) (Ok y) h g a = absurd h
two-told op (Some q) None (Ok x) (Ok y) h g a = absurd g
two-told op (Some q) (Some w) (Ok x) (Ok y) h g a = apply-told op q w x y h g a

-- the right side of `or` and `and`
right-told : (r : Option Region) (n : Evaluated) → Told r n →
    Told (option_map (λ q. Truth (truth_of q)) r) (and_then n (λ y. Ok (V.Bool (bool_of y))))
right-told r (Err t) h = tt
right-told None (Ok y) h = h
right-told (Some q) (Ok y) h = truth-is q y h

-- what `or` is by its right side
or-known-told : (o : Option Bool) (b : Bool) → IfSome o (λ k. b ≡ k) → IfSome (or_known o) (λ k. b ≡ k)
or-known-told None b h = tt
or-known-told (Some true) b h = h
or-known-told (Some false) b h = tt

-- `or` whose left side is true
or-known-true : (o : Option Bool) → IfSome (or_known o) (λ k. true ≡ k)
or-known-true None = tt
or-known-true (Some true) = refl
or-known-true (Some false) = tt

-- what `and` is by its right side
and-known-told : (o : Option Bool) (b : Bool) → IfSome o (λ k. b ≡ k) → IfSome (and_known o) (λ k. b ≡ k)
and-known-told None b h = tt
and-known-told (Some true) b h = tt
and-known-told (Some false) b h = h

-- `and` whose left side is false
and-known-false : (o : Option Bool) → IfSome (and_known o) (λ k. false ≡ k)
and-known-false None = tt
and-known-false (Some true) = tt
and-known-false (Some false) = refl

-- `or` of two values
or-told : (l r : Option Region) (m n : Evaluated) → Told l m → Told r n →
    Told (option_and_then (λ x. or_right (truth_of x) r) l)
    (and_then m (λ x. if bool_of x then Ok (V.Bool true) else and_then n (λ y. Ok (V.Bool (bool_of y)))))
or-told l r (Err t) n h g = tt
or-told None r (Ok x) n h g = absurd h
or-told (Some q) r (Ok x) n h g = by (truth_of q) (bool_of x) (truth-is q x h) r n g
  where
    by : (k : Option Bool) (b : Bool) → IfSome k (λ k. b ≡ k) → (r : Option Region) (n : Evaluated) →
        Told r n →
        Told (or_right k r) (if b then Ok (V.Bool true) else and_then n (λ y. Ok (V.Bool (bool_of y))))
    by (Some true) true e r n g = refl
    by (Some true) false e r n g = absurd (true≢false (sym e))
    by (Some false) true e r n g = absurd (true≢false e)
    by (Some false) false e r n g = right-told r n g
    by None true e None n g = refl
    by None true e (Some w) n g = or-known-true (truth_of w)
    by None false e r (Err t) g = tt
    by None false e None (Ok y) g = absurd g
    by None false e (Some w) (Ok y) g = or-known-told (truth_of w) (bool_of y) (truth-is w y g)

-- `and` of two values
and-told : (l r : Option Region) (m n : Evaluated) → Told l m → Told r n →
    Told (option_and_then (λ x. and_right (truth_of x) r) l)
    (and_then m (λ x. if bool_of x then and_then n (λ y. Ok (V.Bool (bool_of y))) else Ok (V.Bool false)))
and-told l r (Err t) n h g = tt
and-told None r (Ok x) n h g = absurd h
and-told (Some q) r (Ok x) n h g = by (truth_of q) (bool_of x) (truth-is q x h) r n g
  where
    by : (k : Option Bool) (b : Bool) → IfSome k (λ k. b ≡ k) → (r : Option Region) (n : Evaluated) →
        Told r n →
        Told (and_right k r) (if b then and_then n (λ y. Ok (V.Bool (bool_of y))) else Ok (V.Bool false))
    by (Some false) false e r n g = refl
    by (Some false) true e r n g = absurd (true≢false e)
    by (Some true) false e r n g = absurd (true≢false (sym e))
    by (Some true) true e r n g = right-told r n g
    by None false e None n g = refl
    by None false e (Some w) n g = and-known-false (truth_of w)
    by None true e r (Err t) g = tt
    by None true e None (Ok y) g = absurd g
    by None true e (Some w) (Ok y) g = and-known-told (truth_of w) (bool_of y) (truth-is w y g)

module _ (s : P.Scope) (vars slots : List Value) (regions : Regions) where
  -- what is told of a part
  pub record Agree (q : Sides) (part : Part) : Type 0 where
    pub digits : q.digits ≡ part.digits
    pub literal : q.literal ≡ part.literal
    pub region : Told (q.region) (part.value vars slots)
    pub beside : Told (q.beside) (part.beside vars slots)

  -- a part next to another one
  next-told : (op : Op) (q w : Sides) (l r : Part) → Agree q l → Agree w r →
      Told (side_next_to op q w) (next_to op l r vars slots)
  next-told op q w l r h g =
      by (is_comparison op && w.literal) (is_comparison op && r.literal)
      (ap (λ b. is_comparison op && b) g.literal)
    where
      by : (b c : Bool) → b ≡ c →
          Told (if b then q.beside else q.region) ((if c then l.beside else l.value) vars slots)
      by true true e = h.beside
      by false false e = h.region
      by true false e = absurd (true≢false e)
      by false true e = absurd (true≢false (sym e))

  -- two parts under an operator
  both-told : (op : Op) (q w : Sides) (l r : Part) → Agree q l → Agree w r → Sized (l.value vars slots) →
      Sized (r.value vars slots) → Told (combined op (side_next_to op q w) (side_next_to op w q))
      (both op l r vars slots)
  both-told op q w l r h g x y = by op
    where
      compared : (op : Op) → is_comparison op ≡ true →
          Told (option_and_then (λ x. option_and_then (apply_region op x) (side_next_to op w q))
          (side_next_to op q w))
          (and_then (next_to op l r vars slots) (λ x. and_then (next_to op r l vars slots) (apply op x)))
      compared op e =
          two-told op (side_next_to op q w) (side_next_to op w q) (next_to op l r vars slots)
          (next_to op r l vars slots) (next-told op q w l r h g) (next-told op w q r l g h)
          (λ i. absurd (true≢false (sym e ∙ i)))

      by : (op : Op) → Told (combined op (side_next_to op q w) (side_next_to op w q)) (both op l r vars slots)
      by O.Or = or-told (q.region) (w.region) (l.value vars slots) (r.value vars slots) h.region g.region
      by O.And = and-told (q.region) (w.region) (l.value vars slots) (r.value vars slots) h.region g.region
      by O.Eq = compared O.Eq refl
      by O.Ne = compared O.Ne refl
      by O.Lt = compared O.Lt refl
      by O.Le = compared O.Le refl
      by O.Gt = compared O.Gt refl
      by O.Ge = compared O.Ge refl
      by O.Plus = two-told O.Plus (q.region) (w.region) (l.value vars slots)
          (r.value vars slots) h.region g.region (λ e. (x, y))
      by O.Minus = two-told O.Minus (q.region) (w.region) (l.value vars slots)
          (r.value vars slots) h.region g.region (λ e. (x, y))
      by O.WrapPlus = two-told O.WrapPlus (q.region) (w.region) (l.value vars slots)
          (r.value vars slots) h.region g.region (λ e. (x, y))
      by O.WrapMinus = two-told O.WrapMinus (q.region) (w.region) (l.value vars slots)
          (r.value vars slots) h.region g.region (λ e. (x, y))
      by O.Times = two-told O.Times (q.region) (w.region) (l.value vars slots)
          (r.value vars slots) h.region g.region (λ e. (x, y))
      by O.Divide = two-told O.Divide (q.region) (w.region) (l.value vars slots)
          (r.value vars slots) h.region g.region (λ e. (x, y))
      by O.Remainder = two-told O.Remainder (q.region) (w.region) (l.value vars slots)
          (r.value vars slots) h.region g.region (λ e. (x, y))
      by O.At = two-told O.At (q.region) (w.region) (l.value vars slots)
          (r.value vars slots) h.region g.region (λ e. (x, y))
      by O.Add = two-told O.Add (q.region) (w.region) (l.value vars slots)
          (r.value vars slots) h.region g.region (λ e. (x, y))

  -- one part
  minus-is : (z : ℤ) → pos 0 -ℤ z ≡ neg_ℤ z
  minus-is z = omega (arith, ints)

  -- a minus before a value
  neg-told : (o : Option Region) (m : Evaluated) → Told o m →
      Told (option_and_then minus_region o)
      (and_then m (λ v. exact (neg_ℤ (int_of v))))
  neg-told o (Err t) h = tt
  neg-told None (Ok v) h = absurd h
  neg-told (Some r) (Ok v) h =
      let d = differences (single (pos 0)) (numbers_of r) in
      subst (λ z. Told (exact_region d) (exact z)) (minus-is (int_of v))
      (exact-told d (pos 0 -ℤ int_of v)
      (λ f. differences-within (single (pos 0)) (numbers_of r) (pos 0) (int_of v) (single-within (pos 0))
      (number-within r v h) f))

  -- `not` before a value
  turned-told : (o : Option Region) (m : Evaluated) → Told o m →
      Told (option_map not_region o) (and_then m (λ v. Ok (V.Bool (not (bool_of v)))))
  turned-told o (Err t) h = tt
  turned-told None (Ok v) h = absurd h
  turned-told (Some r) (Ok v) h = not-told r v h

  -- a function of a sequence
  fun-told : (fun : Fun) (o : Option Region) (m : Evaluated) → Told o m → Sized m →
      Told (option_and_then (measure_region fun) o) (and_then m (λ v. measure fun (seq_of v)))
  fun-told fun o (Err t) h size = tt
  fun-told fun None (Ok v) h size = absurd h
  fun-told fun (Some r) (Ok v) h size = measure-told fun r v h size

  -- and beside a literal
  fun-beside : (fun : Fun) (o : Option Region) (m : Evaluated) → Told o m → Sized m →
      Told (option_and_then (length_region fun) o) (and_then m (λ v. exact_length fun (seq_of v)))
  fun-beside fun o (Err t) h size = tt
  fun-beside fun None (Ok v) h size = absurd h
  fun-beside fun (Some r) (Ok v) h size = length-told fun r v h size

  -- each of two parts has a kind, and so has one
  parts-are : (op : Op) (l r : Option Kind) (k : Kind) →
      option_and_then (λ left. option_and_then (P.two_kind op left) r) l ≡ Some k →
      (a : Kind) × (b : Kind) × (l ≡ Some a) × (r ≡ Some b)
  parts-are op (Some a) (Some b) k h = (a, b, refl, refl)
  parts-are op (Some a) None k h = absurd (none-some k h)
  parts-are op None r k h = absurd (none-some k h)

  -- a part that is wanted has a kind
  part-is : (wanted : Kind) (o : Option Kind) (g k : Kind) → P.where_of wanted o g ≡ Some k →
      (a : Kind) × (o ≡ Some a)
  part-is wanted (Some a) g k h = (a, refl)
  part-is wanted None g k h = absurd (none-some k h)

  -- each name that has a kind stands for a value of its region
  pub record FitIn : Type 0 where
    pub at : (name : Ref) (k : Kind) → P.kind_at s name ≡ Some k → Lies (regions name) (named name vars slots)

  module _ (typed_vars : P.AreOf vars s.vars) (typed_slots : P.AreOf slots s.slots) (fit : FitIn) where
    abbrev AgreeSo : Option Kind → Sides → Part → Type 0
    AgreeSo o q part = (k : Kind) → o ≡ Some k → Agree q part

    NodeClaim : Node Ref → Type 0
    NodeClaim n = AgreeSo (kind_of_node s n) (sides_of_node regions n) (part_of_node n)

    Claim : Expr Ref → Type 0
    Claim e = AgreeSo (P.kind_in s e) (sides regions e) (part_of e)

    layer-told : (d : Node-F Ref (Node Ref) (Expr Ref)) →
        AgreeSo
        (P.node_kind s (map-Node Ref (Node Ref) (Expr Ref) (Option Kind) (Option Kind) (kind_of_node s)
        (P.kind_in s) d))
        (node_sides regions (map-Node Ref (Node Ref) (Expr Ref) Sides Sides (sides_of_node regions)
        (sides regions) d))
        (node_part (map-Node Ref (Node Ref) (Expr Ref) Part Part part_of_node part_of d)) →
        NodeClaim (roll-Node Ref d)
    unfolding NodeClaim
    layer-told d h k e =
        subst (λ q. Agree q (part_of_node (roll-Node Ref d))) (sym (sides-roll regions d))
        (subst (λ p. Agree (node_sides regions (map-Node Ref (Node Ref) (Expr Ref) Sides Sides
        (sides_of_node regions) (sides regions) d)) p) (sym (part-roll d))
        (h k (sym (kind-roll s d) ∙ e)))

    sized-part : (e : Expr Ref) (k : Kind) → P.kind_in s e ≡ Some k → Sized (value e vars slots)
    sized-part e k h = sized (value e vars slots) k (value-gives s vars slots typed_vars typed_slots e k h)

    module _ (X Y : Type 0) (f : X → Node Ref) (g : Y → Expr Ref) (each_part : (y : Y) → Claim (g y)) where
      node-told : (y : Node-F Ref X Y) → NodeClaim (roll-Node Ref
          (map-Node Ref X Y (Node Ref) (Expr Ref) f g y))
      unfolding NodeClaim Claim
      node-told (N.Int z) =
          layer-told (N.Int z) (λ k h. record {
            digits = refl;
            literal = refl;
            region =
                single-within z;
            beside = single-within z;
          })
      node-told (N.Bool b) =
          layer-told (N.Bool b) (λ k h. record {
            digits = refl;
            literal = refl;
            region = refl;
            beside =
                refl;
          })
      node-told N.Empty =
          layer-told N.Empty (λ k h. record {
            digits = refl;
            literal = refl;
            region =
                single-within (pos 0);
            beside = single-within (pos 0);
          })
      node-told (N.Name name) =
          layer-told (N.Name name) (λ k h. record
          { digits = refl; literal = refl; region = fit.at name k h; beside = fit.at name k h })
      node-told (N.Neg e) =
          layer-told (N.Neg (g e)) (λ k h.
          let own = part-is K.Int (P.kind_in s (g e)) K.Int k h in
          let inner = each_part e own.0 own.1 in
          let told = neg-told ((sides regions (g e)).region) ((part_of (g e)).value vars slots)
          inner.region in
          record { digits = refl; literal = inner.digits; region = told; beside = told })
      node-told (N.Not e) =
          layer-told (N.Not (g e)) (λ k h.
          let own = part-is K.Bool (P.kind_in s (g e)) K.Bool k h in
          let inner = each_part e own.0 own.1 in
          let told = turned-told ((sides regions (g e)).region)
          ((part_of (g e)).value vars slots) inner.region in
          record { digits = refl; literal = refl; region = told; beside = told })
      node-told (N.Two op l r) =
          layer-told (N.Two op (g l) (g r)) (λ k h.
          let own = parts-are op (P.kind_in s (g l)) (P.kind_in s (g r)) k h in
          let told =
          both-told op (sides regions (g l)) (sides regions (g r)) (part_of (g l)) (part_of (g r))
          (each_part l own.0 own.2) (each_part r own.1 own.3) (sized-part (g l) own.0 own.2)
          (sized-part (g r) own.1 own.3) in
          record { digits = refl; literal = refl; region = told; beside = told })
      node-told (N.One fun e) =
          layer-told (N.One fun (g e)) (λ k h.
          let own = part-is K.Seq (P.kind_in s (g e)) (P.fun_kind fun) k h in
          let inner = each_part e own.0 own.1 in
          let size = sized-part (g e) own.0 own.1 in
          let o = (sides regions (g e)).region in
          let m = (part_of (g e)).value vars slots in
          record {
            digits = refl;
            literal = refl;
            region = fun-told fun o m inner.region size;
            beside =
                fun-beside fun o m inner.region size;
          })

    expr-told : (e : Expr Ref) → NodeClaim e.node → Claim e
    unfolding NodeClaim Claim
    expr-told e c k h =
        subst (λ q. Agree q (part_of e)) (sym (sides-expr regions e))
        (subst (λ p. Agree (sides_of_node regions e.node) p) (sym (part-expr e))
        (c k (sym (kind-expr s e) ∙ h)))

    claims : (e : Expr Ref) → Claim e
    claims =
        ind-Expr Ref NodeClaim Claim
        (λ x y is. subst (λ d. NodeClaim (roll-Node Ref d)) is
        (node-told _ _ (λ e. e.0) (λ e. e.0) (λ e. e.1) y))
        (λ x y is. subst (λ d. Claim (roll-Expr Ref d)) is
        (expr-told (roll-Expr Ref (map-Expr Ref _ _ (Node Ref) (Expr Ref) (λ e. e.0) (λ e. e.0) y))
        y.node.1))

    -- The value of an expression lies in its region, and without a region there is no value.
    pub value-told-in : (e : Expr Ref) (k : Kind) → P.kind_in s e ≡ Some k →
        Told (region e regions) (value e vars slots)
    unfolding Claim
    value-told-in e k h = (claims e k h).region

  -- so it does where each name stands for a value of its region
  pub value-told : P.AreOf vars s.vars → P.AreOf slots s.slots → Fit regions vars slots →
      (e : Expr Ref) (k : Kind) → P.kind_in s e ≡ Some k → Told (region e regions) (value e vars slots)
  value-told typed_vars typed_slots fit e k h =
      value-told-in typed_vars typed_slots (record { at = λ name k i. fit.at name }) e k h
