-- The value of an expression depends on the variables that stand in it.
use Rattle.std.proofs.Common.{◌≡◌, ℕ, pos, neg_ℤ, Bool, true, false, ◌||◌, not, if◌then◌else◌, List, []}
use Rattle.std.proofs.Common.{◌∷◌, ◌++◌, Ok, Err, refl, sym, ap, ◌∙◌, subst, get_or}
use Rattle.std.specs.Prelude.{slice_get, unwrap_or}
use Rattle.std.proofs.lemmas.Option.{unwrap_or-slice_get}
use Rattle.std.proofs.lemmas.Bool.{eq-eqb}
use Rattle.seuss_program.specs.declared.tree.Ref.{Ref}
use Rattle.seuss_program.specs.declared.tree.Ref.TheVariants as R
use Rattle.seuss_program.specs.declared.tree.Op.{Op}
use Rattle.seuss_program.specs.declared.tree.Op.TheVariants as O
use Rattle.seuss_program.specs.declared.tree.Node.{Node, fold-Node, fold-roll-Node, map-Node, roll-Node}
use Rattle.seuss_program.specs.declared.tree.Node.TheOpen as L
use Rattle.seuss_program.specs.declared.tree.Node.TheOpen.{Node-F}
use Rattle.seuss_program.specs.declared.tree.Expr.{Expr, fold_out-Expr, ind-Expr, roll-Expr, map-Expr}
use Rattle.seuss_program.specs.declared.state.Value.{Value}
use Rattle.seuss_program.specs.declared.state.Value.TheVariants as V
use Rattle.seuss_program.specs.Values.{Evaluated, Part, part_of, node_part, value, apply, exact, measure}
use Rattle.seuss_program.specs.Values.{exact_length, named, and_then, both, int_of, bool_of, seq_of}
use Rattle.seuss_program.specs.Bodies.{arguments, arguments_after, argument_then}
use Rattle.effect_sets.specs.Effects.{is_variable, node_mentions, mentions, any_mentions}

-- variables that agree where a set holds
abbrev pub Near : (ℕ → Bool) → List Value → List Value → Type 0
Near set vars others = (v : ℕ) → set v ≡ true → slice_get vars v ≡ slice_get others v

pub or_left : (a b : Bool) → a ≡ true → (a || b) ≡ true
or_left true b h = refl
or_left false b h = absurd (false_true h)
  where
    false_true : false ≡ true → ⊥
    false_true h = cc

pub or_right : (a b : Bool) → b ≡ true → (a || b) ≡ true
or_right true b h = refl
or_right false b h = h

-- a value at a place, by what stands there
same_at : (vars others : List Value) (at : ℕ) (d : Value) → slice_get vars at ≡ slice_get others at →
    get_or vars at d ≡ get_or others at d
same_at vars others at d h = sym (unwrap_or-slice_get vars at d)
    ∙ (ap (λ o. unwrap_or o d) h ∙ unwrap_or-slice_get others at d)

-- whether a variable stands in a node
pub node_has : ℕ → Node Ref → Bool
node_has v n = fold-Node Ref Bool Bool (node_mentions v) (λ layer. layer.node) n

pub has-roll : (v : ℕ) (d : Node-F Ref (Node Ref) (Expr Ref)) →
    node_has v (roll-Node Ref d)
    ≡ node_mentions v (map-Node Ref (Node Ref) (Expr Ref) Bool Bool (node_has v) (mentions v) d)
unfolding mentions node_has
has-roll v d = fold-roll-Node Ref Bool Bool (node_mentions v) (λ layer. layer.node) d

pub has-expr : (v : ℕ) (e : Expr Ref) → mentions v e ≡ node_has v e.node
unfolding mentions node_has
has-expr v e = fold_out-Expr Ref Bool Bool (node_mentions v) (λ layer. layer.node) e

-- what variables that agree make of an expression
module _ (vars others slots : List Value) where
  -- a part has the same value on both
  record SamePart (part : Part) : Type 0 where
    value : part.value vars slots ≡ part.value others slots
    beside : part.beside vars slots ≡ part.beside others slots

  named_same : (name : Ref) → Near (λ v. is_variable v name) vars others →
      named name vars slots ≡ named name others slots
  named_same (R.Var n) near = same_at vars others n (V.Int (pos 0)) (near n (eq-eqb n n refl))
  named_same (R.Slot n) near = refl
  named_same (R.Given n) near = refl
  named_same (R.Method n) near = refl
  named_same (R.Cat n) near = refl

  -- two parts under an operator
  module _ (l r : Part) (same_l : SamePart l) (same_r : SamePart r) where
    -- a part beside another one, or plain
    either_same : (b : Bool) (part : Part) → SamePart part →
        (if b then part.beside else part.value) vars slots
        ≡ (if b then part.beside else part.value) others slots
    either_same true part same = same.beside
    either_same false part same = same.value

    taken : (op : Op) (m m' n n' : Evaluated) → m ≡ m' → n ≡ n' →
        and_then m (λ x. and_then n (apply op x)) ≡ and_then m' (λ x. and_then n' (apply op x))
    taken op m m' n n' h k = ap (λ m. and_then m (λ x. and_then n (apply op x))) h
        ∙ ap (λ n. and_then m' (λ x. and_then n (apply op x))) k

    compared : (op : Op) → and_then ((if r.literal then l.beside else l.value) vars slots)
        (λ x. and_then ((if l.literal then r.beside else r.value) vars slots) (apply op x))
        ≡ and_then ((if r.literal then l.beside else l.value) others slots)
        (λ x. and_then ((if l.literal then r.beside else r.value) others slots) (apply op x))
    compared op = taken op _ _ _ _ (either_same r.literal l same_l) (either_same l.literal r same_r)

    computed : (op : Op) → and_then (l.value vars slots) (λ x. and_then (r.value vars slots) (apply op x))
        ≡ and_then (l.value others slots) (λ x. and_then (r.value others slots) (apply op x))
    computed op = taken op _ _ _ _ same_l.value same_r.value

    both_same : (op : Op) → both op l r vars slots ≡ both op l r others slots
    both_same O.Or =
        ap (λ m. and_then m (λ x. if bool_of x then Ok (V.Bool true) else and_then (r.value vars slots)
        (λ y. Ok (V.Bool (bool_of y))))) same_l.value
        ∙ ap (λ n. and_then (l.value others slots)
        (λ x. if bool_of x then Ok (V.Bool true) else and_then n (λ y. Ok (V.Bool (bool_of y)))))
        same_r.value
    both_same O.And =
        ap (λ m. and_then m (λ x. if bool_of x then and_then (r.value vars slots)
        (λ y. Ok (V.Bool (bool_of y))) else Ok (V.Bool false))) same_l.value
        ∙ ap (λ n. and_then (l.value others slots)
        (λ x. if bool_of x then and_then n (λ y. Ok (V.Bool (bool_of y))) else Ok (V.Bool false)))
        same_r.value
    both_same O.Eq = compared O.Eq
    both_same O.Ne = compared O.Ne
    both_same O.Lt = compared O.Lt
    both_same O.Le = compared O.Le
    both_same O.Gt = compared O.Gt
    both_same O.Ge = compared O.Ge
    both_same O.Plus = computed O.Plus
    both_same O.Minus = computed O.Minus
    both_same O.WrapPlus = computed O.WrapPlus
    both_same O.WrapMinus = computed O.WrapMinus
    both_same O.Times = computed O.Times
    both_same O.Divide = computed O.Divide
    both_same O.Remainder = computed O.Remainder
    both_same O.At = computed O.At
    both_same O.Add = computed O.Add

  node_of : Node Ref → Part
  node_of n = fold-Node Ref Part Part node_part (λ layer. layer.node) n

  node-roll : (d : Node-F Ref (Node Ref) (Expr Ref)) →
      node_of (roll-Node Ref d) ≡ node_part (map-Node Ref (Node Ref) (Expr Ref) Part Part node_of part_of d)
  unfolding part_of node_of
  node-roll d = fold-roll-Node Ref Part Part node_part (λ layer. layer.node) d

  part-expr : (e : Expr Ref) → part_of e ≡ node_of e.node
  unfolding part_of node_of
  part-expr e = fold_out-Expr Ref Part Part node_part (λ layer. layer.node) e

  -- a part has the same value where its variables agree
  So : (ℕ → Bool) → Part → Type 0
  So has part = Near has vars others → SamePart part

  NodeClaim : Node Ref → Type 0
  unfolding So
  NodeClaim n = So (λ v. node_has v n) (node_of n)

  Claim : Expr Ref → Type 0
  unfolding So
  Claim e = So (λ v. mentions v e) (part_of e)

  layer : (d : Node-F Ref (Node Ref) (Expr Ref)) →
      So (λ v. node_mentions v (map-Node Ref (Node Ref) (Expr Ref) Bool Bool (node_has v) (mentions v) d))
      (node_part (map-Node Ref (Node Ref) (Expr Ref) Part Part node_of part_of d)) →
      NodeClaim (roll-Node Ref d)
  unfolding NodeClaim So
  layer d h near = subst SamePart (sym (node-roll d)) (h (λ v e. near v (has-roll v d ∙ e)))

  module _ (X Y : Type 0) (f : X → Node Ref) (g : Y → Expr Ref) (each_part : (y : Y) → Claim (g y)) where
    node-step : (y : Node-F Ref X Y) →
        NodeClaim (roll-Node Ref (map-Node Ref X Y (Node Ref) (Expr Ref) f g y))
    unfolding NodeClaim Claim So
    node-step (L.Int z) = layer (L.Int z) (λ near. record { value = refl; beside = refl })
    node-step (L.Bool b) = layer (L.Bool b) (λ near. record { value = refl; beside = refl })
    node-step L.Empty = layer L.Empty (λ near. record { value = refl; beside = refl })
    node-step (L.Name name) = layer (L.Name name)
        (λ near. let same = named_same name near in record { value = ap Ok same; beside = ap Ok same })
    node-step (L.Neg e) = layer (L.Neg (g e)) (λ near.
        let same = ap (λ m. and_then m (λ v. exact (neg_ℤ (int_of v)))) (each_part e near).value in
        record { value = same; beside = same })
    node-step (L.Not e) = layer (L.Not (g e)) (λ near.
        let same = ap (λ m. and_then m (λ v. Ok (V.Bool (not (bool_of v))))) (each_part e near).value in
        record { value = same; beside = same })
    node-step (L.Two op l r) = layer (L.Two op (g l) (g r)) (λ near.
        let same = both_same (part_of (g l)) (part_of (g r))
        (each_part l (λ v h. near v (or_left (mentions v (g l)) (mentions v (g r)) h)))
        (each_part r (λ v h. near v (or_right (mentions v (g l)) (mentions v (g r)) h))) op in
        record { value = same; beside = same })
    node-step (L.One fun e) = layer (L.One fun (g e)) (λ near. let same = each_part e near in record {
      value = ap (λ m. and_then m (λ v. measure fun (seq_of v))) same.value;
      beside = ap (λ m. and_then m (λ v. exact_length fun (seq_of v))) same.value;
    })

  expr-claim : (e : Expr Ref) → NodeClaim e.node → Claim e
  unfolding NodeClaim Claim So
  expr-claim e c near = subst SamePart (sym (part-expr e)) (c (λ v h. near v (has-expr v e ∙ h)))

  claims : (e : Expr Ref) → Claim e
  claims = ind-Expr Ref NodeClaim Claim
      (λ x y is. subst (λ d. NodeClaim (roll-Node Ref d)) is
      (node-step _ _ (λ e. e.0) (λ e. e.0) (λ e. e.1) y))
      (λ x y is. subst (λ d. Claim (roll-Expr Ref d)) is
      (expr-claim (roll-Expr Ref (map-Expr Ref _ _ (Node Ref) (Expr Ref) (λ e. e.0) (λ e. e.0) y))
      y.node.1))

  -- an expression has the same value where the variables in it agree
  pub value_same : (e : Expr Ref) → Near (λ v. mentions v e) vars others →
      value e vars slots ≡ value e others slots
  unfolding Claim So
  value_same e near = (claims e near).value

  -- arguments have the same values where the variables in them agree
  after_same : (es : List (Expr Ref)) (values : List Value) → Near (λ v. any_mentions v es) vars others →
      arguments_after values es vars slots ≡ arguments_after values es others slots
  after_same [] values near = refl
  after_same (e ∷ es) values near =
      ap (λ m. argument_then m values (λ more. arguments_after more es vars slots))
      (value_same e (λ v h. near v (or_left (mentions v e) (any_mentions v es) h)))
      ∙ by (value e others slots)
      (λ more. after_same es more (λ v h. near v (or_right (mentions v e) (any_mentions v es) h)))
    where
      by : (m : Evaluated) → ((more : List Value) →
          arguments_after more es vars slots ≡ arguments_after more es others slots) →
          argument_then m values (λ more. arguments_after more es vars slots)
          ≡ argument_then m values (λ more. arguments_after more es others slots)
      by (Err t) then_same = refl
      by (Ok v) then_same = then_same (values ++ v ∷ [])

  pub arguments_same : (es : List (Expr Ref)) → Near (λ v. any_mentions v es) vars others →
      arguments es vars slots ≡ arguments es others slots
  arguments_same es near = after_same es [] near
