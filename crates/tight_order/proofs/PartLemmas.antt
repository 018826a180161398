-- What the nodes of an expression mean, by what their parts mean, and what the interpreter owes at each.
use Rattle.std.proofs.Common.{◌≡◌, ℤ, Bool, true, false, ◌&&◌, ◌||◌, not, if◌then◌else◌, List, [], Result}
use Rattle.std.proofs.Common.{Ok, Err, refl, sym, ap, subst, ◌∙◌, neg_ℤ}
use Rattle.seuss_program.specs.declared.state.Value.{Value}
use Rattle.seuss_program.specs.declared.state.Value.TheVariants as V
use Rattle.seuss_program.specs.declared.tree.Ref.{Ref}
use Rattle.seuss_program.specs.declared.tree.Op.{Op}
use Rattle.seuss_program.specs.declared.tree.Op.TheVariants as O
use Rattle.seuss_program.specs.declared.tree.Fun.{Fun}
use Rattle.seuss_program.specs.declared.tree.Node.{Node, fold-Node, fold-roll-Node, map-Node, roll-Node}
use Rattle.seuss_program.specs.declared.tree.Node.TheOpen as N
use Rattle.seuss_program.specs.declared.tree.Node.TheVariants as NV
use Rattle.seuss_program.specs.declared.tree.Node.TheVariants.{rolls-Int, rolls-Bool, rolls-Empty}
use Rattle.seuss_program.specs.declared.tree.Node.TheVariants.{rolls-Name, rolls-Neg, rolls-Not, rolls-Two}
use Rattle.seuss_program.specs.declared.tree.Node.TheVariants.{rolls-One}
use Rattle.seuss_program.specs.declared.tree.Node.TheOpen.{Node-F}
use Rattle.seuss_program.specs.declared.tree.Expr.{Expr, fold_out-Expr}
use Rattle.seuss_program.specs.Values.{Part, Evaluated, node_part, part_of, named, both, next_to}
use Rattle.seuss_program.specs.Values.{is_comparison, and_then, exact, int_of, bool_of, seq_of, measure}
use Rattle.seuss_program.specs.Values.{exact_length, apply}
use Rattle.tight_order.specs.declared.stop.Stop.{Stop}
use Rattle.tight_order.specs.declared.stop.Stop.TheVariants as S
use Rattle.tight_order.specs.Answers.{Evaluates, HasValue}
use Rattle.tight_order.specs.Lazy.{decides}

-- what a node means
node_of : Node Ref → Part
node_of n = fold-Node Ref Part Part node_part (λ layer. layer.node) n

-- an expression means what its node means
part-node : (e : Expr Ref) → part_of e ≡ node_of e.node
unfolding part_of node_of
part-node e = fold_out-Expr Ref Part Part node_part (λ layer. layer.node) e

-- what a node of one layer means
abbrev layer_of : Node-F Ref (Node Ref) (Expr Ref) → Node-F Ref Part Part
layer_of d = map-Node Ref (Node Ref) (Expr Ref) Part Part node_of part_of d

node-roll : (d : Node-F Ref (Node Ref) (Expr Ref)) → node_of (roll-Node Ref d) ≡ node_part (layer_of d)
unfolding part_of node_of
node-roll d = fold-roll-Node Ref Part Part node_part (λ layer. layer.node) d

-- an expression means what its layer means
part-layer : (e : Expr Ref) (d : Node-F Ref (Node Ref) (Expr Ref)) → e.node ≡ roll-Node Ref d →
    part_of e ≡ node_part (layer_of d)
part-layer e d h = part-node e ∙ (ap node_of h ∙ node-roll d)

-- what stops the first step of an evaluation stops it
stopped : (s : Stop) (m : Evaluated) (f : Value → Evaluated) → Evaluates (Err s) m →
    Evaluates (Err s) (and_then m f)
stopped (S.Trapped t) m f h = ap (λ x. and_then x f) h
stopped S.Spent m f h = h
stopped S.Memory m f h = tt

-- the second step starts from the value of the first one
went_on : (v : Value) (m : Evaluated) (f : Value → Evaluated) (r : Result Value Stop) → m ≡ Ok v →
    Evaluates r (f v) → Evaluates r (and_then m f)
went_on v m f r h k = subst (λ x. Evaluates r (and_then x f)) (sym h) k

-- the second step may be written in another way
and_then-same : (m : Evaluated) (f g : Value → Evaluated) → ((x : Value) → f x ≡ g x) →
    and_then m f ≡ and_then m g
and_then-same (Err t) f g h = refl
and_then-same (Ok v) f g h = h v

-- the second step of two parts
second : Op → Evaluated → Value → Evaluated
second op right x = if decides op (bool_of x) then Ok (V.Bool (bool_of x)) else and_then right (apply op x)

or-second : (b : Bool) (m : Evaluated) →
    (if b then Ok (V.Bool true) else and_then m (λ y. Ok (V.Bool (bool_of y))))
    ≡ (if b then Ok (V.Bool b) else and_then m (λ y. Ok (V.Bool (b || bool_of y))))
or-second true m = refl
or-second false m = refl

and-second : (b : Bool) (m : Evaluated) →
    (if b then and_then m (λ y. Ok (V.Bool (bool_of y))) else Ok (V.Bool false))
    ≡ (if not b then Ok (V.Bool b) else and_then m (λ y. Ok (V.Bool (b && bool_of y))))
and-second true m = refl
and-second false m = refl

module _ (l r : Part) (vars slots : List Value) where
  -- two parts are two steps, whatever the operator is
  both-second : (op : Op) → both op l r vars slots
      ≡ and_then (next_to op l r vars slots) (second op (next_to op r l vars slots))
  unfolding second
  both-second O.Or = and_then-same (l.value vars slots) _ _ (λ x. or-second (bool_of x) (r.value vars slots))
  both-second O.And = and_then-same (l.value vars slots) _ _
      (λ x. and-second (bool_of x) (r.value vars slots))
  both-second O.Eq = refl
  both-second O.Ne = refl
  both-second O.Lt = refl
  both-second O.Le = refl
  both-second O.Gt = refl
  both-second O.Ge = refl
  both-second O.Plus = refl
  both-second O.Minus = refl
  both-second O.WrapPlus = refl
  both-second O.WrapMinus = refl
  both-second O.Times = refl
  both-second O.Divide = refl
  both-second O.Remainder = refl
  both-second O.At = refl
  both-second O.Add = refl

-- an answer that has the value of a part in every place has it next to another part
next-value : (b : Bool) (p : Part) (vars slots : List Value) (r : Result Value Stop) →
    HasValue r p vars slots → Evaluates r ((if b then p.beside else p.value) vars slots)
next-value true p vars slots r h = h.beside
next-value false p vars slots r h = h.value

-- equal parts have the same value
pub same_part : (r : Result Value Stop) (x y : Expr Ref) (vars slots : List Value) → x ≡ y →
    HasValue r (part_of x) vars slots → HasValue r (part_of y) vars slots
same_part r x y vars slots e h = subst (λ (p : Expr Ref). HasValue r (part_of p) vars slots) e h

module _ (e : Expr Ref) (vars slots : List Value) where
  at_layer : (d : Node-F Ref (Node Ref) (Expr Ref)) (r : Result Value Stop) → e.node ≡ roll-Node Ref d →
      HasValue r (node_part (layer_of d)) vars slots → HasValue r (part_of e) vars slots
  at_layer d r h k = subst (λ (p : Part). HasValue r p vars slots) (sym (part-layer e d h)) k

  pub int_value : (z : ℤ) → e.node ≡ NV.Int z → HasValue (Ok (V.Int z)) (part_of e) vars slots
  int_value z h = at_layer (N.Int z) (Ok (V.Int z)) (h ∙ sym (rolls-Int z))
      (record { value = refl; beside = refl })

  pub bool_value : (b : Bool) → e.node ≡ NV.Bool b → HasValue (Ok (V.Bool b)) (part_of e) vars slots
  bool_value b h = at_layer (N.Bool b) (Ok (V.Bool b)) (h ∙ sym (rolls-Bool b))
      (record { value = refl; beside = refl })

  pub empty_value : (zs : List ℤ) → zs ≡ [] → e.node ≡ NV.Empty →
      HasValue (Ok (V.Seq zs)) (part_of e) vars slots
  empty_value zs none h =
      at_layer N.Empty (Ok (V.Seq zs)) (h ∙ sym (rolls-Empty))
      (record {
        value = ap (λ xs. Ok (V.Seq xs)) (sym none);
        beside =
            ap (λ xs. Ok (V.Seq xs)) (sym none);
      })

  pub name_value : (name : Ref) (r : Result Value Stop) → e.node ≡ NV.Name name →
      Evaluates r (Ok (named name vars slots)) → HasValue r (part_of e) vars slots
  name_value name r h k = at_layer (N.Name name) r (h ∙ sym (rolls-Name name))
      (record { value = k; beside = k })

  module _ (part : Expr Ref) where
    pub neg_stopped : (s : Stop) → e.node ≡ NV.Neg part → HasValue (Err s) (part_of part) vars slots →
        HasValue (Err s) (part_of e) vars slots
    neg_stopped s h k =
        let stop : Evaluates (Err s)
        (and_then ((part_of part).value vars slots) (λ v. exact (neg_ℤ (int_of v)))) =
        stopped s _ _ k.value in
        at_layer (N.Neg part) (Err s) (h ∙ sym (rolls-Neg part)) (record { value = stop; beside = stop })

    pub neg_value : (v : Value) (r : Result Value Stop) → e.node ≡ NV.Neg part →
        HasValue (Ok v) (part_of part) vars slots → Evaluates r (exact (neg_ℤ (int_of v))) →
        HasValue r (part_of e) vars slots
    neg_value v r h k m =
        let done : Evaluates r (and_then ((part_of part).value vars slots) (λ v. exact (neg_ℤ (int_of v))))
        = went_on v _ _ r k.value m in
        at_layer (N.Neg part) r (h ∙ sym (rolls-Neg part)) (record { value = done; beside = done })

    pub not_stopped : (s : Stop) → e.node ≡ NV.Not part → HasValue (Err s) (part_of part) vars slots →
        HasValue (Err s) (part_of e) vars slots
    not_stopped s h k =
        let stop : Evaluates (Err s)
        (and_then ((part_of part).value vars slots) (λ v. Ok (V.Bool (not (bool_of v))))) =
        stopped s _ _ k.value in
        at_layer (N.Not part) (Err s) (h ∙ sym (rolls-Not part)) (record { value = stop; beside = stop })

    pub not_value : (v : Value) (b : Bool) → e.node ≡ NV.Not part →
        HasValue (Ok v) (part_of part) vars slots → b ≡ bool_of v →
        HasValue (Ok (V.Bool (not b))) (part_of e) vars slots
    not_value v b h k m =
        let done : Evaluates (Ok (V.Bool (not b)))
        (and_then ((part_of part).value vars slots) (λ v. Ok (V.Bool (not (bool_of v))))) =
        went_on v _ _ (Ok (V.Bool (not b))) k.value (ap (λ x. Ok (V.Bool (not x))) (sym m)) in
        at_layer (N.Not part) (Ok (V.Bool (not b))) (h ∙ sym (rolls-Not part))
        (record { value = done; beside = done })

    pub one_stopped : (fun : Fun) (s : Stop) → e.node ≡ NV.One fun part →
        HasValue (Err s) (part_of part) vars slots → HasValue (Err s) (part_of e) vars slots
    one_stopped fun s h k =
        at_layer (N.One fun part) (Err s) (h ∙ sym (rolls-One fun part))
        (record { value = stopped s _ _ k.value; beside = stopped s _ _ k.value })

    pub one_value : (fun : Fun) (v : Value) (zs : List ℤ) (r : Result Value Stop) →
        e.node ≡ NV.One fun part → HasValue (Ok v) (part_of part) vars slots → zs ≡ seq_of v →
        Evaluates r (measure fun zs) → Evaluates r (exact_length fun zs) → HasValue r (part_of e) vars slots
    one_value fun v zs r h k m value beside =
        at_layer (N.One fun part) r (h ∙ sym (rolls-One fun part))
        (record {
          value = went_on v _ _ r k.value (subst (λ xs. Evaluates r (measure fun xs)) m value);
          beside = went_on v _ _ r k.value (subst (λ xs. Evaluates r (exact_length fun xs)) m beside);
        })

  module _ (op : Op) (left right : Expr Ref) where
    -- what the two parts mean, as two steps
    two_steps : Evaluated
    two_steps = and_then (next_to op (part_of left) (part_of right) vars slots)
        (second op (next_to op (part_of right) (part_of left) vars slots))

    at_two : (r : Result Value Stop) → e.node ≡ NV.Two op left right → Evaluates r two_steps →
        HasValue r (part_of e) vars slots
    unfolding two_steps
    at_two r h k =
        let done : Evaluates r (both op (part_of left) (part_of right) vars slots) =
        subst (λ m. Evaluates r m) (sym (both-second (part_of left) (part_of right) vars slots op)) k in
        at_layer (N.Two op left right) r (h ∙ sym (rolls-Two op left right))
        (record { value = done; beside = done })

    pub left_stopped : (s : Stop) → e.node ≡ NV.Two op left right →
        HasValue (Err s) (part_of left) vars slots → HasValue (Err s) (part_of e) vars slots
    unfolding two_steps
    left_stopped s h k = at_two (Err s) h
        (stopped s _ _ (next-value (is_comparison op && (part_of right).literal) (part_of left) vars slots
        (Err s) k))

    from_left : (x : Value) (r : Result Value Stop) → e.node ≡ NV.Two op left right →
        HasValue (Ok x) (part_of left) vars slots →
        Evaluates r (second op (next_to op (part_of right) (part_of left) vars slots) x) →
        HasValue r (part_of e) vars slots
    unfolding two_steps
    from_left x r h k m = at_two r h
        (went_on x _ _ r (next-value (is_comparison op && (part_of right).literal) (part_of left) vars slots
        (Ok x) k) m)

    pub left_decides : (x : Value) (b c : Bool) → e.node ≡ NV.Two op left right →
        HasValue (Ok x) (part_of left) vars slots → decides op b ≡ true →
        b ≡ bool_of x → c ≡ bool_of x → HasValue (Ok (V.Bool c)) (part_of e) vars slots
    unfolding second
    left_decides x b c h k m same same' =
        from_left x (Ok (V.Bool c)) h k
        (subst (λ (d : Bool).
        (if d then Ok (V.Bool (bool_of x)) else and_then
        (next_to op (part_of right) (part_of left) vars slots) (apply op x)) ≡ Ok (V.Bool c))
        (sym m ∙ ap (decides op) same) (ap (λ d. Ok (V.Bool d)) (sym same')))

    from_right : (x : Value) (b : Bool) (r : Result Value Stop) → e.node ≡ NV.Two op left right →
        HasValue (Ok x) (part_of left) vars slots → decides op b ≡ false →
        b ≡ bool_of x → Evaluates r
        (and_then (next_to op (part_of right) (part_of left) vars slots) (apply op x)) →
        HasValue r (part_of e) vars slots
    unfolding second
    from_right x b r h k m same n =
        from_left x r h k
        (subst (λ (d : Bool). Evaluates r
        (if d then Ok (V.Bool (bool_of x)) else and_then
        (next_to op (part_of right) (part_of left) vars slots) (apply op x)))
        (sym m ∙ ap (decides op) same) n)

    pub right_stopped : (x : Value) (b : Bool) (s : Stop) → e.node ≡ NV.Two op left right →
        HasValue (Ok x) (part_of left) vars slots → decides op b ≡ false →
        b ≡ bool_of x → HasValue (Err s) (part_of right) vars slots → HasValue (Err s) (part_of e) vars slots
    right_stopped x b s h k m same n =
        from_right x b (Err s) h k m same
        (stopped s _ _ (next-value (is_comparison op && (part_of left).literal) (part_of right) vars
        slots (Err s) n))

    pub two_value : (x y : Value) (b : Bool) (r : Result Value Stop) → e.node ≡ NV.Two op left right →
        HasValue (Ok x) (part_of left) vars slots → decides op b ≡ false →
        b ≡ bool_of x → HasValue (Ok y) (part_of right) vars slots → Evaluates r (apply op x y) →
        HasValue r (part_of e) vars slots
    two_value x y b r h k m same n done =
        from_right x b r h k m same
        (went_on y _ _ r (next-value (is_comparison op && (part_of left).literal) (part_of right) vars
        slots (Ok y) n) done)
