-- A value has the kind of its expression, and numbers of 64 bits.
use Rattle.std.specs.Prelude.{◌≡◌, ℕ, zero, suc, ◌-◌, ℤ, pos, negsuc, neg_ℤ, ◌+ℤ◌, ◌-ℤ◌, ◌*ℤ◌, int_div}
use Rattle.std.specs.Prelude.{int_rem, Bool, true, false, not, if◌then◌else◌, List, [], ◌∷◌, map, length}
use Rattle.std.specs.Prelude.{take, drop, slice_get, slice_index_or, Option, None, Some, option_and_then}
use Rattle.std.specs.Prelude.{Ok, Err, IfOk, IfSome, All, IsTrue}
use Rattle.std.specs.Ordering.{int_eq}
use Rattle.std.proofs.Common.{refl, sym, ap, subst, ◌∙◌, true≢false}
use Rattle.std.proofs.lemmas.List.Elements.{All-nil, All-push, All-take, All-drop}
use Rattle.seuss_base.specs.declared.outcome.Trap.TheVariants.{Overflow, ZeroDivisor}
use Rattle.seuss_program.specs.declared.state.Value.{Value}
use Rattle.seuss_program.specs.declared.state.Value.TheVariants as V
use Rattle.seuss_program.specs.declared.tree.Ref.{Ref}
use Rattle.seuss_program.specs.declared.tree.Ref.TheVariants as R
use Rattle.seuss_program.specs.declared.tree.Kind.{Kind}
use Rattle.seuss_program.specs.declared.tree.Kind.TheVariants as K
use Rattle.seuss_program.specs.declared.tree.Op.{Op}
use Rattle.seuss_program.specs.declared.tree.Op.TheVariants as O
use Rattle.seuss_program.specs.declared.tree.Fun.{Fun}
use Rattle.seuss_program.specs.declared.tree.Fun.TheVariants as U
use Rattle.seuss_program.specs.declared.tree.Node.{Node, fold-Node, fold-roll-Node, map-Node, roll-Node}
use Rattle.seuss_program.specs.declared.tree.Node.TheOpen as N
use Rattle.seuss_program.specs.declared.tree.Node.TheOpen.{Node-F}
use Rattle.seuss_program.specs.declared.tree.Expr.{Expr, fold_out-Expr, ind-Expr, roll-Expr, map-Expr}
use Rattle.seuss_program.specs.Values.{Part, Evaluated, node_part, part_of, named, both, next_to, negated}
use Rattle.seuss_program.specs.Values.{and_then, is_comparison, exact, wrapped, quotient, remainder, found}
use Rattle.seuss_program.specs.Values.{element, of_some, measure, apply, int_of, bool_of, seq_of, fits}
use Rattle.seuss_program.specs.Values.{HasSize, value}
use Rattle.seuss_program.specs.Keeping as P
use Rattle.meaning_laws.specs.Kinds.{IsOf, standing}
use Rattle.meaning_laws.proofs.FittingNumbers.{Fits, wrapped-fits, remainder-fits, all-or, all-get}

-- a value of a kind, whose numbers have 64 bits, or a trap
abbrev pub Gives : Evaluated → Kind → Type 0
Gives m k = IfOk m (λ v. IsOf v k)

-- a value whose numbers have 64 bits, or a trap
abbrev Sized : Evaluated → Type 0
Sized m = IfOk m HasSize

-- a value of a kind has numbers of 64 bits
sized : (m : Evaluated) (k : Kind) → Gives m k → Sized m
sized (Err t) k h = tt
sized (Ok v) k h = h.1

-- the number and the sequence that a value is have 64 bits
pub int-fits : (v : Value) → HasSize v → IsTrue (fits (int_of v))
int-fits (V.Int z) h = h
int-fits (V.Bool b) h = refl
int-fits (V.Seq zs) h = refl

-- the numbers of the sequence that a value is have 64 bits
seq-fits : (v : Value) → HasSize v → All Fits (seq_of v)
seq-fits (V.Int z) h = All-nil Fits
seq-fits (V.Bool b) h = All-nil Fits
seq-fits (V.Seq zs) h = h

-- what is done with a value, where each value is right
then-gives : (m : Evaluated) (f : Value → Evaluated) (k : Kind) → ((v : Value) → Gives (f v) k) →
    Gives (and_then m f) k
then-gives (Err t) f k h = tt
then-gives (Ok v) f k h = h v

-- either of two
if-gives : (t : Bool) (m n : Evaluated) (k : Kind) → Gives m k → Gives n k → Gives (if t then m else n) k
if-gives true m n k h g = h
if-gives false m n k h g = g

-- the exact number is a number of 64 bits, by its own test
exact-gives : (z : ℤ) → Gives (exact z) K.Int
exact-gives z = by (fits z) refl
  where
    by : (t : Bool) → fits z ≡ t → Gives (if t then Ok (V.Int z) else Err Overflow) K.Int
    by true h = (refl, h)
    by false h = tt

-- what is left of a number modulo 2 ^ 64 has 64 bits
wrapped-gives : (z : ℤ) → Gives (wrapped z) K.Int
wrapped-gives z = (refl, wrapped-fits z)

-- an element of a sequence is a number of 64 bits
found-gives : (o : Option ℤ) → IfSome o Fits → Gives (found o) K.Int
found-gives None h = tt
found-gives (Some z) h = (refl, h)

-- an element that is there is an int of 64 bits
element-gives : (zs : List ℤ) (z : ℤ) → All Fits zs → Gives (element zs z) K.Int
element-gives zs (pos n) all = found-gives (slice_get zs n) (all-get Fits zs n all)
element-gives zs (negsuc n) all = tt

-- a function of a sequence
of_some-gives : (zs : List ℤ) (v : Value) (k : Kind) → IsOf v k → Gives (of_some zs v) k
of_some-gives [] v k h = tt
of_some-gives (z ∷ zs) v k h = h

-- a function of a sequence gives its kind
measure-gives : (fun : Fun) (zs : List ℤ) → All Fits zs → Gives (measure fun zs) (P.fun_kind fun)
measure-gives U.First zs all =
    of_some-gives zs (V.Int (slice_index_or zs 0 (pos 0))) K.Int
    (refl, all-or Fits zs 0 (pos 0) all refl)
measure-gives U.Last zs all =
    of_some-gives zs (V.Int (slice_index_or zs (length zs - 1) (pos 0))) K.Int
    (refl, all-or Fits zs (length zs - 1) (pos 0) all refl)
measure-gives U.Rest zs all = of_some-gives zs (V.Seq (drop 1 zs)) K.Seq (refl, All-drop Fits 1 zs all)
measure-gives U.Front zs all =
    of_some-gives zs (V.Seq (take (length zs - 1) zs)) K.Seq (refl, All-take Fits (length zs - 1) zs all)
measure-gives U.Len zs all = wrapped-gives (pos (length zs))

-- a function of a value of 64 bits
measured-gives : (fun : Fun) (m : Evaluated) → Sized m →
    Gives (and_then m (λ v. measure fun (seq_of v))) (P.fun_kind fun)
measured-gives fun (Err t) h = tt
measured-gives fun (Ok v) h = measure-gives fun (seq_of v) (seq-fits v h)

-- the kind that an operator gives
abbrev op_kind : Op → Kind
op_kind O.Or = K.Bool
op_kind O.And = K.Bool
op_kind O.Eq = K.Bool
op_kind O.Ne = K.Bool
op_kind O.Lt = K.Bool
op_kind O.Le = K.Bool
op_kind O.Gt = K.Bool
op_kind O.Ge = K.Bool
op_kind O.Plus = K.Int
op_kind O.Minus = K.Int
op_kind O.WrapPlus = K.Int
op_kind O.WrapMinus = K.Int
op_kind O.Times = K.Int
op_kind O.Divide = K.Int
op_kind O.Remainder = K.Int
op_kind O.At = K.Int
op_kind O.Add = K.Seq

-- a quotient, by its own test, and a remainder
quotient-gives : (x y : ℤ) → Gives (quotient x y) K.Int
quotient-gives x y =
    if-gives (int_eq y (pos 0)) (Err ZeroDivisor) (exact (int_div x y)) K.Int tt (exact-gives (int_div x y))

-- a remainder is an int of 64 bits, by the tests of the divisor and of the quotient
remainder-gives : (x y : ℤ) → IsTrue (fits y) → Gives (remainder x y) K.Int
remainder-gives x y small = by (int_eq y (pos 0)) refl
  where
    by : (t : Bool) → int_eq y (pos 0) ≡ t →
        Gives (if t then Err ZeroDivisor
        else (if fits (int_div x y) then Ok (V.Int (int_rem x y)) else Err Overflow)) K.Int
    by true is = tt
    by false is =
        if-gives (fits (int_div x y)) (Ok (V.Int (int_rem x y))) (Err Overflow) K.Int
        (refl, remainder-fits x y small is) tt

-- A comparison is of any two values, and every other operator is of values whose numbers have 64 bits.
apply-gives : (op : Op) (x y : Value) → (is_comparison op ≡ false → HasSize x × HasSize y) →
    Gives (apply op x y) (op_kind op)
apply-gives O.Or x y h = (refl, tt)
apply-gives O.And x y h = (refl, tt)
apply-gives O.Eq x y h = (refl, tt)
apply-gives O.Ne x y h = (refl, tt)
apply-gives O.Lt x y h = (refl, tt)
apply-gives O.Le x y h = (refl, tt)
apply-gives O.Gt x y h = (refl, tt)
apply-gives O.Ge x y h = (refl, tt)
apply-gives O.Plus x y h = exact-gives (int_of x +ℤ int_of y)
apply-gives O.Minus x y h = exact-gives (int_of x -ℤ int_of y)
apply-gives O.WrapPlus x y h = wrapped-gives (int_of x +ℤ int_of y)
apply-gives O.WrapMinus x y h = wrapped-gives (int_of x -ℤ int_of y)
apply-gives O.Times x y h = exact-gives (int_of x *ℤ int_of y)
apply-gives O.Divide x y h = quotient-gives (int_of x) (int_of y)
apply-gives O.Remainder x y h = remainder-gives (int_of x) (int_of y) (int-fits y (h refl).1)
apply-gives O.At x y h = element-gives (seq_of x) (int_of y) (seq-fits x (h refl).0)
apply-gives O.Add x y h =
    (refl, All-push Fits (seq_of x) (int_of y) (seq-fits x (h refl).0) (int-fits y (h refl).1))

-- two values under an operator
two-give : (op : Op) (m n : Evaluated) → (is_comparison op ≡ false → Sized m × Sized n) →
    Gives (and_then m (λ x. and_then n (apply op x))) (op_kind op)
two-give op (Err t) n h = tt
two-give op (Ok x) (Err t) h = tt
two-give op (Ok x) (Ok y) h = apply-gives op x y h

-- the second part of `or` and `and`, and these
bool-gives : (m : Evaluated) → Gives (and_then m (λ y. Ok (V.Bool (bool_of y)))) K.Bool
bool-gives m = then-gives m (λ y. Ok (V.Bool (bool_of y))) K.Bool (λ y. (refl, tt))

-- `or` gives a bool
either-gives : (l r : Evaluated) →
    Gives (and_then l
    (λ x. if bool_of x then Ok (V.Bool true) else and_then r (λ y. Ok (V.Bool (bool_of y))))) K.Bool
either-gives l r =
    then-gives l
    (λ x. if bool_of x then Ok (V.Bool true) else and_then r (λ y. Ok (V.Bool (bool_of y)))) K.Bool
    (λ x. if-gives (bool_of x) (Ok (V.Bool true)) (and_then r (λ y. Ok (V.Bool (bool_of y)))) K.Bool
    (refl, tt) (bool-gives r))

-- `and` gives a bool
each-gives : (l r : Evaluated) →
    Gives (and_then l
    (λ x. if bool_of x then and_then r (λ y. Ok (V.Bool (bool_of y))) else Ok (V.Bool false))) K.Bool
each-gives l r =
    then-gives l
    (λ x. if bool_of x then and_then r (λ y. Ok (V.Bool (bool_of y))) else Ok (V.Bool false)) K.Bool
    (λ x. if-gives (bool_of x) (and_then r (λ y. Ok (V.Bool (bool_of y)))) (Ok (V.Bool false)) K.Bool
    (bool-gives r) (refl, tt))

-- two parts under an operator, whose values have numbers of 64 bits
both-gives : (op : Op) (l r : Part) (vars slots : List Value) → Sized (l.value vars slots) →
    Sized (r.value vars slots) → Gives (both op l r vars slots) (op_kind op)
both-gives O.Or l r vars slots h g = either-gives (l.value vars slots) (r.value vars slots)
both-gives O.And l r vars slots h g = each-gives (l.value vars slots) (r.value vars slots)
both-gives O.Eq l r vars slots h g =
    two-give O.Eq (next_to O.Eq l r vars slots) (next_to O.Eq r l vars slots)
    (λ e. absurd (true≢false e))
both-gives O.Ne l r vars slots h g =
    two-give O.Ne (next_to O.Ne l r vars slots) (next_to O.Ne r l vars slots)
    (λ e. absurd (true≢false e))
both-gives O.Lt l r vars slots h g =
    two-give O.Lt (next_to O.Lt l r vars slots) (next_to O.Lt r l vars slots)
    (λ e. absurd (true≢false e))
both-gives O.Le l r vars slots h g =
    two-give O.Le (next_to O.Le l r vars slots) (next_to O.Le r l vars slots)
    (λ e. absurd (true≢false e))
both-gives O.Gt l r vars slots h g =
    two-give O.Gt (next_to O.Gt l r vars slots) (next_to O.Gt r l vars slots)
    (λ e. absurd (true≢false e))
both-gives O.Ge l r vars slots h g =
    two-give O.Ge (next_to O.Ge l r vars slots) (next_to O.Ge r l vars slots)
    (λ e. absurd (true≢false e))
both-gives O.Plus l r vars slots h g =
    two-give O.Plus (l.value vars slots) (r.value vars slots) (λ e. (h, g))
both-gives O.Minus l r vars slots h g =
    two-give O.Minus (l.value vars slots) (r.value vars slots) (λ e. (h, g))
both-gives O.WrapPlus l r vars slots h g =
    two-give O.WrapPlus (l.value vars slots) (r.value vars slots) (λ e. (h, g))
both-gives O.WrapMinus l r vars slots h g =
    two-give O.WrapMinus (l.value vars slots) (r.value vars slots) (λ e. (h, g))
both-gives O.Times l r vars slots h g =
    two-give O.Times (l.value vars slots) (r.value vars slots) (λ e. (h, g))
both-gives O.Divide l r vars slots h g =
    two-give O.Divide (l.value vars slots) (r.value vars slots) (λ e. (h, g))
both-gives O.Remainder l r vars slots h g =
    two-give O.Remainder (l.value vars slots) (r.value vars slots) (λ e. (h, g))
both-gives O.At l r vars slots h g =
    two-give O.At (l.value vars slots) (r.value vars slots) (λ e. (h, g))
both-gives O.Add l r vars slots h g =
    two-give O.Add (l.value vars slots) (r.value vars slots) (λ e. (h, g))

-- the kind of two parts is the one that the operator gives
chosen : (t : Bool) (k j : Kind) → (if t then Some k else None) ≡ Some j → k ≡ j
chosen true k j h = cc
chosen false k j h = absurd (cc)

-- what is chosen is there
held : (t : Bool) (k j : Kind) → (if t then Some k else None) ≡ Some j → IsTrue t
held true k j h = refl
held false k j h = absurd (cc)

-- the kind of two parts is the one that the operator gives
two-is : (op : Op) (a b k : Kind) → P.two_kind op a b ≡ Some k → op_kind op ≡ k
two-is O.Or a b k h = chosen _ K.Bool k h
two-is O.And a b k h = chosen _ K.Bool k h
two-is O.Eq a b k h = chosen _ K.Bool k h
two-is O.Ne a b k h = chosen _ K.Bool k h
two-is O.Lt a b k h = chosen _ K.Bool k h
two-is O.Le a b k h = chosen _ K.Bool k h
two-is O.Gt a b k h = chosen _ K.Bool k h
two-is O.Ge a b k h = chosen _ K.Bool k h
two-is O.Plus a b k h = chosen _ K.Int k h
two-is O.Minus a b k h = chosen _ K.Int k h
two-is O.WrapPlus a b k h = chosen _ K.Int k h
two-is O.WrapMinus a b k h = chosen _ K.Int k h
two-is O.Times a b k h = chosen _ K.Int k h
two-is O.Divide a b k h = chosen _ K.Int k h
two-is O.Remainder a b k h = chosen _ K.Int k h
two-is O.At a b k h = chosen _ K.Int k h
two-is O.Add a b k h = chosen _ K.Seq k h

-- each of two parts has a kind
parts-are : (op : Op) (l r : Option Kind) (k : Kind) →
    option_and_then (λ left. option_and_then (P.two_kind op left) r) l ≡ Some k →
    (a : Kind) × (b : Kind) × (l ≡ Some a) × (r ≡ Some b) × (op_kind op ≡ k)
parts-are op (Some a) (Some b) k h = (a, b, refl, refl, two-is op a b k h)
parts-are op (Some a) None k h = absurd (cc)
parts-are op None r k h = absurd (cc)

-- a part that has to be of a kind has one
part-is : (wanted : Kind) (o : Option Kind) (g k : Kind) → P.where_of wanted o g ≡ Some k →
    (a : Kind) × (o ≡ Some a) × (g ≡ k)
part-is wanted (Some a) g k h = (a, refl, chosen (P.is_of wanted (Some a)) g k h)
part-is wanted None g k h = absurd (cc)

-- the meaning of a node, and that of an expression by its node
pub part_of_node : Node Ref → Part
part_of_node n = fold-Node Ref Part Part node_part (λ layer. layer.node) n

-- an expression is the part that its node is
pub part-expr : (e : Expr Ref) → part_of e ≡ part_of_node e.node
unfolding part_of part_of_node
part-expr e = fold_out-Expr Ref Part Part node_part (λ layer. layer.node) e

-- a node is the part that its layer is
pub part-roll : (d : Node-F Ref (Node Ref) (Expr Ref)) →
    part_of_node (roll-Node Ref d)
    ≡ node_part (map-Node Ref (Node Ref) (Expr Ref) Part Part part_of_node part_of d)
unfolding part_of part_of_node
part-roll d = fold-roll-Node Ref Part Part node_part (λ layer. layer.node) d

-- the kind of a node, and that of an expression by its node
module _ (s : P.Scope) where
  -- the kind of a node
  pub kind_of_node : Node Ref → Option Kind
  kind_of_node n = fold-Node Ref (Option Kind) (Option Kind) (P.node_kind s) (λ layer. layer.node) n

  -- an expression has the kind of its node
  pub kind-expr : (e : Expr Ref) → P.kind_in s e ≡ kind_of_node e.node
  unfolding P.kind_in kind_of_node
  kind-expr e = fold_out-Expr Ref (Option Kind) (Option Kind) (P.node_kind s) (λ layer. layer.node) e

  -- a node has the kind of its layer
  pub kind-roll : (d : Node-F Ref (Node Ref) (Expr Ref)) →
      kind_of_node (roll-Node Ref d)
      ≡ P.node_kind s
      (map-Node Ref (Node Ref) (Expr Ref) (Option Kind) (Option Kind) kind_of_node (P.kind_in s) d)
  unfolding P.kind_in kind_of_node
  kind-roll d = fold-roll-Node Ref (Option Kind) (Option Kind) (P.node_kind s) (λ layer. layer.node) d

-- the value at a place has the kind there
pub kind-there : (vs : List Value) (ks : List Kind) (n : ℕ) (k : Kind) (d : Value) → P.AreOf vs ks →
    slice_get ks n ≡ Some k → P.kind_of (slice_index_or vs n d) ≡ k
kind-there vs ks n k d h e = go vs n (ap (λ l. slice_get l n) h.kinds ∙ e)
  where
    go : (vs : List Value) (n : ℕ) → slice_get (map P.kind_of vs) n ≡ Some k →
        P.kind_of (slice_index_or vs n d) ≡ k
    go [] n h = absurd (cc)
    go (v ∷ vs) zero h = cc
    go (v ∷ vs) (suc n) h = go vs n h

-- and its numbers have 64 bits
value-there : (vs : List Value) (ks : List Kind) (n : ℕ) (k : Kind) → P.AreOf vs ks →
    slice_get ks n ≡ Some k → IsOf (slice_index_or vs n (V.Int (pos 0))) k
value-there vs ks n k h e =
    (kind-there vs ks n k (V.Int (pos 0)) h e, all-or HasSize vs n (V.Int (pos 0)) h.sizes refl)

module _ (s : P.Scope) (vars slots : List Value) (typed_vars : P.AreOf vars s.vars)
    (typed_slots : P.AreOf slots s.slots) where
  -- a name gives a value of its kind
  pub name-gives : (name : Ref) (k : Kind) → P.kind_at s name ≡ Some k → IsOf (named name vars slots) k
  name-gives (R.Var n) k h = value-there vars s.vars n k typed_vars h
  name-gives (R.Slot n) k h = value-there slots s.slots n k typed_slots h
  name-gives (R.Given n) k h = absurd (cc)
  name-gives (R.Method n) k h = absurd (cc)
  name-gives (R.Cat n) k h = absurd (cc)

  -- a part gives a value of its kind, where it has one
  abbrev KindSo : Option Kind → Part → Type 0
  KindSo o part = (k : Kind) → o ≡ Some k → Gives (part.value vars slots) k

  -- a node gives a value of its kind
  NodeClaim : Node Ref → Type 0
  NodeClaim n = KindSo (kind_of_node s n) (part_of_node n)

  -- an expression gives a value of its kind
  Claim : Expr Ref → Type 0
  Claim e = KindSo (P.kind_in s e) (part_of e)

  -- a node gives such a value where its layer does
  layer-gives : (d : Node-F Ref (Node Ref) (Expr Ref)) →
      KindSo
      (P.node_kind s
      (map-Node Ref (Node Ref) (Expr Ref) (Option Kind) (Option Kind) (kind_of_node s) (P.kind_in s) d))
      (node_part (map-Node Ref (Node Ref) (Expr Ref) Part Part part_of_node part_of d)) →
      NodeClaim (roll-Node Ref d)
  unfolding NodeClaim
  layer-gives d h k e =
      subst (λ (p : Part). Gives (p.value vars slots) k) (sym (part-roll d))
      (h k (sym (kind-roll s d) ∙ e))

  -- what each node gives by its parts
  neg-gives : (part : Part) (o : Option Kind) → KindSo (P.where_of K.Int o K.Int) (negated part)
  neg-gives part o k h =
      let f = λ (v : Value). exact (neg_ℤ (int_of v)) in
      subst (Gives (and_then (part.value vars slots) f)) (chosen (P.is_of K.Int o) K.Int k h)
      (then-gives (part.value vars slots) f K.Int (λ v. exact-gives (neg_ℤ (int_of v))))

  -- a part after `not` gives a value of its kind
  not-gives : (part : Part) (o : Option Kind) (k : Kind) → P.where_of K.Bool o K.Bool ≡ Some k →
      Gives (and_then (part.value vars slots) (λ v. Ok (V.Bool (not (bool_of v))))) k
  not-gives part o k h =
      let f : Value → Evaluated = λ v. Ok (V.Bool (not (bool_of v))) in
      subst (Gives (and_then (part.value vars slots) f)) (chosen (P.is_of K.Bool o) K.Bool k h)
      (then-gives (part.value vars slots) f K.Bool (λ v. (refl, tt)))

  -- two parts under an operator give a value of their kind
  two-parts-give : (op : Op) (l r : Part) (lo ro : Option Kind) → KindSo lo l → KindSo ro r → (k : Kind) →
      option_and_then (λ left. option_and_then (P.two_kind op left) ro) lo ≡ Some k →
      Gives (both op l r vars slots) k
  two-parts-give op l r lo ro left right k h =
      let are = parts-are op lo ro k h in
      subst (Gives (both op l r vars slots)) are.4
      (both-gives op l r vars slots (sized (l.value vars slots) are.0 (left are.0 are.2))
      (sized (r.value vars slots) are.1 (right are.1 are.3)))

  -- a function of a part gives a value of its kind
  one-part-gives : (fun : Fun) (part : Part) (o : Option Kind) → KindSo o part → (k : Kind) →
      P.where_of K.Seq o (P.fun_kind fun) ≡ Some k →
      Gives (and_then (part.value vars slots) (λ v. measure fun (seq_of v))) k
  one-part-gives fun part o has k h =
      let is = part-is K.Seq o (P.fun_kind fun) k h in
      subst (Gives (and_then (part.value vars slots) (λ v. measure fun (seq_of v)))) is.2
      (measured-gives fun (part.value vars slots) (sized (part.value vars slots) is.0 (has is.0 is.1)))

  module _ (X Y : Type 0) (f : X → Node Ref) (g : Y → Expr Ref) (each_part : (y : Y) → Claim (g y)) where
    -- a node gives a value of its kind where its parts do
    node-gives : (y : Node-F Ref X Y) →
        NodeClaim (roll-Node Ref (map-Node Ref X Y (Node Ref) (Expr Ref) f g y))
    unfolding NodeClaim Claim
    node-gives (N.Int z) =
        layer-gives (N.Int z) (λ k h. (chosen (fits z) K.Int k h, held (fits z) K.Int k h))
    node-gives (N.Bool b) = layer-gives (N.Bool b) (λ k h. (chosen true K.Bool k h, tt))
    node-gives N.Empty = layer-gives N.Empty (λ k h. (chosen true K.Seq k h, All-nil Fits))
    node-gives (N.Name name) = layer-gives (N.Name name) (λ k h. name-gives name k h)
    node-gives (N.Neg e) = layer-gives (N.Neg (g e)) (neg-gives (part_of (g e)) (P.kind_in s (g e)))
    node-gives (N.Not e) = layer-gives (N.Not (g e)) (not-gives (part_of (g e)) (P.kind_in s (g e)))
    node-gives (N.Two op l r) =
        layer-gives (N.Two op (g l) (g r))
        (two-parts-give op (part_of (g l)) (part_of (g r)) (P.kind_in s (g l)) (P.kind_in s (g r))
        (each_part l) (each_part r))
    node-gives (N.One fun e) =
        layer-gives (N.One fun (g e))
        (one-part-gives fun (part_of (g e)) (P.kind_in s (g e)) (each_part e))

  -- an expression gives a value of its kind where its node does
  expr-gives : (e : Expr Ref) → NodeClaim e.node → Claim e
  unfolding NodeClaim Claim
  expr-gives e c k h =
      subst (λ (p : Part). Gives (p.value vars slots) k) (sym (part-expr e)) (c k (sym (kind-expr s e) ∙ h))

  -- each expression gives a value of its kind
  claims : (e : Expr Ref) → Claim e
  claims =
      ind-Expr Ref NodeClaim Claim
      (λ x y is. subst (λ d. NodeClaim (roll-Node Ref d)) is
      (node-gives _ _ (λ e. e.0) (λ e. e.0) (λ e. e.1) y))
      (λ x y is. subst (λ d. Claim (roll-Expr Ref d)) is
      (expr-gives (roll-Expr Ref (map-Expr Ref _ _ (Node Ref) (Expr Ref) (λ e. e.0) (λ e. e.0) y))
      y.node.1))

  -- the value of an expression is of its kind, and its numbers have 64 bits
  pub value-gives : (e : Expr Ref) (k : Kind) → P.kind_in s e ≡ Some k →
      IfOk (value e vars slots) (λ v. IsOf v k)
  unfolding Claim
  value-gives e k h = claims e k h

-- a value of a kind is there, and it is the one that a place stands for
pub kind-stands : (vs : List Value) (ks : List Kind) (n : ℕ) (k : Kind) (d : Value) → P.AreOf vs ks →
    slice_get ks n ≡ Some k → slice_get vs n ≡ Some (slice_index_or vs n d)
kind-stands vs ks n k d h e = go vs n (ap (λ l. slice_get l n) h.kinds ∙ e)
  where
    go : (vs : List Value) (n : ℕ) → slice_get (map P.kind_of vs) n ≡ Some k →
        slice_get vs n ≡ Some (slice_index_or vs n d)
    go [] n h = absurd (cc)
    go (v ∷ vs) zero h = refl
    go (v ∷ vs) (suc n) h = go vs n h

module _ (s : P.Scope) (vars slots : List Value) (typed_vars : P.AreOf vars s.vars)
    (typed_slots : P.AreOf slots s.slots) where
  -- a name that has a kind is that of a value that is there
  pub name-stands : (name : Ref) (k : Kind) → P.kind_at s name ≡ Some k →
      standing name vars slots ≡ Some (named name vars slots)
  name-stands (R.Var n) k h = kind-stands vars s.vars n k (V.Int (pos 0)) typed_vars h
  name-stands (R.Slot n) k h = kind-stands slots s.slots n k (V.Int (pos 0)) typed_slots h
  name-stands (R.Given n) k h = absurd (cc)
  name-stands (R.Method n) k h = absurd (cc)
  name-stands (R.Cat n) k h = absurd (cc)

-- the kind of what may be assigned
pub kind-set : (s : P.Scope) (name : Ref) (k : Kind) → P.kind_set s name ≡ Some k → P.kind_at s name ≡ Some k
kind-set s (R.Var n) k h = h
kind-set s (R.Slot n) k h = by _ h
  where
    by : (b : Bool) → (if b then None else slice_get s.slots n) ≡ Some k → slice_get s.slots n ≡ Some k
    by true h = absurd (cc)
    by false h = h
kind-set s (R.Given n) k h = absurd (cc)
kind-set s (R.Method n) k h = absurd (cc)
kind-set s (R.Cat n) k h = absurd (cc)
