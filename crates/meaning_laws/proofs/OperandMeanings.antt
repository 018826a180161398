-- What two parts mean under an operator: a length beside a literal in a comparison, and all others.
use Rattle.std.proofs.Common.{◌≡◌, ◌≢◌, pos, Bool, true, false, ◌&&◌, if◌then◌else◌, IsTrue, ◌⊎◌, List}
use Rattle.std.proofs.Common.{length, Ok, Err, inl, inr, refl, sym, ap, subst, ◌∙◌, true≢false}
use Rattle.seuss_program.specs.declared.state.Value.{Value}
use Rattle.seuss_program.specs.declared.state.Value.TheVariants as V
use Rattle.seuss_program.specs.declared.tree.Ref.{Ref}
use Rattle.seuss_program.specs.declared.tree.Op.{Op}
use Rattle.seuss_program.specs.declared.tree.Op.TheVariants as O
use Rattle.seuss_program.specs.declared.tree.Fun.{Fun}
use Rattle.seuss_program.specs.declared.tree.Fun.TheVariants as F
use Rattle.seuss_program.specs.declared.tree.Node.{Node, fold-Node, fold-roll-Node, map-Node, roll-Node}
use Rattle.seuss_program.specs.declared.tree.Node.TheVariants as N
use Rattle.seuss_program.specs.declared.tree.Node.TheVariants.{rolls-Int, rolls-Neg, rolls-One}
use Rattle.seuss_program.specs.declared.tree.Node.TheOpen as L
use Rattle.seuss_program.specs.declared.tree.Node.TheOpen.{Node-F}
use Rattle.seuss_program.specs.declared.tree.Expr.{Expr, fold-Expr, ind-Expr, roll-Expr}
use Rattle.seuss_program.specs.Values.{Evaluated, Part, node_part, part_of, and_then, apply, both, next_to}
use Rattle.seuss_program.specs.Values.{bool_of, is_comparison, seq_of, value}
use Rattle.meaning_laws.specs.Literals.{IsDigits, IsLiteral, IsLength, ComparesLength}
use Rattle.meaning_laws.proofs.ValueKinds.{part_of_node}
use Rattle.meaning_laws.proofs.ExpressionMeanings.{layer-means, two-means}

-- a node has a layer
Layered : Node Ref → Type 0
Layered n = (d : Node-F Ref (Node Ref) (Expr Ref)) × (roll-Node Ref d ≡ n)

-- the node of an expression has a layer
LayeredNode : Expr Ref → Type 0
LayeredNode e = Layered e.node

-- each expression has a layer
layer-of : (e : Expr Ref) → (d : Node-F Ref (Node Ref) (Expr Ref)) × (roll-Node Ref d ≡ e.node)
unfolding Layered LayeredNode
layer-of =
    ind-Expr Ref Layered LayeredNode (λ x y is. (x, refl))
    (λ x y is. subst (λ d. LayeredNode (roll-Expr Ref d)) is y.node.1)

module _ (e : Expr Ref) where
  -- the parts inside a layer
  abbrev inside : Node-F Ref (Node Ref) (Expr Ref) → Node-F Ref Part Part
  inside d = map-Node Ref (Node Ref) (Expr Ref) Part Part part_of_node part_of d

  -- an expression is the part that its layer is
  is-layer : (d : Node-F Ref (Node Ref) (Expr Ref)) → roll-Node Ref d ≡ e.node →
      part_of e ≡ node_part (inside d)
  is-layer d rolls = layer-means e e.node d refl rolls

  -- no digits, where the layer says so
  no-digits : (d : Node-F Ref (Node Ref) (Expr Ref)) → roll-Node Ref d ≡ e.node →
      (node_part (inside d)).digits ≡ false → (part_of e).digits ≡ true → ⊥
  no-digits d rolls none h =
      true≢false (sym h ∙ (ap (λ (p : Part). p.digits) (is-layer d rolls) ∙ none))

  -- no literal, where the layer says so
  no-literal : (d : Node-F Ref (Node Ref) (Expr Ref)) → roll-Node Ref d ≡ e.node →
      (node_part (inside d)).literal ≡ false → (part_of e).literal ≡ true → ⊥
  no-literal d rolls none h =
      true≢false (sym h ∙ (ap (λ (p : Part). p.literal) (is-layer d rolls) ∙ none))

-- an expression that counts as digits is a number in digits
digits-is : (e : Expr Ref) → (part_of e).digits ≡ true → IsDigits e
digits-is e = let layer = layer-of e in by layer.0 layer.1
  where
    by : (d : Node-F Ref (Node Ref) (Expr Ref)) → roll-Node Ref d ≡ e.node → (part_of e).digits ≡ true →
        IsDigits e
    by (L.Int z) rolls h = (z, sym rolls ∙ rolls-Int z)
    by (L.Bool b) rolls h = absurd (no-digits e (L.Bool b) rolls refl h)
    by L.Empty rolls h = absurd (no-digits e L.Empty rolls refl h)
    by (L.Name name) rolls h = absurd (no-digits e (L.Name name) rolls refl h)
    by (L.Neg part) rolls h = absurd (no-digits e (L.Neg part) rolls refl h)
    by (L.Not part) rolls h = absurd (no-digits e (L.Not part) rolls refl h)
    by (L.Two op left right) rolls h = absurd (no-digits e (L.Two op left right) rolls refl h)
    by (L.One fun part) rolls h = absurd (no-digits e (L.One fun part) rolls refl h)

-- a number in digits counts as digits
is-digits : (e : Expr Ref) → IsDigits e → (part_of e).digits ≡ true
is-digits e (z, is) =
    ap (λ (p : Part). p.digits) (layer-means e (N.Int z) (L.Int z) is (rolls-Int z))

-- an expression that counts as a literal is one
literal-is : (e : Expr Ref) → (part_of e).literal ≡ true → IsLiteral e
literal-is e = let layer = layer-of e in by layer.0 layer.1
  where
    by : (d : Node-F Ref (Node Ref) (Expr Ref)) → roll-Node Ref d ≡ e.node → (part_of e).literal ≡ true →
        IsLiteral e
    by (L.Int z) rolls h = inl (z, sym rolls ∙ rolls-Int z)
    by (L.Bool b) rolls h = absurd (no-literal e (L.Bool b) rolls refl h)
    by L.Empty rolls h = absurd (no-literal e L.Empty rolls refl h)
    by (L.Name name) rolls h = absurd (no-literal e (L.Name name) rolls refl h)
    by (L.Neg part) rolls h =
        let is : (part_of e).literal ≡ (part_of part).digits =
        ap (λ (p : Part). p.literal) (is-layer e (L.Neg part) rolls) in
        inr (part, sym rolls ∙ rolls-Neg part, digits-is part (sym is ∙ h))
    by (L.Not part) rolls h = absurd (no-literal e (L.Not part) rolls refl h)
    by (L.Two op left right) rolls h = absurd (no-literal e (L.Two op left right) rolls refl h)
    by (L.One fun part) rolls h = absurd (no-literal e (L.One fun part) rolls refl h)

-- a literal counts as one
is-literal : (e : Expr Ref) → IsLiteral e → (part_of e).literal ≡ true
is-literal e (inl (z, is)) =
    ap (λ (p : Part). p.literal) (layer-means e (N.Int z) (L.Int z) is (rolls-Int z))
is-literal e (inr (part, is, digits)) =
    ap (λ (p : Part). p.literal) (layer-means e (N.Neg part) (L.Neg part) is (rolls-Neg part))
    ∙ is-digits part digits

-- what a length is as a part
length-part : (e sequence : Expr Ref) → e.node ≡ N.One F.Len sequence →
    part_of e ≡ node_part (L.One F.Len (part_of sequence))
length-part e sequence is =
    layer-means e (N.One F.Len sequence) (L.One F.Len sequence) is (rolls-One F.Len sequence)

-- beside a literal each expression that isn't a length has its value
plain-beside : (e : Expr Ref) (vars slots : List Value) → (IsLength e → ⊥) →
    (part_of e).beside vars slots ≡ value e vars slots
plain-beside e vars slots other = let layer = layer-of e in by layer.0 layer.1
  where
    same : (d : Node-F Ref (Node Ref) (Expr Ref)) → roll-Node Ref d ≡ e.node →
        (node_part (inside e d)).beside vars slots ≡ (node_part (inside e d)).value vars slots →
        (part_of e).beside vars slots ≡ value e vars slots
    same d rolls h =
        ap (λ (p : Part). p.beside vars slots) (is-layer e d rolls)
        ∙ (h ∙ sym (ap (λ (p : Part). p.value vars slots) (is-layer e d rolls)))

    by_fun : (fun : Fun) (part : Expr Ref) → roll-Node Ref (L.One fun part) ≡ e.node →
        (part_of e).beside vars slots ≡ value e vars slots
    by_fun F.Len part rolls = absurd (other (part, sym rolls ∙ rolls-One F.Len part))
    by_fun F.First part rolls = same (L.One F.First part) rolls refl
    by_fun F.Last part rolls = same (L.One F.Last part) rolls refl
    by_fun F.Rest part rolls = same (L.One F.Rest part) rolls refl
    by_fun F.Front part rolls = same (L.One F.Front part) rolls refl

    by : (d : Node-F Ref (Node Ref) (Expr Ref)) → roll-Node Ref d ≡ e.node →
        (part_of e).beside vars slots ≡ value e vars slots
    by (L.Int z) rolls = same (L.Int z) rolls refl
    by (L.Bool b) rolls = same (L.Bool b) rolls refl
    by L.Empty rolls = same L.Empty rolls refl
    by (L.Name name) rolls = same (L.Name name) rolls refl
    by (L.Neg part) rolls = same (L.Neg part) rolls refl
    by (L.Not part) rolls = same (L.Not part) rolls refl
    by (L.Two op left right) rolls = same (L.Two op left right) rolls refl
    by (L.One fun part) rolls = by_fun fun part rolls

-- two parts under any operator but `or` and `and`
both-values : (op : Op) (l r : Part) (vars slots : List Value) → op ≢ O.Or → op ≢ O.And →
    both op l r vars slots
    ≡ and_then (next_to op l r vars slots) (λ x. and_then (next_to op r l vars slots) (apply op x))
both-values O.Or l r vars slots not_or not_and = absurd (not_or refl)
both-values O.And l r vars slots not_or not_and = absurd (not_and refl)
both-values O.Eq l r vars slots not_or not_and = refl
both-values O.Ne l r vars slots not_or not_and = refl
both-values O.Lt l r vars slots not_or not_and = refl
both-values O.Le l r vars slots not_or not_and = refl
both-values O.Gt l r vars slots not_or not_and = refl
both-values O.Ge l r vars slots not_or not_and = refl
both-values O.Plus l r vars slots not_or not_and = refl
both-values O.Minus l r vars slots not_or not_and = refl
both-values O.WrapPlus l r vars slots not_or not_and = refl
both-values O.WrapMinus l r vars slots not_or not_and = refl
both-values O.Times l r vars slots not_or not_and = refl
both-values O.Divide l r vars slots not_or not_and = refl
both-values O.Remainder l r vars slots not_or not_and = refl
both-values O.At l r vars slots not_or not_and = refl
both-values O.Add l r vars slots not_or not_and = refl

-- a comparison isn't `or`
not-or : (op : Op) → IsTrue (is_comparison op) → op ≢ O.Or
not-or op compares is = true≢false (sym compares ∙ ap is_comparison is)

-- a comparison isn't `and`
not-and : (op : Op) → IsTrue (is_comparison op) → op ≢ O.And
not-and op compares is = true≢false (sym compares ∙ ap is_comparison is)

-- what one part is worth next to another one
module _ (op : Op) (e other : Expr Ref) (vars slots : List Value) where
  -- the value, where the other one is no literal
  next-alone : (part_of other).literal ≡ false →
      next_to op (part_of e) (part_of other) vars slots ≡ value e vars slots
  next-alone none = by (is_comparison op) (part_of other).literal none
    where
      by : (compares literal : Bool) → literal ≡ false →
          (if compares && literal then (part_of e).beside else (part_of e).value) vars slots
          ≡ value e vars slots
      by true true h = absurd (true≢false h)
      by true false h = refl
      by false literal h = refl

  -- what it is beside a literal, in a comparison
  next-beside : IsTrue (is_comparison op) → IsLiteral other →
      next_to op (part_of e) (part_of other) vars slots ≡ (part_of e).beside vars slots
  next-beside compares literal =
      by (is_comparison op) (part_of other).literal compares (is-literal other literal)
    where
      by : (compares literal : Bool) → compares ≡ true → literal ≡ true →
          (if compares && literal then (part_of e).beside else (part_of e).value) vars slots
          ≡ (part_of e).beside vars slots
      by true true h g = refl
      by true false h g = absurd (true≢false (sym g))
      by false literal h g = absurd (true≢false (sym h))

  -- the value, where no length is compared with a literal
  next-plain : (IsTrue (is_comparison op) → IsLength e → IsLiteral other → ⊥) →
      next_to op (part_of e) (part_of other) vars slots ≡ value e vars slots
  next-plain differ = by (is_comparison op) (part_of other).literal refl refl
    where
      by : (compares literal : Bool) → is_comparison op ≡ compares → (part_of other).literal ≡ literal →
          (if compares && literal then (part_of e).beside else (part_of e).value) vars slots
          ≡ value e vars slots
      by true true h g =
          plain-beside e vars slots (λ long. differ h long (literal-is other g))
      by true false h g = refl
      by false literal h g = refl

-- two steps, of which the first one has the length of a sequence
counted-first : (m n : Evaluated) (op : Op) →
    and_then (and_then m (λ v. Ok (V.Int (pos (length (seq_of v)))))) (λ x. and_then n (apply op x))
    ≡ and_then m (λ v. and_then n (apply op (V.Int (pos (length (seq_of v))))))
counted-first (Err t) n op = refl
counted-first (Ok v) n op = refl

-- a second step that has the length of a sequence
counted-second : (m : Evaluated) (f : Value → Evaluated) →
    and_then (and_then m (λ v. Ok (V.Int (pos (length (seq_of v)))))) f
    ≡ and_then m (λ v. f (V.Int (pos (length (seq_of v)))))
counted-second (Err t) f = refl
counted-second (Ok v) f = refl

-- the same after a first step
after-first : (m : Evaluated) (f g : Value → Evaluated) → ((x : Value) → f x ≡ g x) →
    and_then m f ≡ and_then m g
after-first (Err t) f g h = refl
after-first (Ok v) f g h = h v

-- a length that is compared with a literal counts exactly
pub length-compared : (e left right sequence : Expr Ref) (op : Op) (vars slots : List Value) →
    e.node ≡ N.Two op left right → IsTrue (is_comparison op) → left.node ≡ N.One F.Len sequence →
    IsLiteral right →
    value e vars slots
    ≡ and_then (value sequence vars slots)
    (λ v. and_then (value right vars slots) (apply op (V.Int (pos (length (seq_of v))))))
length-compared e left right sequence op vars slots is compares long literal =
    let part = length-part left sequence long in
    two-means e left right op vars slots is
    ∙ (both-values op (part_of left) (part_of right) vars slots (not-or op compares) (not-and op compares)
    ∙ (ap (λ (m : Evaluated). and_then m
    (λ x. and_then (next_to op (part_of right) (part_of left) vars slots) (apply op x)))
    (next-beside op left right vars slots compares literal
    ∙ ap (λ (p : Part). p.beside vars slots) part)
    ∙ (counted-first (value sequence vars slots) (next_to op (part_of right) (part_of left) vars slots) op
    ∙ ap (λ (n : Evaluated). and_then (value sequence vars slots)
    (λ v. and_then n (apply op (V.Int (pos (length (seq_of v)))))))
    (next-alone op right left vars slots (ap (λ (p : Part). p.literal) part)))))

-- and so does one on the right of the literal
pub compared-length : (e left right sequence : Expr Ref) (op : Op) (vars slots : List Value) →
    e.node ≡ N.Two op left right → IsTrue (is_comparison op) → IsLiteral left →
    right.node ≡ N.One F.Len sequence →
    value e vars slots
    ≡ and_then (value left vars slots)
    (λ x. and_then (value sequence vars slots) (λ v. apply op x (V.Int (pos (length (seq_of v))))))
compared-length e left right sequence op vars slots is compares literal long =
    let part = length-part right sequence long in
    two-means e left right op vars slots is
    ∙ (both-values op (part_of left) (part_of right) vars slots (not-or op compares) (not-and op compares)
    ∙ (ap (λ (m : Evaluated). and_then m
    (λ x. and_then (next_to op (part_of right) (part_of left) vars slots) (apply op x)))
    (next-alone op left right vars slots (ap (λ (p : Part). p.literal) part))
    ∙ after-first (value left vars slots)
    (λ x. and_then (next_to op (part_of right) (part_of left) vars slots) (apply op x))
    (λ x. and_then (value sequence vars slots) (λ v. apply op x (V.Int (pos (length (seq_of v))))))
    (λ x. ap (λ (n : Evaluated). and_then n (apply op x))
    (next-beside op right left vars slots compares literal
    ∙ ap (λ (p : Part). p.beside vars slots) part)
    ∙ counted-second (value sequence vars slots) (apply op x))))

-- all others are the values, one after the other
pub values-apply : (e left right : Expr Ref) (op : Op) (vars slots : List Value) →
    e.node ≡ N.Two op left right → op ≢ O.Or → op ≢ O.And → (ComparesLength op left right → ⊥) →
    value e vars slots
    ≡ and_then (value left vars slots) (λ x. and_then (value right vars slots) (apply op x))
values-apply e left right op vars slots is not_or not_and other =
    two-means e left right op vars slots is
    ∙ (both-values op (part_of left) (part_of right) vars slots not_or not_and
    ∙ (ap (λ (m : Evaluated). and_then m
    (λ x. and_then (next_to op (part_of right) (part_of left) vars slots) (apply op x)))
    (next-plain op left right vars slots (λ compares long literal. other (compares, inl (long, literal))))
    ∙ ap (λ (n : Evaluated). and_then (value left vars slots) (λ x. and_then n (apply op x)))
    (next-plain op right left vars slots
    (λ compares long literal. other (compares, inr (literal, long))))))

-- whether a function is the length
abbrev is_length_of : Fun → Bool
is_length_of F.Len = true
is_length_of F.First = false
is_length_of F.Last = false
is_length_of F.Rest = false
is_length_of F.Front = false

-- whether a layer is that of a length
abbrev layer_counts : {X Y : Type 0} → Node-F Ref X Y → Bool
layer_counts (L.Int z) = false
layer_counts (L.Bool b) = false
layer_counts L.Empty = false
layer_counts (L.Name name) = false
layer_counts (L.Neg part) = false
layer_counts (L.Not part) = false
layer_counts (L.Two op left right) = false
layer_counts (L.One fun part) = is_length_of fun

-- whether a node is a length
counts : Node Ref → Bool
counts n = fold-Node Ref Bool Bool layer_counts (λ layer. layer.node) n

-- a node is a length where its layer is
counts-roll : (d : Node-F Ref (Node Ref) (Expr Ref)) → counts (roll-Node Ref d) ≡ layer_counts d
unfolding counts
counts-roll d = fold-roll-Node Ref Bool Bool layer_counts (λ layer. layer.node) d ∙ by d
  where
    by : (d : Node-F Ref (Node Ref) (Expr Ref)) →
        layer_counts (map-Node Ref (Node Ref) (Expr Ref) Bool Bool
        (fold-Node Ref Bool Bool layer_counts (λ layer. layer.node))
        (fold-Expr Ref Bool Bool layer_counts (λ layer. layer.node)) d) ≡ layer_counts d
    by (L.Int z) = refl
    by (L.Bool b) = refl
    by L.Empty = refl
    by (L.Name name) = refl
    by (L.Neg part) = refl
    by (L.Not part) = refl
    by (L.Two op left right) = refl
    by (L.One fun part) = refl

-- the node of a length is one
counts-length : (e sequence : Expr Ref) → e.node ≡ N.One F.Len sequence → counts e.node ≡ true
counts-length e sequence is =
    ap counts (is ∙ sym (rolls-One F.Len sequence)) ∙ counts-roll (L.One F.Len sequence)

-- two parts under `or`
pub either-means : (e left right : Expr Ref) (vars slots : List Value) → e.node ≡ N.Two O.Or left right →
    value e vars slots
    ≡ and_then (value left vars slots)
    (λ x. if bool_of x then Ok (V.Bool true)
    else and_then (value right vars slots) (λ y. Ok (V.Bool (bool_of y))))
either-means e left right vars slots is = two-means e left right O.Or vars slots is

-- two parts under `and`
pub each-means : (e left right : Expr Ref) (vars slots : List Value) → e.node ≡ N.Two O.And left right →
    value e vars slots
    ≡ and_then (value left vars slots)
    (λ x. if bool_of x then and_then (value right vars slots) (λ y. Ok (V.Bool (bool_of y)))
    else Ok (V.Bool false))
each-means e left right vars slots is = two-means e left right O.And vars slots is

-- an expression is a length or not
length-decided : (e : Expr Ref) → IsLength e ⊎ (IsLength e → ⊥)
length-decided e = let layer = layer-of e in by layer.0 layer.1
  where
    none : (d : Node-F Ref (Node Ref) (Expr Ref)) → roll-Node Ref d ≡ e.node → layer_counts d ≡ false →
        IsLength e ⊎ (IsLength e → ⊥)
    none d rolls h = inr (λ long. true≢false
        (sym (counts-length e long.0 long.1) ∙ (ap counts (sym rolls) ∙ (counts-roll d ∙ h))))

    by_fun : (fun : Fun) (part : Expr Ref) → roll-Node Ref (L.One fun part) ≡ e.node →
        IsLength e ⊎ (IsLength e → ⊥)
    by_fun F.Len part rolls = inl (part, sym rolls ∙ rolls-One F.Len part)
    by_fun F.First part rolls = none (L.One F.First part) rolls refl
    by_fun F.Last part rolls = none (L.One F.Last part) rolls refl
    by_fun F.Rest part rolls = none (L.One F.Rest part) rolls refl
    by_fun F.Front part rolls = none (L.One F.Front part) rolls refl

    by : (d : Node-F Ref (Node Ref) (Expr Ref)) → roll-Node Ref d ≡ e.node →
        IsLength e ⊎ (IsLength e → ⊥)
    by (L.Int z) rolls = none (L.Int z) rolls refl
    by (L.Bool b) rolls = none (L.Bool b) rolls refl
    by L.Empty rolls = none L.Empty rolls refl
    by (L.Name name) rolls = none (L.Name name) rolls refl
    by (L.Neg part) rolls = none (L.Neg part) rolls refl
    by (L.Not part) rolls = none (L.Not part) rolls refl
    by (L.Two op left right) rolls = none (L.Two op left right) rolls refl
    by (L.One fun part) rolls = by_fun fun part rolls

-- an expression is a literal or not
literal-decided : (e : Expr Ref) → IsLiteral e ⊎ (IsLiteral e → ⊥)
literal-decided e = by (part_of e).literal refl
  where
    by : (b : Bool) → (part_of e).literal ≡ b → IsLiteral e ⊎ (IsLiteral e → ⊥)
    by true h = inl (literal-is e h)
    by false h = inr (λ literal. true≢false (sym (is-literal e literal) ∙ h))

-- each of two facts holds or not, so both hold or not
both-decided : {P Q : Type 0} → P ⊎ (P → ⊥) → Q ⊎ (Q → ⊥) → (P × Q) ⊎ (P × Q → ⊥)
both-decided (inl p) (inl q) = inl (p, q)
both-decided (inl p) (inr fails) = inr (λ b. fails b.1)
both-decided (inr fails) q = inr (λ b. fails b.0)

-- and so does one of them or none
either-decided : {P Q : Type 0} → P ⊎ (P → ⊥) → Q ⊎ (Q → ⊥) → (P ⊎ Q) ⊎ (P ⊎ Q → ⊥)
either-decided (inl p) q = inl (inl p)
either-decided (inr fails) (inl q) = inl (inr q)
either-decided (inr fails) (inr neither) =
    inr (λ b. elim b as (λ _. ⊥) [ inl p ↦ fails p | inr q ↦ neither q ])

-- a test is true or not
test-decided : (b : Bool) → IsTrue b ⊎ (IsTrue b → ⊥)
test-decided true = inl refl
test-decided false = inr (λ h. true≢false (sym h))

-- whether a length is compared with a literal is told by the form
pub comparison-decided : (left right : Expr Ref) (op : Op) →
    ComparesLength op left right ⊎ (ComparesLength op left right → ⊥)
comparison-decided left right op =
    both-decided (test-decided (is_comparison op))
    (either-decided (both-decided (length-decided left) (literal-decided right))
    (both-decided (literal-decided left) (length-decided right)))
