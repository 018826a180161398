-- What an expression means, by what its parts mean, and the kinds of these.
use Rattle.std.proofs.Common.{◌≡◌, ℤ, neg_ℤ, Bool, true, false, not, if◌then◌else◌, List, [], Option, None}
use Rattle.std.proofs.Common.{Some, Ok, option_and_then, refl, sym, ap, ◌∙◌}
use Rattle.seuss_program.specs.declared.state.Value.{Value}
use Rattle.seuss_program.specs.declared.state.Value.TheVariants as V
use Rattle.seuss_program.specs.declared.tree.Ref.{Ref}
use Rattle.seuss_program.specs.declared.tree.Kind.{Kind}
use Rattle.seuss_program.specs.declared.tree.Kind.TheVariants as K
use Rattle.seuss_program.specs.declared.tree.Op.{Op}
use Rattle.seuss_program.specs.declared.tree.Fun.{Fun}
use Rattle.seuss_program.specs.declared.tree.Node.{Node, map-Node, roll-Node}
use Rattle.seuss_program.specs.declared.tree.Node.TheVariants as N
use Rattle.seuss_program.specs.declared.tree.Node.TheVariants.{rolls-Int, rolls-Bool, rolls-Empty}
use Rattle.seuss_program.specs.declared.tree.Node.TheVariants.{rolls-Name, rolls-Neg, rolls-Not, rolls-Two}
use Rattle.seuss_program.specs.declared.tree.Node.TheVariants.{rolls-One}
use Rattle.seuss_program.specs.declared.tree.Node.TheOpen as L
use Rattle.seuss_program.specs.declared.tree.Node.TheOpen.{Node-F}
use Rattle.seuss_program.specs.declared.tree.Expr.{Expr}
use Rattle.seuss_program.specs.Values.{Part, node_part, part_of, named, both, and_then, exact, measure}
use Rattle.seuss_program.specs.Values.{int_of, bool_of, seq_of, value}
use Rattle.seuss_program.specs.Keeping.{Scope, kind_at, kind_in, node_kind, two_kind, fun_kind, where_of}
use Rattle.seuss_program.specs.Keeping.{is_of}
use Rattle.meaning_laws.proofs.ValueKinds.{part_of_node, part-expr, part-roll, kind_of_node, kind-expr}
use Rattle.meaning_laws.proofs.ValueKinds.{kind-roll}
use Rattle.meaning_laws.proofs.CalledProcedures.{is-of-some, none-some}

-- an expression means what its layer means
pub layer-means : (e : Expr Ref) (n : Node Ref) (d : Node-F Ref (Node Ref) (Expr Ref)) → e.node ≡ n →
    roll-Node Ref d ≡ n →
    part_of e ≡ node_part (map-Node Ref (Node Ref) (Expr Ref) Part Part part_of_node part_of d)
layer-means e n d is rolls = part-expr e ∙ (ap part_of_node (is ∙ sym rolls) ∙ part-roll d)

-- the value of an expression is that of its layer
layer-value : (e : Expr Ref) (n : Node Ref) (d : Node-F Ref (Node Ref) (Expr Ref))
    (vars slots : List Value) → e.node ≡ n → roll-Node Ref d ≡ n →
    value e vars slots
    ≡ (node_part (map-Node Ref (Node Ref) (Expr Ref) Part Part part_of_node part_of d)).value vars slots
layer-value e n d vars slots is rolls =
    ap (λ (part : Part). part.value vars slots) (layer-means e n d is rolls)

-- the value of a number in digits
pub number-means : (e : Expr Ref) (z : ℤ) (vars slots : List Value) → e.node ≡ N.Int z →
    value e vars slots ≡ Ok (V.Int z)
number-means e z vars slots is = layer-value e (N.Int z) (L.Int z) vars slots is (rolls-Int z)

-- the value of `true` and of `false`
pub truth-means : (e : Expr Ref) (b : Bool) (vars slots : List Value) → e.node ≡ N.Bool b →
    value e vars slots ≡ Ok (V.Bool b)
truth-means e b vars slots is = layer-value e (N.Bool b) (L.Bool b) vars slots is (rolls-Bool b)

-- the value of the empty sequence
pub empty-means : (e : Expr Ref) (vars slots : List Value) → e.node ≡ N.Empty →
    value e vars slots ≡ Ok (V.Seq [])
empty-means e vars slots is = layer-value e N.Empty L.Empty vars slots is rolls-Empty

-- the value of a name
pub name-means : (e : Expr Ref) (name : Ref) (vars slots : List Value) → e.node ≡ N.Name name →
    value e vars slots ≡ Ok (named name vars slots)
name-means e name vars slots is = layer-value e (N.Name name) (L.Name name) vars slots is (rolls-Name name)

-- the value of a part with a minus before it
pub negated-means : (e part : Expr Ref) (vars slots : List Value) → e.node ≡ N.Neg part →
    value e vars slots ≡ and_then (value part vars slots) (λ v. exact (neg_ℤ (int_of v)))
negated-means e part vars slots is = layer-value e (N.Neg part) (L.Neg part) vars slots is (rolls-Neg part)

-- the value of a part with `not` before it
pub inverted-means : (e part : Expr Ref) (vars slots : List Value) → e.node ≡ N.Not part →
    value e vars slots ≡ and_then (value part vars slots) (λ v. Ok (V.Bool (not (bool_of v))))
inverted-means e part vars slots is = layer-value e (N.Not part) (L.Not part) vars slots is (rolls-Not part)

-- the value of a function of a sequence
pub measured-means : (e part : Expr Ref) (fun : Fun) (vars slots : List Value) → e.node ≡ N.One fun part →
    value e vars slots ≡ and_then (value part vars slots) (λ v. measure fun (seq_of v))
measured-means e part fun vars slots is =
    layer-value e (N.One fun part) (L.One fun part) vars slots is (rolls-One fun part)

-- the value of two parts under an operator, by the parts
pub two-means : (e left right : Expr Ref) (op : Op) (vars slots : List Value) →
    e.node ≡ N.Two op left right → value e vars slots ≡ both op (part_of left) (part_of right) vars slots
two-means e left right op vars slots is =
    layer-value e (N.Two op left right) (L.Two op left right) vars slots is (rolls-Two op left right)

-- an expression has the kind of its layer
layer-kind : (s : Scope) (e : Expr Ref) (n : Node Ref) (d : Node-F Ref (Node Ref) (Expr Ref)) (k : Kind) →
    e.node ≡ n → roll-Node Ref d ≡ n → kind_in s e ≡ Some k →
    node_kind s
    (map-Node Ref (Node Ref) (Expr Ref) (Option Kind) (Option Kind) (kind_of_node s) (kind_in s) d) ≡ Some k
layer-kind s e n d k is rolls has =
    sym (kind-roll s d) ∙ (ap (kind_of_node s) (rolls ∙ sym is) ∙ (sym (kind-expr s e) ∙ has))

-- a part that is wanted in a kind has it
wanted : (want given k : Kind) (o : Option Kind) → where_of want o given ≡ Some k → o ≡ Some want
wanted want given k o h = is-of-some want o (by (is_of want o) h)
  where
    by : (b : Bool) → (if b then Some given else None) ≡ Some k → b ≡ true
    by true h = refl
    by false h = absurd (none-some k h)

-- a name has the kind of the expression that it is
pub name-kind : (s : Scope) (e : Expr Ref) (name : Ref) (k : Kind) → e.node ≡ N.Name name →
    kind_in s e ≡ Some k → kind_at s name ≡ Some k
name-kind s e name k is has = layer-kind s e (N.Name name) (L.Name name) k is (rolls-Name name) has

-- the part after a minus is an int
pub negated-kind : (s : Scope) (e part : Expr Ref) (k : Kind) → e.node ≡ N.Neg part → kind_in s e ≡ Some k →
    kind_in s part ≡ Some K.Int
negated-kind s e part k is has =
    wanted K.Int K.Int k (kind_in s part)
    (layer-kind s e (N.Neg part) (L.Neg part) k is (rolls-Neg part) has)

-- the part after `not` is a bool
pub inverted-kind : (s : Scope) (e part : Expr Ref) (k : Kind) → e.node ≡ N.Not part → kind_in s e ≡ Some k →
    kind_in s part ≡ Some K.Bool
inverted-kind s e part k is has =
    wanted K.Bool K.Bool k (kind_in s part)
    (layer-kind s e (N.Not part) (L.Not part) k is (rolls-Not part) has)

-- the part under a function is a sequence
pub measured-kind : (s : Scope) (e part : Expr Ref) (fun : Fun) (k : Kind) → e.node ≡ N.One fun part →
    kind_in s e ≡ Some k → kind_in s part ≡ Some K.Seq
measured-kind s e part fun k is has =
    wanted K.Seq (fun_kind fun) k (kind_in s part)
    (layer-kind s e (N.One fun part) (L.One fun part) k is (rolls-One fun part) has)

-- two parts under an operator have kinds that the operator takes
pub two-kinds : (s : Scope) (e left right : Expr Ref) (op : Op) (k : Kind) → e.node ≡ N.Two op left right →
    kind_in s e ≡ Some k →
    (a b : Kind) × (kind_in s left ≡ Some a) × (kind_in s right ≡ Some b) × (two_kind op a b ≡ Some k)
two-kinds s e left right op k is has =
    by (kind_in s left) (kind_in s right)
    (layer-kind s e (N.Two op left right) (L.Two op left right) k is (rolls-Two op left right) has)
  where
    by : (l r : Option Kind) → option_and_then (λ a. option_and_then (two_kind op a) r) l ≡ Some k →
        (a b : Kind) × (l ≡ Some a) × (r ≡ Some b) × (two_kind op a b ≡ Some k)
    by (Some a) (Some b) h = (a, b, refl, refl, h)
    by (Some a) None h = absurd (none-some k h)
    by None r h = absurd (none-some k h)
