-- An expression whose names are known and whose types are right has, with its names as numbers, the kind
-- that its type is.
use Rattle.std.specs.Prelude.{◌≡◌, ℕ, nat_lt, Bool, true, false, ◌&&◌, not, if◌then◌else◌, List, [], ◌∷◌}
use Rattle.std.specs.Prelude.{◌++◌, ℤ, slice_get, Option, None, Some, option_and_then}
use Rattle.std.proofs.Common.{refl, sym, ap, subst, ◌∙◌}
use Rattle.seuss_program.specs.declared.tree.Name.{Name}
use Rattle.seuss_program.specs.declared.tree.Ref.{Ref}
use Rattle.seuss_program.specs.declared.tree.Kind.{Kind}
use Rattle.seuss_program.specs.declared.tree.Kind.TheVariants as K
use Rattle.seuss_program.specs.declared.tree.Op.{Op}
use Rattle.seuss_program.specs.declared.tree.Op.TheVariants as O
use Rattle.seuss_program.specs.declared.tree.Fun.{Fun}
use Rattle.seuss_program.specs.declared.tree.Fun.TheVariants as U
use Rattle.seuss_program.specs.declared.tree.Node.{Node, fold-Node, fold-roll-Node, map-Node, roll-Node}
use Rattle.seuss_program.specs.declared.tree.Node.TheOpen as L
use Rattle.seuss_program.specs.declared.tree.Node.TheOpen.{Node-F}
use Rattle.seuss_program.specs.declared.tree.Node.TheVariants.{rolls-Int, rolls-Bool, rolls-Empty}
use Rattle.seuss_program.specs.declared.tree.Node.TheVariants.{rolls-Name, rolls-Neg, rolls-Not, rolls-Two}
use Rattle.seuss_program.specs.declared.tree.Node.TheVariants.{rolls-One}
use Rattle.seuss_program.specs.declared.tree.Expr.{Expr, Expr-F, fold_out-Expr, ind-Expr, roll-Expr}
use Rattle.seuss_program.specs.declared.tree.Expr.{map-Expr}
use Rattle.seuss_program.specs.declared.tree.Cat.{Cat}
use Rattle.seuss_program.specs.Keeping as P
use Rattle.seuss_program.specs.WellFormed.{has_numbers}
use Rattle.box_types.specs.declared.scopes.Local.{Local}
use Rattle.box_types.specs.declared.scopes.Meaning.{Meaning}
use Rattle.box_types.specs.declared.scopes.Meaning.TheVariants as M
use Rattle.box_types.specs.Scopes.{meaning_of}
use Rattle.box_types.specs.Walks as W
use Rattle.box_types.specs.Twice.{fails}
use Rattle.box_types.specs.Unknown.{names_step, in_names, is_nothing, unknown_name}
use Rattle.box_types.specs.WrongKind.{is_no_value, no_value}
use Rattle.box_types.specs.WrongType as T
use Rattle.box_types.specs.Namings as N
use Rattle.box_types.proofs.ExpressionNumbers.{both, numbers_of, numbers-expr, numbers-roll}

-- what has no lines has none in its parts
pub none-left : (xs ys : List ℕ) → xs ++ ys ≡ [] → xs ≡ []
none-left [] ys h = refl
none-left (x ∷ xs) ys h = absurd (cc)

-- where two lists together are empty, the second one is
pub none-right : (xs ys : List ℕ) → xs ++ ys ≡ [] → ys ≡ []
none-right [] ys h = h
none-right (x ∷ xs) ys h = absurd (cc)

-- a check without a line passes
pub passes-by : (b : Bool) (line : ℕ) → fails b line ≡ [] → b ≡ false
passes-by true line h = absurd (cc)
passes-by false line h = refl

-- kinds that aren't other ones are the same
pub same-kind : (wanted found : Kind) → T.is_other wanted found ≡ false → found ≡ wanted
same-kind K.Int K.Int h = refl
same-kind K.Int K.Bool h = absurd (cc)
same-kind K.Int K.Seq h = absurd (cc)
same-kind K.Bool K.Int h = absurd (cc)
same-kind K.Bool K.Bool h = refl
same-kind K.Bool K.Seq h = absurd (cc)
same-kind K.Seq K.Int h = absurd (cc)
same-kind K.Seq K.Bool h = absurd (cc)
same-kind K.Seq K.Seq h = refl

-- a kind is itself
pub is-kind-same : (k : Kind) → P.is_kind k k ≡ true
is-kind-same K.Int = refl
is-kind-same K.Bool = refl
is-kind-same K.Seq = refl

-- an operator whose parts have the types that it takes
of-kinds : (left right gives a b : Kind) → T.is_other left a ≡ false → T.is_other right b ≡ false →
    P.of_kinds left right gives a b ≡ Some gives
of-kinds left right gives a b h k =
    ap (λ (t : Bool). if t then Some gives else None)
    (ap (λ x. P.is_kind left x && P.is_kind right b) (same-kind left a h)
    ∙ (ap (λ x. P.is_kind left left && P.is_kind right x) (same-kind right b k)
    ∙ (ap (λ t. t && P.is_kind right right) (is-kind-same left) ∙ is-kind-same right)))

-- two kinds that may be compared as equal give a bool
equals : (a b : Kind) → T.is_seq (Some a) ≡ false → T.is_other a b ≡ false →
    (if P.is_kind a b && not (P.is_kind K.Seq a) then Some K.Bool else None) ≡ Some K.Bool
equals K.Int K.Int h k = refl
equals K.Int K.Bool h k = absurd (cc)
equals K.Int K.Seq h k = absurd (cc)
equals K.Bool K.Int h k = absurd (cc)
equals K.Bool K.Bool h k = refl
equals K.Bool K.Seq h k = absurd (cc)
equals K.Seq b h k = absurd (cc)

-- two kinds that an operator takes give its kind
two-kind : (op : Op) (a b : Kind) → T.refuses op (Some a) ≡ false →
    T.differs (T.beside op (Some a)) (Some b) ≡ false → P.two_kind op a b ≡ Some (T.gives op)
two-kind O.Or a b h k = of-kinds K.Bool K.Bool K.Bool a b h k
two-kind O.And a b h k = of-kinds K.Bool K.Bool K.Bool a b h k
two-kind O.Eq a b h k = equals a b h k
two-kind O.Ne a b h k = equals a b h k
two-kind O.Lt a b h k = of-kinds K.Int K.Int K.Bool a b h k
two-kind O.Le a b h k = of-kinds K.Int K.Int K.Bool a b h k
two-kind O.Gt a b h k = of-kinds K.Int K.Int K.Bool a b h k
two-kind O.Ge a b h k = of-kinds K.Int K.Int K.Bool a b h k
two-kind O.Plus a b h k = of-kinds K.Int K.Int K.Int a b h k
two-kind O.Minus a b h k = of-kinds K.Int K.Int K.Int a b h k
two-kind O.WrapPlus a b h k = of-kinds K.Int K.Int K.Int a b h k
two-kind O.WrapMinus a b h k = of-kinds K.Int K.Int K.Int a b h k
two-kind O.Times a b h k = of-kinds K.Int K.Int K.Int a b h k
two-kind O.Divide a b h k = of-kinds K.Int K.Int K.Int a b h k
two-kind O.Remainder a b h k = of-kinds K.Int K.Int K.Int a b h k
two-kind O.At a b h k = of-kinds K.Seq K.Int K.Int a b h k
two-kind O.Add a b h k = of-kinds K.Seq K.Int K.Seq a b h k

-- a function gives the same kind in both
fun-kind : (fun : Fun) → P.fun_kind fun ≡ T.given_by fun
fun-kind U.First = refl
fun-kind U.Last = refl
fun-kind U.Rest = refl
fun-kind U.Front = refl
fun-kind U.Len = refl

-- an expression without wrong parts has a type
whole-none : (k : Kind) (ls : List ℕ) → (T.whole k ls).lines ≡ [] → ls ≡ []
whole-none k [] h = refl
whole-none k (l ∷ ls) h = h

-- what a name stands for has its kind among the kinds of slots and of variables
abbrev pub Fits : P.Scope → Meaning → Type 0
Fits k (M.Slot slot kind is_param) = (slice_get k.slots slot ≡ Some kind) × (is_param ≡ nat_lt slot k.params)
Fits k (M.Variable n kind) = slice_get k.vars n ≡ Some kind
Fits k (M.GivenBox n) = Unit {0}
Fits k (M.Procedure n) = Unit {0}
Fits k M.Nothing = Unit {0}

-- what each name means at a place fits what the text sees with numbers
pub record Agrees (own : Cat Name) (visible : List Local) (k : P.Scope) : Type 0 where
  pub at : (name : Name) → Fits k (meaning_of own visible name)

-- a value has the kind of its type
value-kind : (k : P.Scope) (m : Meaning) → Fits k m → is_nothing m ≡ false → is_no_value m ≡ false →
    (kind : Kind) × (W.kind_of m ≡ Some kind) × (P.kind_at k (N.ref_of m) ≡ Some kind)
value-kind k (M.Slot slot kind is_param) fits h g = (kind, refl, fits.0)
value-kind k (M.Variable n kind) fits h g = (kind, refl, fits)
value-kind k (M.GivenBox n) fits h g = absurd (cc)
value-kind k (M.Procedure n) fits h g = absurd (cc)
value-kind k M.Nothing fits h g = absurd (cc)

module _ (own : Cat Name) (visible : List Local) (k : P.Scope) (agrees : Agrees own visible k) where
  -- what is found at the names of a node, its type and its numbered form
  names_of : (Name → List ℕ) → Node Name → List ℕ
  names_of at n = fold-Node Name (List ℕ) (List ℕ) (names_step at) (λ layer. layer.node) n

  -- the type of a node with names
  typed_of : Node Name → T.Typed
  typed_of n = fold-Node Name T.Typed T.Part (T.node_step own visible)
      (λ layer. record { line = layer.line; typed = layer.node }) n

  -- a node with numbers
  numbered_of : Node Name → Node Ref
  numbered_of n = fold-Node Name (Node Ref) (Expr Ref) (N.node_step own visible)
      (λ layer. record { line = layer.line; node = layer.node }) n

  -- the kind of a node with numbers
  kind_of_node : Node Ref → Option Kind
  kind_of_node n = fold-Node Ref (Option Kind) (Option Kind) (P.node_kind k) (λ layer. layer.node) n

  -- an expression has the names of its node
  names-expr : (at : Name → List ℕ) (e : Expr Name) → in_names at e ≡ names_of at e.node
  unfolding in_names names_of
  names-expr at e = fold_out-Expr Name (List ℕ) (List ℕ) (names_step at) (λ layer. layer.node) e

  -- an expression has the type of its node
  typed-expr : (e : Expr Name) → (T.part own visible e).typed ≡ typed_of e.node
  unfolding T.part typed_of
  typed-expr e = ap (λ (p : T.Part). p.typed)
      (fold_out-Expr Name T.Typed T.Part (T.node_step own visible)
      (λ layer. record { line = layer.line; typed = layer.node }) e)

  -- an expression with numbers is its node with numbers
  numbered-expr : (e : Expr Name) → (N.expression own visible e).node ≡ numbered_of e.node
  unfolding N.expression numbered_of
  numbered-expr e = ap (λ (x : Expr Ref). x.node)
      (fold_out-Expr Name (Node Ref) (Expr Ref) (N.node_step own visible)
      (λ layer. record { line = layer.line; node = layer.node }) e)

  -- an expression has the kind of its node
  kind-expr : (e : Expr Ref) → P.kind_in k e ≡ kind_of_node e.node
  unfolding P.kind_in kind_of_node
  kind-expr e = fold_out-Expr Ref (Option Kind) (Option Kind) (P.node_kind k) (λ layer. layer.node) e

  -- the names of a node are told by its layer
  names-roll : (at : Name → List ℕ) (d : Node-F Name (Node Name) (Expr Name)) →
      names_of at (roll-Node Name d) ≡ names_step at
      (map-Node Name (Node Name) (Expr Name) (List ℕ) (List ℕ) (names_of at) (in_names at) d)
  unfolding in_names names_of
  names-roll at d = fold-roll-Node Name (List ℕ) (List ℕ) (names_step at) (λ layer. layer.node) d

  -- the type of a node is told by its layer
  typed-roll : (d : Node-F Name (Node Name) (Expr Name)) →
      typed_of (roll-Node Name d) ≡ T.node_step own visible
      (map-Node Name (Node Name) (Expr Name) T.Typed T.Part typed_of (T.part own visible) d)
  unfolding T.part typed_of
  typed-roll d = fold-roll-Node Name T.Typed T.Part (T.node_step own visible)
      (λ layer. record { line = layer.line; typed = layer.node }) d

  -- a node with numbers is told by its layer
  numbered-roll : (d : Node-F Name (Node Name) (Expr Name)) →
      numbered_of (roll-Node Name d) ≡ N.node_step own visible
      (map-Node Name (Node Name) (Expr Name) (Node Ref) (Expr Ref) numbered_of
      (N.expression own visible) d)
  unfolding N.expression numbered_of
  numbered-roll d = fold-roll-Node Name (Node Ref) (Expr Ref) (N.node_step own visible)
      (λ layer. record { line = layer.line; node = layer.node }) d

  -- the kind of a node is told by its layer
  kind-roll : (d : Node-F Ref (Node Ref) (Expr Ref)) →
      kind_of_node (roll-Node Ref d) ≡ P.node_kind k
      (map-Node Ref (Node Ref) (Expr Ref) (Option Kind) (Option Kind) kind_of_node (P.kind_in k) d)
  unfolding P.kind_in kind_of_node
  kind-roll d = fold-roll-Node Ref (Option Kind) (Option Kind) (P.node_kind k) (λ layer. layer.node) d

  -- a node, and an expression, that has a type has it as its kind
  record KnownNode (n : Node Name) : Type 0 where
    kind : Kind
    typed : (typed_of n).kind ≡ Some kind
    numbered : kind_of_node (numbered_of n) ≡ Some kind

  -- the type of an expression is the kind that it has with numbers
  pub record Known (e : Expr Name) : Type 0 where
    pub kind : Kind
    pub typed : (T.part own visible e).typed.kind ≡ Some kind
    pub numbered : P.kind_in k (N.expression own visible e) ≡ Some kind

  -- a node without faults has the kind of its type
  NodeClaim : Node Name → Type 0
  NodeClaim n = names_of (unknown_name own visible) n ≡ [] → names_of (no_value own visible) n ≡ [] →
      (typed_of n).lines ≡ [] → numbers_of n ≡ true → KnownNode n

  -- an expression without faults has the kind of its type
  abbrev pub Claim : Expr Name → Type 0
  Claim e = in_names (unknown_name own visible) e ≡ [] → in_names (no_value own visible) e ≡ [] →
      (T.part own visible e).typed.lines ≡ [] → has_numbers e ≡ true → Known e

  -- by the node of an expression
  expr-claim : (e : Expr Name) → NodeClaim e.node → Claim e
  unfolding NodeClaim
  expr-claim e claim unknown wrong typed sized =
      let known : KnownNode e.node =
      claim (sym (names-expr (unknown_name own visible) e) ∙ unknown)
      (sym (names-expr (no_value own visible) e) ∙ wrong)
      (ap (λ (t : T.Typed). t.lines) (sym (typed-expr e)) ∙ typed) (sym (numbers-expr e) ∙ sized) in
      record {
        kind = known.kind;
        typed = ap (λ (t : T.Typed). t.kind) (typed-expr e) ∙ known.typed;
        numbered = kind-expr (N.expression own visible e)
            ∙ (ap kind_of_node (numbered-expr e) ∙ known.numbered);
      }

  -- a node of a layer, by its type and its kind there
  node-known : (d : Node-F Name (Node Name) (Expr Name)) (d' : Node-F Ref (Node Ref) (Expr Ref))
      (kind : Kind) →
      N.node_step own visible
      (map-Node Name (Node Name) (Expr Name) (Node Ref) (Expr Ref) numbered_of
      (N.expression own visible) d) ≡ roll-Node Ref d' →
      (T.node_step own visible
      (map-Node Name (Node Name) (Expr Name) T.Typed T.Part typed_of (T.part own visible) d)).kind
      ≡ Some kind →
      P.node_kind k (map-Node Ref (Node Ref) (Expr Ref) (Option Kind) (Option Kind) kind_of_node
      (P.kind_in k) d') ≡ Some kind →
      KnownNode (roll-Node Name d)
  node-known d d' kind same typed numbered = record {
    kind = kind;
    typed = ap (λ (t : T.Typed). t.kind) (typed-roll d) ∙ typed;
    numbered = ap kind_of_node (numbered-roll d ∙ same) ∙ (kind-roll d' ∙ numbered);
  }

  -- a part that is of the wanted type
  pub part-known : (e : Expr Name) (wanted : Kind) → Claim e → in_names (unknown_name own visible) e ≡ [] →
      in_names (no_value own visible) e ≡ [] →
      T.wrong (Some wanted) (T.part own visible e) ≡ [] → has_numbers e ≡ true →
      P.kind_in k (N.expression own visible e) ≡ Some wanted
  part-known e wanted claim unknown novalue lines sized =
      let known : Known e = claim unknown novalue (none-left (T.part own visible e).typed.lines _ lines)
      sized in
      let other : T.is_other wanted known.kind ≡ false =
      subst (λ o. T.differs (Some wanted) o ≡ false) known.typed
      (passes-by (T.differs (Some wanted) (T.part own visible e).typed.kind) (T.part own visible e).line
      (none-right (T.part own visible e).typed.lines _ lines)) in
      known.numbered ∙ ap (λ x. Some x) (same-kind wanted known.kind other)

  -- one part under a node that takes it
  one-claim : (d : Node-F Name (Node Name) (Expr Name)) (d' : Node-F Ref (Node Ref) (Expr Ref))
      (e : Expr Name) (takes gives : Kind) → Claim e →
      ((at : Name → List ℕ) → names_of at (roll-Node Name d) ≡ in_names at e) →
      numbers_of (roll-Node Name d) ≡ has_numbers e →
      T.node_step own visible
      (map-Node Name (Node Name) (Expr Name) T.Typed T.Part typed_of (T.part own visible) d)
      ≡ T.one takes gives (T.part own visible e) →
      N.node_step own visible
      (map-Node Name (Node Name) (Expr Name) (Node Ref) (Expr Ref) numbered_of
      (N.expression own visible) d) ≡ roll-Node Ref d' →
      P.node_kind k (map-Node Ref (Node Ref) (Expr Ref) (Option Kind) (Option Kind) kind_of_node
      (P.kind_in k) d') ≡ P.where_of takes (P.kind_in k (N.expression own visible e)) gives →
      NodeClaim (roll-Node Name d)
  unfolding NodeClaim
  one-claim d d' e takes gives claim names numbers typed same kind unknown novalue lines sized =
      let none : T.wrong (Some takes) (T.part own visible e) ≡ [] =
      whole-none gives (T.wrong (Some takes) (T.part own visible e))
      (ap (λ (t : T.Typed). t.lines) (sym (typed-roll d ∙ typed)) ∙ lines) in
      let known : P.kind_in k (N.expression own visible e) ≡ Some takes =
      part-known e takes claim (sym (names (unknown_name own visible)) ∙ unknown)
      (sym (names (no_value own visible)) ∙ novalue) none (sym numbers ∙ sized) in
      node-known d d' gives same
      (ap (λ (t : T.Typed). t.kind) typed ∙ ap (λ ls. (T.whole gives ls).kind) none)
      (kind ∙ (ap (λ o. P.where_of takes o gives) known
      ∙ ap (λ (t : Bool). if t then Some gives else None) (is-kind-same takes)))

  -- two parts under an operator by the parts
  two-claim : (op : Op) (l r : Expr Name) → Claim l → Claim r → NodeClaim (roll-Node Name (L.Two op l r))
  unfolding NodeClaim
  two-claim op l r left right unknown novalue lines sized =
      let d : Node-F Name (Node Name) (Expr Name) = L.Two op l r in
      let names : (at : Name → List ℕ) → names_of at (roll-Node Name d) ≡ in_names at l ++ in_names at r =
      (λ at. names-roll at d) in
      let pl : T.Part = T.part own visible l in
      let pr : T.Part = T.part own visible r in
      let all : List ℕ = (pl.typed.lines ++ fails (T.refuses op pl.typed.kind) pl.line)
      ++ T.wrong (T.beside op pl.typed.kind) pr in
      let none : all ≡ [] = whole-none (T.gives op) all
      (ap (λ (t : T.Typed). t.lines) (sym (typed-roll d)) ∙ lines) in
      let on_left : pl.typed.lines ++ fails (T.refuses op pl.typed.kind) pl.line ≡ [] =
      none-left _ (T.wrong (T.beside op pl.typed.kind) pr) none in
      let on_right : T.wrong (T.beside op pl.typed.kind) pr ≡ [] =
      none-right (pl.typed.lines ++ fails (T.refuses op pl.typed.kind) pl.line) _ none in
      let numbers = both (has_numbers l) (has_numbers r) (sym (numbers-roll d) ∙ sized) in
      let a : Known l = left
      (none-left _ (in_names (unknown_name own visible) r)
      (sym (names (unknown_name own visible)) ∙ unknown))
      (none-left _ (in_names (no_value own visible) r) (sym (names (no_value own visible)) ∙ novalue))
      (none-left pl.typed.lines _ on_left) numbers.0 in
      let b : Known r = right
      (none-right (in_names (unknown_name own visible) l) _
      (sym (names (unknown_name own visible)) ∙ unknown))
      (none-right (in_names (no_value own visible) l) _ (sym (names (no_value own visible)) ∙ novalue))
      (none-left pr.typed.lines _ on_right) numbers.1 in
      let refused : T.refuses op (Some a.kind) ≡ false =
      subst (λ o. T.refuses op o ≡ false) a.typed
      (passes-by (T.refuses op pl.typed.kind) pl.line (none-right pl.typed.lines _ on_left)) in
      let differing : T.differs (T.beside op (Some a.kind)) (Some b.kind) ≡ false =
      subst (λ o. T.differs (T.beside op (Some a.kind)) o ≡ false) b.typed
      (subst (λ o. T.differs (T.beside op o) pr.typed.kind ≡ false) a.typed
      (passes-by (T.differs (T.beside op pl.typed.kind) pr.typed.kind) pr.line
      (none-right pr.typed.lines _ on_right))) in
      node-known d (L.Two op (N.expression own visible l) (N.expression own visible r)) (T.gives op)
      (sym (rolls-Two op (N.expression own visible l) (N.expression own visible r)))
      (ap (λ ls. (T.whole (T.gives op) ls).kind) none)
      (ap (λ x. option_and_then
      (λ left. option_and_then (P.two_kind op left) (P.kind_in k (N.expression own visible r))) x)
      a.numbered
      ∙ (ap (λ x. option_and_then (P.two_kind op a.kind) x) b.numbered
      ∙ two-kind op a.kind b.kind refused differing))

  -- a name
  name-claim : (name : Name) → NodeClaim (roll-Node Name (L.Name name))
  unfolding NodeClaim
  name-claim name unknown novalue lines sized =
      let d : Node-F Name (Node Name) (Expr Name) = L.Name name in
      let known = value-kind k (meaning_of own visible name) (agrees.at name)
      (passes-by (is_nothing (meaning_of own visible name)) name.line
      (sym (names-roll (unknown_name own visible) d) ∙ unknown))
      (passes-by (is_no_value (meaning_of own visible name)) name.line
      (sym (names-roll (no_value own visible) d) ∙ novalue)) in
      node-known d (L.Name (N.name_ref own visible name)) known.0
      (sym (rolls-Name (N.name_ref own visible name))) known.1 known.2

  -- a node without parts
  leaf-claim : (d : Node-F Name (Node Name) (Expr Name)) (d' : Node-F Ref (Node Ref) (Expr Ref))
      (kind : Kind) →
      N.node_step own visible
      (map-Node Name (Node Name) (Expr Name) (Node Ref) (Expr Ref) numbered_of
      (N.expression own visible) d) ≡ roll-Node Ref d' →
      (T.node_step own visible
      (map-Node Name (Node Name) (Expr Name) T.Typed T.Part typed_of (T.part own visible) d)).kind
      ≡ Some kind →
      P.node_kind k (map-Node Ref (Node Ref) (Expr Ref) (Option Kind) (Option Kind) kind_of_node
      (P.kind_in k) d') ≡ Some kind →
      NodeClaim (roll-Node Name d)
  unfolding NodeClaim
  leaf-claim d d' kind same typed numbered unknown novalue lines sized =
      node-known d d' kind same typed numbered

  -- a literal of 64 bits
  int-claim : (z : ℤ) → NodeClaim (roll-Node Name (L.Int z))
  unfolding NodeClaim
  int-claim z unknown novalue lines sized =
      node-known (L.Int z) (L.Int z) K.Int (sym (rolls-Int z)) refl
      (ap (λ (t : Bool). if t then Some K.Int else None) (sym (numbers-roll (L.Int z)) ∙ sized))

  -- by the layer of a node, and of an expression, whose parts have it
  node-step : (y : Node-F Name ((n : Node Name) × NodeClaim n) ((e : Expr Name) × Claim e)) →
      NodeClaim (roll-Node Name
      (map-Node Name ((n : Node Name) × NodeClaim n) ((e : Expr Name) × Claim e) (Node Name) (Expr Name)
      (λ e. e.0) (λ e. e.0) y))
  node-step (L.Int z) = int-claim z
  node-step (L.Bool b) = leaf-claim (L.Bool b) (L.Bool b) K.Bool (sym (rolls-Bool b)) refl refl
  node-step L.Empty = leaf-claim L.Empty L.Empty K.Seq (sym rolls-Empty) refl refl
  node-step (L.Name name) = name-claim name
  node-step (L.Neg e) =
      one-claim (L.Neg e.0) (L.Neg (N.expression own visible e.0)) e.0 K.Int K.Int e.1
      (λ at. names-roll at (L.Neg e.0)) (numbers-roll (L.Neg e.0)) refl
      (sym (rolls-Neg (N.expression own visible e.0))) refl
  node-step (L.Not e) =
      one-claim (L.Not e.0) (L.Not (N.expression own visible e.0)) e.0 K.Bool K.Bool e.1
      (λ at. names-roll at (L.Not e.0)) (numbers-roll (L.Not e.0)) refl
      (sym (rolls-Not (N.expression own visible e.0))) refl
  node-step (L.Two op l r) = two-claim op l.0 r.0 l.1 r.1
  node-step (L.One fun e) =
      one-claim (L.One fun e.0) (L.One fun (N.expression own visible e.0)) e.0 K.Seq (T.given_by fun) e.1
      (λ at. names-roll at (L.One fun e.0)) (numbers-roll (L.One fun e.0)) refl
      (sym (rolls-One fun (N.expression own visible e.0)))
      (ap (λ g. P.where_of K.Seq (P.kind_in k (N.expression own visible e.0)) g) (fun-kind fun))

  -- an expression by its node
  expr-step : (y : Expr-F Name ((n : Node Name) × NodeClaim n) ((e : Expr Name) × Claim e)) →
      Claim (roll-Expr Name
      (map-Expr Name ((n : Node Name) × NodeClaim n) ((e : Expr Name) × Claim e) (Node Name) (Expr Name)
      (λ e. e.0) (λ e. e.0) y))
  expr-step y = expr-claim
      (roll-Expr Name (map-Expr Name ((n : Node Name) × NodeClaim n) ((e : Expr Name) × Claim e) (Node Name)
      (Expr Name) (λ e. e.0) (λ e. e.0) y)) y.node.1

  -- an expression without unknown names, without names that are no values, and without wrong types, whose
  -- numbers have 64 bits
  pub has_kind : (e : Expr Name) → Claim e
  has_kind = ind-Expr Name NodeClaim Claim
      (λ x y is. subst (λ d. NodeClaim (roll-Node Name d)) is (node-step y))
      (λ x y is. subst (λ d. Claim (roll-Expr Name d)) is (expr-step y))
