-- What is told of an expression in a case is its value at every point.
use Rattle.std.proofs.Common.{◌≡◌, ℤ, pos, neg_ℤ, ◌+ℤ◌, ◌-ℤ◌, Bool, true, false, ◌&&◌, not, if◌then◌else◌}
use Rattle.std.proofs.Common.{List, [], ◌∷◌, ◌++◌, Result, Ok, Err, refl, sym, ap, subst, ◌∙◌}
use Rattle.std.specs.Prelude.{slice_index_or}
use Rattle.std.proofs.Math.ListN.{get_or-map}
use Rattle.seuss_program.specs.declared.tree.Ref.{Ref}
use Rattle.seuss_program.specs.declared.tree.Ref.TheVariants as R
use Rattle.seuss_program.specs.declared.tree.Op.{Op}
use Rattle.seuss_program.specs.declared.tree.Op.TheVariants as O
use Rattle.seuss_program.specs.declared.tree.Fun.{Fun}
use Rattle.seuss_program.specs.declared.tree.Fun.TheVariants as F
use Rattle.seuss_program.specs.declared.state.Value.{Value}
use Rattle.seuss_program.specs.declared.state.Value.TheVariants as VV
use Rattle.seuss_program.specs.Values as V
use Rattle.shape_terms.specs.declared.num_form.NumForm.{NumForm}
use Rattle.shape_terms.specs.declared.shape.Shape.{Shape}
use Rattle.shape_terms.specs.declared.shape.Shape.TheVariants as Q
use Rattle.shape_terms.specs.declared.symbol.Symbol.{Symbol}
use Rattle.shape_terms.specs.declared.symbol.Symbol.TheVariants as Y
use Rattle.shape_terms.specs.declared.refusal.FormRefusal.{FormRefusal}
use Rattle.shape_terms.specs.Points.{Point}
use Rattle.shape_terms.specs.Numbers.{number, literal, literal_of, plus, minus}
use Rattle.shape_terms.specs.Sequences.{items, first, last, rest, front, add, TakesNumber, TakesItems}
use Rattle.shape_terms.specs.Symbols.{value_at, values_at}
use Rattle.shape_terms.proofs.NumberLemmas.{number_plus, number_minus}
use Rattle.shape_terms.proofs.LengthLemmas.{len_means}
use Rattle.shape_terms.proofs.TakingLemmas.{first_means, last_means, rest_means, front_means, add_means}
use Rattle.commute_certs.specs.declared.why.Reason.{Reason}
use Rattle.commute_certs.specs.declared.why.Reason.TheVariants as W
use Rattle.commute_certs.specs.declared.part.Part.{Part}
use Rattle.commute_certs.specs.declared.part.Part.TheVariants as P
use Rattle.commute_certs.specs.Terms as T
use Rattle.seuss_program.specs.declared.tree.Node.{Node, fold-Node, fold-roll-Node, map-Node, roll-Node}
use Rattle.seuss_program.specs.declared.tree.Node.TheOpen as N
use Rattle.seuss_program.specs.declared.tree.Node.TheOpen.{Node-F}
use Rattle.seuss_program.specs.declared.tree.Expr.{Expr, fold_out-Expr, ind-Expr, roll-Expr, map-Expr}
use Rattle.seuss_base.specs.declared.outcome.Trap.TheVariants.{Overflow}
use Rattle.commute_certs.proofs.Nodes.{node_of, part-node, layer_of, node-roll}
use Rattle.commute_certs.proofs.Comparisons.{said, not_told, number_fits, is_digits, is_literal, Fine}
use Rattle.commute_certs.proofs.Comparisons.{int_at, seq_at, truth_at, parts_at, item_at, beside_at, read}

module _ (p : Point) where
  -- a part is a symbol that has this value
  pub record Means (e : V.Evaluated) (c : Part) : Type 0 where
    pub symbol : Symbol
    pub part : c ≡ P.Other symbol
    pub value : e ≡ Ok (value_at symbol p)

  truth_means : (e : V.Evaluated) (m : Result Bool Reason) (c : Part) →
      ((t : Bool) → m ≡ Ok t → e ≡ Ok (VV.Bool t)) → T.truth m ≡ Ok c → Means e c
  truth_means e (Ok t) c f h = let is : c ≡ P.Other (Y.Truth t) = cc in
      record { symbol = Y.Truth t; part = is; value = f t refl }
  truth_means e (Err why) c f h = absurd (not_told why c h)

  number_means : (e : V.Evaluated) (r : Result NumForm FormRefusal) (c : Part) →
      ((x : NumForm) → r ≡ Ok x → e ≡ Ok (VV.Int (number x p))) → T.number_part r ≡ Ok c → Means e c
  number_means e (Ok x) c f h = let is : c ≡ P.Other (Y.Number x) = cc in
      record { symbol = Y.Number x; part = is; value = f x refl }
  number_means e (Err refusal) c f h = absurd (not_told _ c h)

  shape_means : (e : V.Evaluated) (r : Result Shape FormRefusal) (c : Part) →
      ((x : Shape) → r ≡ Ok x → e ≡ Ok (VV.Seq (items x p))) → T.shape_part r ≡ Ok c → Means e c
  shape_means e (Ok x) c f h = let is : c ≡ P.Other (Y.Sequence x) = cc in
      record { symbol = Y.Sequence x; part = is; value = f x refl }
  shape_means e (Err refusal) c f h = absurd (not_told _ c h)

  symbol_means : (e : V.Evaluated) (s : Symbol) (c : Part) → e ≡ Ok (value_at s p) →
      said (P.Other s) ≡ Ok c → Means e c
  symbol_means e s c v h = let is : c ≡ P.Other s = cc in record { symbol = s; part = is; value = v }

  compared_means : (op : Op) → V.is_comparison op ≡ true → (a b c : Part) → Fine a → Fine b →
      T.truth (T.parts_compared op a b) ≡ Ok c →
      Means (V.apply op (read p (is_literal b) a) (read p (is_literal a) b)) c
  compared_means op is a b c f g h =
      truth_means (V.apply op (read p (is_literal b) a) (read p (is_literal a) b))
      (T.parts_compared op a b) c (λ t. parts_at p op is t a b f g) h

  not_not : (b : Bool) → b ≡ not (not b)
  not_not true = refl
  not_not false = refl

  opposite_is : (m : Result Bool Reason) (b : Bool) → T.opposite m ≡ Ok b → m ≡ Ok (not b)
  opposite_is (Ok x) b h = let e : not x ≡ b = cc in ap (λ b. Ok b) (not_not x ∙ ap not e)
  opposite_is (Err why) b h = absurd (not_told why b h)

  module _ (vs ss : List Value) where
    -- a part of an expression has the value that is told of it, beside a literal too
    pub record Stands (part : V.Part) (a : Part) : Type 0 where
      pub value : part.value vs ss ≡ Ok (value_at (T.symbol_of a) p)
      pub beside : part.beside vs ss ≡ Ok (beside_at p a)
      pub digits : part.digits ≡ is_digits a
      pub literal : part.literal ≡ is_literal a
      pub fine : Fine a

    pub stands_plain : (f : List Value → List Value → V.Evaluated) (c : Part) → Means (f vs ss) c →
        Stands (V.plain f) c
    stands_plain f c m = subst (λ c. Stands (V.plain f) c) (sym m.part)
        (record { value = m.value; beside = m.value; digits = refl; literal = refl; fine = tt })

    read_part : (part : V.Part) (a : Part) → Stands part a → (b : Bool) →
        (if b then part.beside else part.value) vs ss ≡ Ok (read p b a)
    read_part part a st true = st.beside
    read_part part a st false = st.value

    -- a part next to another one
    next_at : (op : Op) (l r : V.Part) (a b : Part) → Stands l a → Stands r b →
        V.next_to op l r vs ss ≡ Ok (read p (V.is_comparison op && is_literal b) a)
    next_at op l r a b st su =
        ap (λ (c : Bool). (if V.is_comparison op && c then l.beside else l.value) vs ss) su.literal
        ∙ read_part l a st (V.is_comparison op && is_literal b)

    two_steps : (m n : V.Evaluated) (x y : Value) (f : Value → Value → V.Evaluated) → m ≡ Ok x → n ≡ Ok y →
        V.and_then m (λ x. V.and_then n (f x)) ≡ f x y
    two_steps m n x y f h k = ap (λ m. V.and_then m (λ x. V.and_then n (f x))) h
        ∙ ap (λ n. V.and_then n (f x)) k

    module _ (l r : V.Part) (a : Part) (m : Result Part Reason) (c : Part) (st : Stands l a)
        (su : (b : Part) → m ≡ Ok b → Stands r b) where
      -- an operator that needs both of its parts
      strict_at : (op : Op) →
          ((b : Part) → Fine b → T.combined op a b ≡ Ok c →
          Means (V.apply op (read p (V.is_comparison op && is_literal b) a)
          (read p (V.is_comparison op && is_literal a) b)) c) →
          T.and_then m (T.combined op a) ≡ Ok c →
          Means (V.and_then (V.next_to op l r vs ss)
          (λ x. V.and_then (V.next_to op r l vs ss) (V.apply op x))) c
      strict_at op f h = by m refl h
        where
          by : (n : Result Part Reason) → m ≡ n → T.and_then n (T.combined op a) ≡ Ok c →
              Means (V.and_then (V.next_to op l r vs ss)
              (λ x. V.and_then (V.next_to op r l vs ss) (V.apply op x))) c
          by (Ok b) is h =
              let sr : Stands r b = su b is in
              subst (λ e. Means e c)
              (sym (two_steps (V.next_to op l r vs ss) (V.next_to op r l vs ss) _ _ (V.apply op)
              (next_at op l r a b st sr) (next_at op r l b a sr st)))
              (f b sr.fine h)
          by (Err why) is h = absurd (not_told why c h)

      -- the right part of `or` and `and` is the value
      right_at : (e : V.Evaluated) → ((y : Value) → r.value vs ss ≡ Ok y → e ≡ Ok (VV.Bool (V.bool_of y))) →
          T.and_then m (λ b. T.truth (T.truth_in (T.symbol_of b))) ≡ Ok c → Means e c
      right_at e f h = by m refl h
        where
          by : (n : Result Part Reason) → m ≡ n →
              T.and_then n (λ b. T.truth (T.truth_in (T.symbol_of b))) ≡ Ok c → Means e c
          by (Ok b) is h = truth_means e (T.truth_in (T.symbol_of b)) c
              (λ t k. f (value_at (T.symbol_of b) p) (su b is).value
              ∙ ap (λ t. Ok (VV.Bool t)) (truth_at p (T.symbol_of b) t k)) h
          by (Err why) is h = absurd (not_told why c h)

      or_left : (v : V.Evaluated) (x : Value) → v ≡ Ok x → V.bool_of x ≡ true → (n : V.Evaluated) →
          V.and_then v (λ x. if V.bool_of x then Ok (VV.Bool true) else V.and_then n
          (λ y. Ok (VV.Bool (V.bool_of y)))) ≡ Ok (VV.Bool true)
      or_left v x h k n = ap (λ v.
          V.and_then v (λ x. if V.bool_of x then Ok (VV.Bool true) else V.and_then n
          (λ y. Ok (VV.Bool (V.bool_of y))))) h
          ∙ ap (λ b. if b then Ok (VV.Bool true) else V.and_then n (λ y. Ok (VV.Bool (V.bool_of y)))) k

      or_right : (v n : V.Evaluated) (x y : Value) → v ≡ Ok x → V.bool_of x ≡ false → n ≡ Ok y →
          V.and_then v (λ x. if V.bool_of x then Ok (VV.Bool true) else V.and_then n
          (λ y. Ok (VV.Bool (V.bool_of y)))) ≡ Ok (VV.Bool (V.bool_of y))
      or_right v n x y h k i =
          ap (λ v. V.and_then v (λ x.
          if V.bool_of x then Ok (VV.Bool true) else V.and_then n (λ y. Ok (VV.Bool (V.bool_of y))))) h
          ∙ (ap (λ b. if b then Ok (VV.Bool true) else V.and_then n (λ y. Ok (VV.Bool (V.bool_of y)))) k
          ∙ ap (λ n. V.and_then n (λ y. Ok (VV.Bool (V.bool_of y)))) i)

      and_left : (v : V.Evaluated) (x : Value) → v ≡ Ok x → V.bool_of x ≡ false → (n : V.Evaluated) →
          V.and_then v (λ x. if V.bool_of x then V.and_then n (λ y. Ok (VV.Bool (V.bool_of y))) else Ok
          (VV.Bool false)) ≡ Ok (VV.Bool false)
      and_left v x h k n = ap (λ v.
          V.and_then v (λ x. if V.bool_of x then V.and_then n (λ y. Ok (VV.Bool (V.bool_of y))) else Ok
          (VV.Bool false))) h
          ∙ ap (λ b. if b then V.and_then n (λ y. Ok (VV.Bool (V.bool_of y))) else Ok (VV.Bool false)) k

      and_right : (v n : V.Evaluated) (x y : Value) → v ≡ Ok x → V.bool_of x ≡ true → n ≡ Ok y →
          V.and_then v (λ x. if V.bool_of x then V.and_then n (λ y. Ok (VV.Bool (V.bool_of y))) else Ok
          (VV.Bool false)) ≡ Ok (VV.Bool (V.bool_of y))
      and_right v n x y h k i =
          ap (λ v. V.and_then v (λ x.
          if V.bool_of x then V.and_then n (λ y. Ok (VV.Bool (V.bool_of y))) else Ok (VV.Bool false))) h
          ∙ (ap (λ b. if b then V.and_then n (λ y. Ok (VV.Bool (V.bool_of y))) else Ok (VV.Bool false)) k
          ∙ ap (λ n. V.and_then n (λ y. Ok (VV.Bool (V.bool_of y)))) i)

      abbrev left : Symbol
      left = T.symbol_of a

      or_at : (d : Result Bool Reason) → T.truth_in left ≡ d →
          T.and_then d (λ alone. if alone then T.truth (T.truth_in left) else T.and_then m
          (λ b. T.truth (T.truth_in (T.symbol_of b)))) ≡ Ok c →
          Means (V.both O.Or l r vs ss) c
      or_at (Ok true) is h = truth_means (V.both O.Or l r vs ss) (T.truth_in left) c
          (λ t k. let e : true ≡ t = cc in
          or_left (l.value vs ss) (value_at left p) st.value (truth_at p left true is) (r.value vs ss)
          ∙ ap (λ t. Ok (VV.Bool t)) e) h
      or_at (Ok false) is h = right_at (V.both O.Or l r vs ss)
          (λ y k. or_right (l.value vs ss) (r.value vs ss) (value_at left p) y st.value
          (truth_at p left false is) k) h
      or_at (Err why) is h = absurd (not_told why c h)

      and_at : (d : Result Bool Reason) → T.opposite (T.truth_in left) ≡ d →
          T.and_then d (λ alone. if alone then T.truth (T.truth_in left) else T.and_then m
          (λ b. T.truth (T.truth_in (T.symbol_of b)))) ≡ Ok c →
          Means (V.both O.And l r vs ss) c
      and_at (Ok true) is h = truth_means (V.both O.And l r vs ss) (T.truth_in left) c
          (λ t k. let no_left : T.truth_in left ≡ Ok false = opposite_is (T.truth_in left) true is in
          let e : false ≡ t = cc in
          and_left (l.value vs ss) (value_at left p) st.value (truth_at p left false no_left)
          (r.value vs ss) ∙ ap (λ t. Ok (VV.Bool t)) e) h
      and_at (Ok false) is h = right_at (V.both O.And l r vs ss)
          (λ y k. and_right (l.value vs ss) (r.value vs ss) (value_at left p) y st.value
          (truth_at p left true (opposite_is (T.truth_in left) false is)) k) h
      and_at (Err why) is h = absurd (not_told why c h)

      -- two parts under an operator
      both_at : (op : Op) → T.and_then (T.decides op a)
          (λ alone. if alone then T.truth (T.truth_in (T.symbol_of a)) else T.and_then m (T.combined op a))
          ≡ Ok c →
          Means (V.both op l r vs ss) c
      both_at O.Or h = or_at (T.truth_in left) refl h
      both_at O.And h = and_at (T.opposite (T.truth_in left)) refl h
      both_at O.Eq h = strict_at O.Eq (λ b g. compared_means O.Eq refl a b c st.fine g) h
      both_at O.Ne h = strict_at O.Ne (λ b g. compared_means O.Ne refl a b c st.fine g) h
      both_at O.Lt h = strict_at O.Lt (λ b g. compared_means O.Lt refl a b c st.fine g) h
      both_at O.Le h = strict_at O.Le (λ b g. compared_means O.Le refl a b c st.fine g) h
      both_at O.Gt h = strict_at O.Gt (λ b g. compared_means O.Gt refl a b c st.fine g) h
      both_at O.Ge h = strict_at O.Ge (λ b g. compared_means O.Ge refl a b c st.fine g) h
      both_at O.Plus h = strict_at O.Plus (λ b g k. absurd (not_told _ c k)) h
      both_at O.Minus h = strict_at O.Minus (λ b g k. absurd (not_told _ c k)) h
      both_at O.Times h = strict_at O.Times (λ b g k. absurd (not_told _ c k)) h
      both_at O.Divide h = strict_at O.Divide (λ b g k. absurd (not_told _ c k)) h
      both_at O.Remainder h = strict_at O.Remainder (λ b g k. absurd (not_told _ c k)) h
      both_at O.WrapPlus h = strict_at O.WrapPlus
          (λ b g k. symbol_means _
          (Y.Number (plus (T.number_in (T.symbol_of a)) (T.number_in (T.symbol_of b)))) c
          (ap (λ i. V.wrapped (i +ℤ V.int_of (value_at (T.symbol_of b) p))) (int_at p (T.symbol_of a))
          ∙ (ap (λ i. V.wrapped (number (T.number_in (T.symbol_of a)) p +ℤ i)) (int_at p (T.symbol_of b))
          ∙ ap (λ z. Ok (VV.Int z))
          (number_plus (T.number_in (T.symbol_of a)) (T.number_in (T.symbol_of b)) p))) k) h
      both_at O.WrapMinus h = strict_at O.WrapMinus
          (λ b g k. symbol_means _
          (Y.Number (minus (T.number_in (T.symbol_of a)) (T.number_in (T.symbol_of b)))) c
          (ap (λ i. V.wrapped (i -ℤ V.int_of (value_at (T.symbol_of b) p))) (int_at p (T.symbol_of a))
          ∙ (ap (λ i. V.wrapped (number (T.number_in (T.symbol_of a)) p -ℤ i)) (int_at p (T.symbol_of b))
          ∙ ap (λ z. Ok (VV.Int z))
          (number_minus (T.number_in (T.symbol_of a)) (T.number_in (T.symbol_of b)) p))) k) h
      both_at O.At h = strict_at O.At
          (λ b g k. number_means _
          (T.item (T.shape_in (T.symbol_of a)) (literal_of (T.number_in (T.symbol_of b)))) c
          (λ x is. ap (λ zs. V.element zs (V.int_of (value_at (T.symbol_of b) p))) (seq_at p (T.symbol_of a))
          ∙ (ap (V.element (items (T.shape_in (T.symbol_of a)) p)) (int_at p (T.symbol_of b))
          ∙ item_at p (T.shape_in (T.symbol_of a)) (T.number_in (T.symbol_of b)) x is)) k) h
      both_at O.Add h = strict_at O.Add
          (λ b g k. symbol_means _
          (Y.Sequence (add (T.shape_in (T.symbol_of a)) (T.number_in (T.symbol_of b)))) c
          (ap (λ zs. Ok (VV.Seq (zs ++ V.int_of (value_at (T.symbol_of b) p) ∷ [])))
          (seq_at p (T.symbol_of a))
          ∙ (ap (λ i. Ok (VV.Seq (items (T.shape_in (T.symbol_of a)) p ++ i ∷ [])))
          (int_at p (T.symbol_of b))
          ∙ ap (λ zs. Ok (VV.Seq zs))
          (add_means (T.shape_in (T.symbol_of a)) (T.number_in (T.symbol_of b)) p))) k) h

    -- a function of a sequence
    measured_from : (f : List ℤ → V.Evaluated) (part : V.Part) (a : Part) → Stands part a →
        V.and_then (part.value vs ss) (λ v. f (V.seq_of v)) ≡ f (items (T.shape_in (T.symbol_of a)) p)
    measured_from f part a st = ap (λ m. V.and_then m (λ v. f (V.seq_of v))) st.value
        ∙ ap f (seq_at p (T.symbol_of a))

    taken_stands : (fun : Fun) (part : V.Part) (a c : Part) → Stands part a →
        ((zs : List ℤ) → V.exact_length fun zs ≡ V.measure fun zs) →
        Means (V.measure fun (items (T.shape_in (T.symbol_of a)) p)) c →
        Stands (V.node_part (N.One fun part)) c
    taken_stands fun part a c st exact m = subst (λ c. Stands (V.node_part (N.One fun part)) c) (sym m.part)
        (record {
          value = measured_from (V.measure fun) part a st ∙ m.value;
          beside = measured_from (V.exact_length fun) part a st
              ∙ (exact (items (T.shape_in (T.symbol_of a)) p) ∙ m.value);
          digits = refl;
          literal = refl;
          fine = tt;
        })

    one_stands : (fun : Fun) (part : V.Part) (a c : Part) → Stands part a →
        T.measured fun (T.shape_in (T.symbol_of a)) ≡ Ok c → Stands (V.node_part (N.One fun part)) c
    one_stands F.First part a c st h =
        taken_stands F.First part a c st (λ zs. refl) (number_means _ (first (T.shape_in (T.symbol_of a))) c
        (λ x is. subst (TakesNumber (λ p. V.measure F.First (items (T.shape_in (T.symbol_of a)) p))) is
        (first_means (T.shape_in (T.symbol_of a))) p) h)
    one_stands F.Last part a c st h =
        taken_stands F.Last part a c st (λ zs. refl) (number_means _ (last (T.shape_in (T.symbol_of a))) c
        (λ x is. subst (TakesNumber (λ p. V.measure F.Last (items (T.shape_in (T.symbol_of a)) p))) is
        (last_means (T.shape_in (T.symbol_of a))) p) h)
    one_stands F.Rest part a c st h =
        taken_stands F.Rest part a c st (λ zs. refl) (shape_means _ (rest (T.shape_in (T.symbol_of a))) c
        (λ x is. subst (TakesItems (λ p. V.measure F.Rest (items (T.shape_in (T.symbol_of a)) p))) is
        (rest_means (T.shape_in (T.symbol_of a))) p) h)
    one_stands F.Front part a c st h =
        taken_stands F.Front part a c st (λ zs. refl) (shape_means _ (front (T.shape_in (T.symbol_of a))) c
        (λ x is. subst (TakesItems (λ p. V.measure F.Front (items (T.shape_in (T.symbol_of a)) p))) is
        (front_means (T.shape_in (T.symbol_of a))) p) h)
    one_stands F.Len part a c st h =
        let is : c ≡ P.Length (T.shape_in (T.symbol_of a)) = cc in
        subst (λ c. Stands (V.node_part (N.One F.Len part)) c) (sym is)
        (record {
          value = measured_from (V.measure F.Len) part a st
              ∙ ap (λ z. Ok (VV.Int z)) (len_means (T.shape_in (T.symbol_of a)) p);
          beside = measured_from (V.exact_length F.Len) part a st;
          digits = refl;
          literal = refl;
          fine = tt;
        })

    digits_stand : (part : V.Part) (z : ℤ) (c : Part) → Stands part (P.Digits z) → (b : Bool) →
        V.fits (neg_ℤ z) ≡ b →
        (if b then Ok (P.Minus (neg_ℤ z)) else Err W.MayTrap) ≡ Ok c → Stands (V.negated part) c
    digits_stand part z c st true f h =
        let is : c ≡ P.Minus (neg_ℤ z) = cc in
        let whole : V.and_then (part.value vs ss) (λ v. V.exact (neg_ℤ (V.int_of v))) ≡ Ok
        (VV.Int (neg_ℤ z)) =
        ap (λ m. V.and_then m (λ v. V.exact (neg_ℤ (V.int_of v)))) st.value
        ∙ (ap (λ x. V.exact (neg_ℤ x)) (number_fits z p st.fine)
        ∙ ap (λ b. if b then Ok (VV.Int (neg_ℤ z)) else Err Overflow) f) in
        subst (λ c. Stands (V.negated part) c) (sym is)
        (record {
          value = whole ∙ ap (λ x. Ok (VV.Int x)) (sym (number_fits (neg_ℤ z) p f));
          beside = whole;
          digits = refl;
          literal = st.digits;
          fine = f;
        })
    digits_stand part z c st false f h = absurd (not_told W.MayTrap c h)

    -- a minus before a number
    neg_stands : (part : V.Part) (a c : Part) → Stands part a → T.negated a ≡ Ok c →
        Stands (V.negated part) c
    neg_stands part (P.Digits z) c st h = digits_stand part z c st (V.fits (neg_ℤ z)) refl h
    neg_stands part (P.Minus z) c st h = absurd (not_told _ c h)
    neg_stands part (P.Length s) c st h = absurd (not_told _ c h)
    neg_stands part (P.Other s) c st h = absurd (not_told _ c h)

    not_means : (part : V.Part) (a c : Part) → Stands part a →
        T.truth (T.opposite (T.truth_in (T.symbol_of a))) ≡ Ok c →
        Means (V.and_then (part.value vs ss) (λ v. Ok (VV.Bool (not (V.bool_of v))))) c
    not_means part a c st h = truth_means _ (T.opposite (T.truth_in (T.symbol_of a))) c
        (λ t k. ap (λ m. V.and_then m (λ v. Ok (VV.Bool (not (V.bool_of v))))) st.value
        ∙ (ap (λ b. Ok (VV.Bool (not b)))
        (truth_at p (T.symbol_of a) (not t) (opposite_is (T.truth_in (T.symbol_of a)) t k))
        ∙ ap (λ b. Ok (VV.Bool b)) (sym (not_not t)))) h

    int_stands : (z : ℤ) (c : Part) (b : Bool) → V.fits z ≡ b →
        (if b then Ok (P.Digits z) else Err W.MayTrap) ≡ Ok c → Stands (V.node_part (N.Int z)) c
    int_stands z c true f h =
        let is : c ≡ P.Digits z = cc in
        subst (λ c. Stands (V.node_part (N.Int z)) c) (sym is)
        (record {
          value = ap (λ x. Ok (VV.Int x)) (sym (number_fits z p f));
          beside = refl;
          digits =
              refl;
          literal = refl;
          fine = f;
        })
    int_stands z c false f h = absurd (not_told _ c h)

  -- what a name stands for
  named_at : (name : Ref) (vars slots : List Symbol) →
      value_at (T.named name vars slots) p ≡ V.named name (values_at vars p) (values_at slots p)
  named_at (R.Var n) vars slots =
      sym (get_or-map (λ (s : Symbol). value_at s p) vars n (Y.Number (literal (pos 0))))
      ∙ ap (λ z. slice_index_or (values_at vars p) n (VV.Int z)) (number_fits (pos 0) p refl)
  named_at (R.Slot n) vars slots =
      sym (get_or-map (λ (s : Symbol). value_at s p) slots n (Y.Number (literal (pos 0))))
      ∙ ap (λ z. slice_index_or (values_at slots p) n (VV.Int z)) (number_fits (pos 0) p refl)
  named_at (R.Given n) vars slots = ap (λ z. VV.Int z) (number_fits (pos 0) p refl)
  named_at (R.Method n) vars slots = ap (λ z. VV.Int z) (number_fits (pos 0) p refl)
  named_at (R.Cat n) vars slots = ap (λ z. VV.Int z) (number_fits (pos 0) p refl)

-- what the value of a node is, by the values of its parts
value_node : Node Ref → V.Part
value_node n = fold-Node Ref V.Part V.Part V.node_part (λ layer. layer.node) n

value_expr : (e : Expr Ref) → V.part_of e ≡ value_node e.node
unfolding V.part_of value_node
value_expr e = fold_out-Expr Ref V.Part V.Part V.node_part (λ layer. layer.node) e

value_roll : (d : Node-F Ref (Node Ref) (Expr Ref)) →
    value_node (roll-Node Ref d) ≡ V.node_part
    (map-Node Ref (Node Ref) (Expr Ref) V.Part V.Part value_node V.part_of d)
unfolding V.part_of value_node
value_roll d = fold-roll-Node Ref V.Part V.Part V.node_part (λ layer. layer.node) d

-- what is told in two steps is told in each
pub record Steps {A B : Type 0} (m : Result A Reason) (f : A → Result B Reason) (c : B) : Type 0 where
  pub middle : A
  pub start : m ≡ Ok middle
  pub onward : f middle ≡ Ok c

pub steps : {A B : Type 0} (m : Result A Reason) (f : A → Result B Reason) (c : B) →
    T.and_then m f ≡ Ok c → Steps m f c
steps (Ok x) f c h = record { middle = x; start = refl; onward = h }
steps (Err why) f c h = absurd (not_told why c h)

module _ (p : Point) (vars slots : List Symbol) where
  Right : V.Part → Part → Type 0
  Right part a = Stands p (values_at vars p) (values_at slots p) part a

  NodeClaim : Node Ref → Type 0
  NodeClaim n = (a : Part) → node_of n vars slots ≡ Ok a → Right (value_node n) a

  Claim : Expr Ref → Type 0
  Claim e = (a : Part) → T.part_of e vars slots ≡ Ok a → Right (V.part_of e) a

  layer : (d : Node-F Ref (Node Ref) (Expr Ref)) →
      ((a : Part) → T.node_meant (layer_of d) vars slots ≡ Ok a →
      Right (V.node_part (map-Node Ref (Node Ref) (Expr Ref) V.Part V.Part value_node V.part_of d)) a) →
      NodeClaim (roll-Node Ref d)
  unfolding NodeClaim
  layer d h a e = subst (λ part. Right part a) (sym (value_roll d))
      (h a (sym (ap (λ (m : T.Meant). m vars slots) (node-roll d)) ∙ e))

  module _ (A B : Type 0) (f : A → Node Ref) (g : B → Expr Ref) (each_part : (y : B) → Claim (g y)) where
    node-step : (y : Node-F Ref A B) →
        NodeClaim (roll-Node Ref (map-Node Ref A B (Node Ref) (Expr Ref) f g y))
    unfolding NodeClaim Claim Right
    node-step (N.Int z) = layer (N.Int z)
        (λ a h. int_stands p (values_at vars p) (values_at slots p) z a (V.fits z) refl h)
    node-step (N.Bool b) = layer (N.Bool b)
        (λ a h. stands_plain p (values_at vars p) (values_at slots p) (λ vs ss. Ok (VV.Bool b)) a
        (symbol_means p _ (Y.Truth b) a refl h))
    node-step N.Empty = layer N.Empty
        (λ a h. stands_plain p (values_at vars p) (values_at slots p) (λ vs ss. Ok (VV.Seq [])) a
        (symbol_means p _ (Y.Sequence (Q.Exact [])) a refl h))
    node-step (N.Name name) =
        layer (N.Name name) (λ a h.
        stands_plain p (values_at vars p) (values_at slots p) (λ vs ss. Ok (V.named name vs ss)) a
        (symbol_means p _ (T.named name vars slots) a (ap (λ v. Ok v) (sym (named_at p name vars slots))) h))
    node-step (N.Neg e) = layer (N.Neg (g e))
        (λ a h. let s = steps (T.part_of (g e) vars slots) T.negated a h in
        neg_stands p (values_at vars p) (values_at slots p) (V.part_of (g e)) s.middle a
        (each_part e s.middle s.start) s.onward)
    node-step (N.Not e) = layer (N.Not (g e))
        (λ a h. let s = steps (T.part_of (g e) vars slots)
        (λ a. T.truth (T.opposite (T.truth_in (T.symbol_of a)))) a h in
        stands_plain p (values_at vars p) (values_at slots p)
        (λ vs ss. V.and_then ((V.part_of (g e)).value vs ss) (λ v. Ok (VV.Bool (not (V.bool_of v))))) a
        (not_means p (values_at vars p) (values_at slots p) (V.part_of (g e)) s.middle a
        (each_part e s.middle s.start) s.onward))
    node-step (N.Two op l r) =
        layer (N.Two op (g l) (g r))
        (λ a h. let s = steps (T.part_of (g l) vars slots) (λ a. T.and_then (T.decides op a) (λ alone.
        if alone then T.truth (T.truth_in (T.symbol_of a)) else T.and_then (T.part_of (g r) vars slots)
        (T.combined op a))) a h in
        stands_plain p (values_at vars p) (values_at slots p)
        (V.both op (V.part_of (g l)) (V.part_of (g r))) a
        (both_at p (values_at vars p) (values_at slots p) (V.part_of (g l)) (V.part_of (g r)) s.middle
        (T.part_of (g r) vars slots) a
        (each_part l s.middle s.start) (each_part r) op s.onward))
    node-step (N.One fun e) =
        layer (N.One fun (g e)) (λ a h. let s =
        steps (T.part_of (g e) vars slots) (λ a. T.measured fun (T.shape_in (T.symbol_of a))) a h in
        one_stands p (values_at vars p) (values_at slots p) fun (V.part_of (g e)) s.middle a
        (each_part e s.middle s.start) s.onward)

  expr-claim : (e : Expr Ref) → NodeClaim e.node → Claim e
  unfolding NodeClaim Claim Right
  expr-claim e c a h = subst (λ part. Stands p (values_at vars p) (values_at slots p) part a)
      (sym (value_expr e))
      (c a (sym (ap (λ (m : T.Meant). m vars slots) (part-node e)) ∙ h))

  claims : (e : Expr Ref) → Claim e
  claims = ind-Expr Ref NodeClaim Claim
      (λ x y is. subst (λ d. NodeClaim (roll-Node Ref d)) is
      (node-step _ _ (λ e. e.0) (λ e. e.0) (λ e. e.1) y))
      (λ x y is. subst (λ d. Claim (roll-Expr Ref d)) is
      (expr-claim (roll-Expr Ref (map-Expr Ref _ _ (Node Ref) (Expr Ref) (λ e. e.0) (λ e. e.0) y))
      y.node.1))

  -- what is told of an expression is its value
  pub told_at : (e : Expr Ref) (s : Symbol) → T.told e vars slots ≡ Ok s →
      V.value e (values_at vars p) (values_at slots p) ≡ Ok (value_at s p)
  unfolding Claim Right
  told_at e s h =
      let step = steps (T.part_of e vars slots) (λ a. Ok (T.symbol_of a)) s h in
      let same : said (T.symbol_of step.middle) ≡ Ok s = step.onward in
      let is : T.symbol_of step.middle ≡ s = cc in
      (claims e step.middle step.start).value ∙ ap (λ s. Ok (value_at s p)) is
