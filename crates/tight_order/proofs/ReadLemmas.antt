-- What is read of the values of parts: numbers, truths and sequences, and what nodes mean by these.
use Rattle.std.proofs.Common.{◌≡◌, ℤ, Bool, true, false, List, Result, Ok, Err, refl, sym, ap, subst, ◌∙◌}
use Rattle.std.proofs.Common.{neg_ℤ}
use Rattle.seuss_program.specs.declared.state.Value.{Value}
use Rattle.seuss_program.specs.declared.state.Value.TheVariants as V
use Rattle.seuss_program.specs.declared.tree.Ref.{Ref}
use Rattle.seuss_program.specs.declared.tree.Op.{Op}
use Rattle.seuss_program.specs.declared.tree.Op.TheVariants as O
use Rattle.seuss_program.specs.declared.tree.Fun.{Fun}
use Rattle.seuss_program.specs.declared.tree.Node.TheVariants as NV
use Rattle.seuss_program.specs.declared.tree.Expr.{Expr}
use Rattle.seuss_program.specs.Values.{Part, Evaluated, part_of, int_of, bool_of, seq_of, apply, element}
use Rattle.seuss_program.specs.Values.{measure, exact, exact_length, named}
use Rattle.tight_order.specs.declared.stop.Stop.{Stop}
use Rattle.tight_order.specs.declared.stop.Stop.TheVariants as S
use Rattle.tight_order.specs.Answers.{Evaluates, EvaluatesNumber, HasValue, IsRead, read_as}
use Rattle.tight_order.specs.Lazy.{decides, computes, takes_numbers}
use Rattle.tight_order.proofs.PartLemmas.{int_value, name_value, left_stopped, right_stopped, two_value}
use Rattle.tight_order.proofs.PartLemmas.{one_value, neg_stopped, neg_value}

-- a part has a value of which this is read
pub record Shown {A : Type 0} (read : Value → A) (a : A) (part : Part) (vars slots : List Value) : Type 0
  where
    pub value : Value
    pub has : HasValue (Ok value) part vars slots
    pub same : a ≡ read value

module _ {A : Type 0} (read : Value → A) (part : Part) (vars slots : List Value) where
  shows : (a : A) (w : Result Value Stop) → Ok a ≡ read_as read w → HasValue w part vars slots →
      Shown read a part vars slots
  shows a (Ok v) e h = let same : a ≡ read v = cc in record { value = v; has = h; same = same }
  shows a (Err s) e h = absurd (cc)

  stops : (s : Stop) (w : Result Value Stop) → Err s ≡ read_as read w → HasValue w part vars slots →
      HasValue (Err s) part vars slots
  stops s (Ok v) e h = absurd (cc)
  stops s (Err s') e h =
      let same : s' ≡ s = cc in
      subst (λ (x : Stop). HasValue (Err x) part vars slots) same h

  -- what was read is read of a value
  pub shown : (a : A) → IsRead read (Ok a) part vars slots → Shown read a part vars slots
  shown a r = shows a r.whole r.same r.has

  -- what stops the reading stops the evaluation
  pub unread : (s : Stop) → IsRead read (Err s) part vars slots → HasValue (Err s) part vars slots
  unread s r = stops s r.whole r.same r.has

  -- what stops the evaluation stops the reading
  pub read_stopped : (s : Stop) → HasValue (Err s) part vars slots → IsRead read (Err s) part vars slots
  read_stopped s h = record { whole = Err s; has = h; same = refl }

-- equal parts have the same readings
pub same_read : {A : Type 0} (read : Value → A) (r : Result A Stop) (x y : Expr Ref) (vars slots : List
    Value) →
    x ≡ y → IsRead read r (part_of x) vars slots → IsRead read r (part_of y) vars slots
same_read read r x y vars slots e h =
    subst (λ (p : Expr Ref). IsRead read r (part_of p) vars slots) e h

-- the value that a computed number is
made_of : Result ℤ Stop → Result Value Stop
made_of (Ok z) = Ok (V.Int z)
made_of (Err s) = Err s

made_reads : (r : Result ℤ Stop) → r ≡ read_as int_of (made_of r)
unfolding made_of
made_reads (Ok z) = refl
made_reads (Err s) = refl

made_has : (r : Result ℤ Stop) (e : Evaluated) → EvaluatesNumber r e → Evaluates (made_of r) e
unfolding made_of
made_has (Ok z) e h = h
made_has (Err (S.Trapped t)) e h = h
made_has (Err S.Spent) e h = h
made_has (Err S.Memory) e h = h

-- an operator that computes takes numbers
pub computing_takes : (op : Op) → computes op ≡ true → takes_numbers op ≡ true
computing_takes O.Or h = absurd (cc)
computing_takes O.And h = absurd (cc)
computing_takes O.Eq h = absurd (cc)
computing_takes O.Ne h = absurd (cc)
computing_takes O.Lt h = absurd (cc)
computing_takes O.Le h = absurd (cc)
computing_takes O.Gt h = absurd (cc)
computing_takes O.Ge h = absurd (cc)
computing_takes O.Plus h = refl
computing_takes O.Minus h = refl
computing_takes O.WrapPlus h = refl
computing_takes O.WrapMinus h = refl
computing_takes O.Times h = refl
computing_takes O.Divide h = refl
computing_takes O.Remainder h = refl
computing_takes O.At h = absurd (cc)
computing_takes O.Add h = absurd (cc)

-- an operator of numbers needs both of its parts
needs_both : (op : Op) (b : Bool) → takes_numbers op ≡ true → decides op b ≡ false
needs_both O.Or b h = absurd (cc)
needs_both O.And b h = absurd (cc)
needs_both O.Eq b h = absurd (cc)
needs_both O.Ne b h = absurd (cc)
needs_both O.Lt b h = refl
needs_both O.Le b h = refl
needs_both O.Gt b h = refl
needs_both O.Ge b h = refl
needs_both O.Plus b h = refl
needs_both O.Minus b h = refl
needs_both O.WrapPlus b h = refl
needs_both O.WrapMinus b h = refl
needs_both O.Times b h = refl
needs_both O.Divide b h = refl
needs_both O.Remainder b h = refl
needs_both O.At b h = absurd (cc)
needs_both O.Add b h = absurd (cc)

-- it looks at the numbers that its parts are
of_numbers : (op : Op) (v w : Value) → takes_numbers op ≡ true →
    apply op (V.Int (int_of v)) (V.Int (int_of w)) ≡ apply op v w
of_numbers O.Or v w h = absurd (cc)
of_numbers O.And v w h = absurd (cc)
of_numbers O.Eq v w h = absurd (cc)
of_numbers O.Ne v w h = absurd (cc)
of_numbers O.Lt v w h = refl
of_numbers O.Le v w h = refl
of_numbers O.Gt v w h = refl
of_numbers O.Ge v w h = refl
of_numbers O.Plus v w h = refl
of_numbers O.Minus v w h = refl
of_numbers O.WrapPlus v w h = refl
of_numbers O.WrapMinus v w h = refl
of_numbers O.Times v w h = refl
of_numbers O.Divide v w h = refl
of_numbers O.Remainder v w h = refl
of_numbers O.At v w h = absurd (cc)
of_numbers O.Add v w h = absurd (cc)

-- the same, for numbers that were read
of_read : (op : Op) (x y : ℤ) (v w : Value) → takes_numbers op ≡ true → x ≡ int_of v → y ≡ int_of w →
    apply op (V.Int x) (V.Int y) ≡ apply op v w
of_read op x y v w t e f =
    ap (λ (z : ℤ). apply op (V.Int z) (V.Int y)) e
    ∙ (ap (λ (z : ℤ). apply op (V.Int (int_of v)) (V.Int z)) f ∙ of_numbers op v w t)

module _ (e : Expr Ref) (vars slots : List Value) where
  pub int_read : (z : ℤ) → e.node ≡ NV.Int z → IsRead int_of (Ok z) (part_of e) vars slots
  int_read z h = record { whole = Ok (V.Int z); has = int_value e vars slots z h; same = refl }

  pub name_read : (name : Ref) (z : ℤ) → e.node ≡ NV.Name name → z ≡ int_of (named name vars slots) →
      IsRead int_of (Ok z) (part_of e) vars slots
  name_read name z h k = record {
    whole = Ok (named name vars slots);
    has = name_value e vars slots name (Ok (named name vars slots)) h refl;
    same = ap (λ (x : ℤ). Ok x) k;
  }

  module _ (part : Expr Ref) (h : e.node ≡ NV.Neg part) where
    -- minus a number that stops
    pub minus_stopped : (s : Stop) → IsRead int_of (Err s) (part_of part) vars slots →
        HasValue (Err s) (part_of e) vars slots
    minus_stopped s r = neg_stopped e vars slots part s h (unread int_of (part_of part) vars slots s r)

    -- minus a number
    pub minus_value : (z : ℤ) (found : Result Value Stop) → IsRead int_of (Ok z) (part_of part) vars slots →
        Evaluates found (exact (neg_ℤ z)) → HasValue found (part_of e) vars slots
    minus_value z found r done =
        let s : Shown int_of z (part_of part) vars slots = shown int_of (part_of part) vars slots z r in
        neg_value e vars slots part s.value found h s.has
        (subst (λ (n : ℤ). Evaluates found (exact (neg_ℤ n))) s.same done)

  -- a name that stands for a sequence
  pub name_lent : (name : Ref) (zs : List ℤ) → e.node ≡ NV.Name name → named name vars slots ≡ V.Seq zs →
      IsRead seq_of (Ok zs) (part_of e) vars slots
  name_lent name zs h k = record {
    whole = Ok (named name vars slots);
    has = name_value e vars slots name (Ok (named name vars slots)) h refl;
    same = ap (λ (v : Value). Ok (seq_of v)) (sym k);
  }

  module _ (op : Op) (left right : Expr Ref) (h : e.node ≡ NV.Two op left right) where
    module _ (t : takes_numbers op ≡ true) (x : ℤ) (l : IsRead int_of (Ok x) (part_of left) vars slots)
      where
        left_shown : Shown int_of x (part_of left) vars slots
        left_shown = shown int_of (part_of left) vars slots x l

        -- the second number stops
        pub numbers_stopped : (s : Stop) → IsRead int_of (Err s) (part_of right) vars slots →
            HasValue (Err s) (part_of e) vars slots
        numbers_stopped s r =
            right_stopped e vars slots op left right left_shown.value (bool_of left_shown.value) s h
            left_shown.has
            (needs_both op (bool_of left_shown.value) t) refl (unread int_of (part_of right) vars slots s r)

        both_shown : (y : ℤ) (found : Result Value Stop) → Shown int_of y (part_of right) vars slots →
            Evaluates found (apply op (V.Int x) (V.Int y)) → HasValue found (part_of e) vars slots
        both_shown y found r done =
            two_value e vars slots op left right left_shown.value r.value (bool_of left_shown.value) found h
            left_shown.has (needs_both op (bool_of left_shown.value) t) refl r.has
            (subst (λ (m : Evaluated). Evaluates found m)
            (of_read op x y left_shown.value r.value t left_shown.same r.same) done)

        -- what an operator of two numbers gives
        pub numbers_value : (y : ℤ) (found : Result Value Stop) → IsRead int_of (Ok y) (part_of right) vars
            slots →
            Evaluates found (apply op (V.Int x) (V.Int y)) → HasValue found (part_of e) vars slots
        numbers_value y found r done = both_shown y found (shown int_of (part_of right) vars slots y r) done

        -- the number that an operator of two numbers gives
        pub numbers_read : (y : ℤ) (found : Result ℤ Stop) → IsRead int_of (Ok y) (part_of right) vars slots →
            EvaluatesNumber found (apply op (V.Int x) (V.Int y)) → IsRead int_of found (part_of e) vars slots
        numbers_read y found r done = record {
          whole = made_of found;
          has = numbers_value y (made_of found) r (made_has found (apply op (V.Int x) (V.Int y)) done);
          same = made_reads found;
        }

    -- the first number stops
    pub number_stopped : (s : Stop) → IsRead int_of (Err s) (part_of left) vars slots →
        HasValue (Err s) (part_of e) vars slots
    number_stopped s l = left_stopped e vars slots op left right s h (unread int_of (part_of left) vars
        slots s l)

    module _ (isat : op ≡ O.At) (zs : List ℤ) (l : IsRead seq_of (Ok zs) (part_of left) vars slots) where
      lent_shown : Shown seq_of zs (part_of left) vars slots
      lent_shown = shown seq_of (part_of left) vars slots zs l

      whole_left : (b : Bool) → decides op b ≡ false
      whole_left b = ap (λ (o : Op). decides o b) isat

      -- the place in a lent sequence stops
      pub place_stopped : (s : Stop) → IsRead int_of (Err s) (part_of right) vars slots →
          HasValue (Err s) (part_of e) vars slots
      place_stopped s r =
          right_stopped e vars slots op left right lent_shown.value (bool_of lent_shown.value) s h
          lent_shown.has
          (whole_left (bool_of lent_shown.value)) refl (unread int_of (part_of right) vars slots s r)

      at_shown : (y : ℤ) (found : Result Value Stop) → Shown int_of y (part_of right) vars slots →
          Evaluates found (element zs y) → HasValue found (part_of e) vars slots
      at_shown y found r done =
          two_value e vars slots op left right lent_shown.value r.value (bool_of lent_shown.value) found h
          lent_shown.has (whole_left (bool_of lent_shown.value)) refl r.has
          (subst (λ (o : Op). Evaluates found (apply o lent_shown.value r.value)) (sym isat)
          (subst (λ (n : ℤ). Evaluates found (element (seq_of lent_shown.value) n)) r.same
          (subst (λ (ns : List ℤ). Evaluates found (element ns y)) lent_shown.same done)))

      -- an element of a lent sequence
      pub element_value : (y : ℤ) (found : Result Value Stop) → IsRead int_of (Ok y) (part_of right) vars
          slots →
          Evaluates found (element zs y) → HasValue found (part_of e) vars slots
      element_value y found r done = at_shown y found (shown int_of (part_of right) vars slots y r) done

  -- a function of a lent sequence
  pub lent_value : (fun : Fun) (part : Expr Ref) (zs : List ℤ) (found : Result Value Stop) →
      e.node ≡ NV.One fun part → IsRead seq_of (Ok zs) (part_of part) vars slots →
      Evaluates found (measure fun zs) → Evaluates found (exact_length fun zs) →
      HasValue found (part_of e) vars slots
  lent_value fun part zs found h l value beside =
      let s : Shown seq_of zs (part_of part) vars slots = shown seq_of (part_of part) vars slots zs l in
      one_value e vars slots part fun s.value zs found h s.has s.same value beside
