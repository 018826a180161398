-- Comparisons and elements that are told in a case are those of the values at every point.
use Rattle.std.proofs.Common.{◌≡◌, ℕ, suc, int_lt, int_le, ◌+◌, ◌^◌, ◌≤◌, ◌<◌, ℤ, pos, negsuc, ◌+ℤ◌, ◌-ℤ◌}
use Rattle.std.proofs.Common.{◌*ℤ◌, Bool, true, false, ◌&&◌, not, if◌then◌else◌, List, [], ◌∷◌, ◌++◌}
use Rattle.std.proofs.Common.{length, Option, None, Some, Result, Ok, Err, refl, sym, ap, subst, ◌∙◌, arith}
use Rattle.std.proofs.Common.{length-append}
use Rattle.std.specs.Int.{w64, int_wrap}
use Rattle.std.specs.Int.RustNames.{FitsSigned}
use Rattle.std.specs.Ordering.{int_eq}
use Rattle.std.proofs.lemmas.Int.{ints, int_wrap_fits, SFits-int_wrap}
use Rattle.std.proofs.lemmas.Bool.{ltb-true, and_parts}
use Rattle.std.proofs.lemmas.Bool.Decides.{Decides-int_eq, same_from_decides}
use Rattle.seuss_program.specs.declared.tree.Op.{Op}
use Rattle.seuss_program.specs.declared.tree.Op.TheVariants as O
use Rattle.seuss_program.specs.declared.state.Value.{Value}
use Rattle.seuss_program.specs.declared.state.Value.TheVariants as VV
use Rattle.seuss_program.specs.Values as V
use Rattle.shape_terms.specs.declared.num_form.NumForm.{NumForm}
use Rattle.shape_terms.specs.declared.shape.Shape.{Shape}
use Rattle.shape_terms.specs.declared.shape.Shape.TheVariants as Q
use Rattle.shape_terms.specs.declared.symbol.Symbol.{Symbol}
use Rattle.shape_terms.specs.declared.symbol.Symbol.TheVariants as Y
use Rattle.shape_terms.specs.declared.refusal.FormRefusal.{FormRefusal}
use Rattle.shape_terms.specs.Points.{Point}
use Rattle.shape_terms.specs.Numbers.{number, total, lengths_at, is_zero, literal, literal_of, minus}
use Rattle.shape_terms.specs.Sequences.{numbers, items, at_literal, len, TakesAt}
use Rattle.shape_terms.specs.Symbols.{value_at}
use Rattle.shape_terms.proofs.Products.{nothing_times}
use Rattle.shape_terms.proofs.Bits.{signed}
use Rattle.shape_terms.proofs.Wraps.{same_sums, same_fitting}
use Rattle.shape_terms.proofs.NumberLemmas.{number_minus}
use Rattle.shape_terms.proofs.LengthLemmas.{number_of_literal, length_of_numbers}
use Rattle.shape_terms.proofs.PlaceLemmas.{at_means}
use Rattle.shape_terms.specs.declared.refusal.FormRefusal.TheVariants as X
use Rattle.commute_certs.specs.declared.why.Reason.{Reason}
use Rattle.commute_certs.specs.declared.why.Reason.TheVariants as W
use Rattle.commute_certs.specs.declared.part.Part.{Part}
use Rattle.commute_certs.specs.declared.part.Part.TheVariants as P
use Rattle.commute_certs.specs.Terms as T

-- what is told
abbrev pub said : {A : Type 0} → A → Result A Reason
said x = Ok x

-- what isn't told has no symbol
pub not_told : {A : Type 0} (why : Reason) (x : A) → Err why ≡ Ok x → ⊥
not_told why x h = cc

not_found : {A : Type 0} (refusal : FormRefusal) (x : A) → Err refusal ≡ Ok x → ⊥
not_found refusal x h = cc

-- a literal that fits is its number at every point
pub number_fits : (z : ℤ) (p : Point) → V.fits z ≡ true → number (literal z) p ≡ z
number_fits z p h = number_of_literal z p ∙ int_wrap_fits w64 z (signed z h)

total_zero : (row : List ℤ) (f : ℕ → ℤ) → is_zero row ≡ true → total row f ≡ pos 0
total_zero [] f h = refl
total_zero (c ∷ cs) f h =
    let both = and_parts (int_eq c (pos 0)) (is_zero cs) h in
    ap (λ x. x *ℤ f 0 +ℤ total cs (λ k. f (suc k))) ((Decides-int_eq c (pos 0)).0 both.0)
    ∙ (ap (λ y. pos 0 *ℤ f 0 +ℤ y) (total_zero cs (λ k. f (suc k)) both.1) ∙ nothing_times (f 0))

-- a form that is a number
record IsFlat (form : NumForm) (c : ℤ) : Type 0 where
  same : form.constant ≡ c
  always : (p : Point) → number form p ≡ int_wrap w64 c

nothing_more : (z : ℤ) → z +ℤ pos 0 +ℤ pos 0 ≡ z
nothing_more z = omega (arith, ints)

none_some : {A : Type 0} (x : A) → None ≡ Some x → ⊥
none_some x h = cc

flat_by : (form : NumForm) (c : ℤ) (x y : Bool) → is_zero form.atoms ≡ x → is_zero form.lengths ≡ y →
    (if x && y then Some form.constant else None) ≡ Some c → IsFlat form c
flat_by form c true true a l h =
    let is : form.constant ≡ c = cc in
    record {
      same = is;
      always = λ p.
          ap (λ z. int_wrap w64 (form.constant +ℤ z +ℤ total form.lengths (lengths_at p)))
          (total_zero form.atoms p.atoms a)
          ∙ (ap (λ z. int_wrap w64 (form.constant +ℤ pos 0 +ℤ z)) (total_zero form.lengths (lengths_at p) l)
          ∙ ap (int_wrap w64) (nothing_more form.constant ∙ is));
    }
flat_by form c true false a l h = absurd (none_some c h)
flat_by form c false y a l h = absurd (none_some c h)

is_flat : (form : NumForm) (c : ℤ) → literal_of form ≡ Some c → IsFlat form c
is_flat form c h = flat_by form c (is_zero form.atoms) (is_zero form.lengths) refl refl h

number_signed : (form : NumForm) (p : Point) → FitsSigned w64 (number form p)
number_signed form p = SFits-int_wrap w64 _

-- whether a length above a least one compares with a number as any number above it does
not_equal : (x y : ℤ) → (x ≡ y → ⊥) → int_eq x y ≡ false
not_equal x y h = by (int_eq x y) refl
  where
    by : (b : Bool) → int_eq x y ≡ b → b ≡ false
    by true e = absurd (h ((Decides-int_eq x y).0 e))
    by false e = refl

length_not_below : (l n m : ℕ) → l ≤ n → int_le (pos m) (pos l) ≡ true → int_lt (pos n) (pos m) ≡ false
length_not_below l n m h a = grind (arith, ints)

length_not_within : (l n m : ℕ) → l ≤ n → int_lt (pos m) (pos l) ≡ true → int_le (pos n) (pos m) ≡ false
length_not_within l n m h a = grind (arith, ints)

length_above : (l n m : ℕ) → l ≤ n → int_lt (pos m) (pos l) ≡ true → int_lt (pos m) (pos n) ≡ true
length_above l n m h a = grind (arith, ints)

length_reaches : (l n m : ℕ) → l ≤ n → int_le (pos m) (pos l) ≡ true → int_le (pos m) (pos n) ≡ true
length_reaches l n m h a = grind (arith, ints)

length_differs : (l n m : ℕ) → l ≤ n → int_lt (pos m) (pos l) ≡ true → int_eq (pos n) (pos m) ≡ false
length_differs l n m h a = not_equal (pos n) (pos m) (λ e. apart e)
  where
    apart : pos n ≡ pos m → ⊥
    apart e = let same : n ≡ m = cc in let below : m < l = ltb-true m l a in omega (arith, same, h, below)

alike_at : (op : Op) (l n : ℕ) (z : ℤ) → l ≤ n → T.are_alike op (pos l) z ≡ true →
    T.compared op (pos n) z ≡ T.above op
alike_at O.Eq l n (negsuc k) h a = refl
alike_at O.Ne l n (negsuc k) h a = refl
alike_at O.Lt l n (negsuc k) h a = refl
alike_at O.Le l n (negsuc k) h a = refl
alike_at O.Gt l n (negsuc k) h a = refl
alike_at O.Ge l n (negsuc k) h a = refl
alike_at O.Eq l n (pos m) h a = length_differs l n m h a
alike_at O.Ne l n (pos m) h a = ap not (length_differs l n m h a)
alike_at O.Lt l n (pos m) h a = length_not_below l n m h a
alike_at O.Le l n (pos m) h a = length_not_within l n m h a
alike_at O.Gt l n (pos m) h a = length_above l n m h a
alike_at O.Ge l n (pos m) h a = length_reaches l n m h a
alike_at O.Or l n z h a = cc
alike_at O.And l n z h a = cc
alike_at O.Plus l n z h a = cc
alike_at O.Minus l n z h a = cc
alike_at O.WrapPlus l n z h a = cc
alike_at O.WrapMinus l n z h a = cc
alike_at O.Times l n z h a = cc
alike_at O.Divide l n z h a = cc
alike_at O.Remainder l n z h a = cc
alike_at O.At l n z h a = cc
alike_at O.Add l n z h a = cc

-- a comparison read from the right
equal_back : (x y : ℤ) → int_eq x y ≡ int_eq y x
equal_back x y = same_from_decides {P = x ≡ y} (int_eq x y) (int_eq y x) (Decides-int_eq x y)
    (λ h. sym ((Decides-int_eq y x).0 h), λ e. (Decides-int_eq y x).1 (sym e))

turned_back : (op : Op) (x y : ℤ) → T.compared op x y ≡ T.compared (T.turned op) y x
turned_back O.Eq x y = equal_back x y
turned_back O.Ne x y = ap not (equal_back x y)
turned_back O.Lt x y = refl
turned_back O.Le x y = refl
turned_back O.Gt x y = refl
turned_back O.Ge x y = refl
turned_back O.Or x y = refl
turned_back O.And x y = refl
turned_back O.Plus x y = refl
turned_back O.Minus x y = refl
turned_back O.WrapPlus x y = refl
turned_back O.WrapMinus x y = refl
turned_back O.Times x y = refl
turned_back O.Divide x y = refl
turned_back O.Remainder x y = refl
turned_back O.At x y = refl
turned_back O.Add x y = refl

-- two numbers under a comparison
numbers_compared : (op : Op) → V.is_comparison op ≡ true → (x y : ℤ) →
    V.apply op (VV.Int x) (VV.Int y) ≡ Ok (VV.Bool (T.compared op x y))
numbers_compared O.Eq c x y = refl
numbers_compared O.Ne c x y = refl
numbers_compared O.Lt c x y = refl
numbers_compared O.Le c x y = refl
numbers_compared O.Gt c x y = refl
numbers_compared O.Ge c x y = refl
numbers_compared O.Or c x y = cc
numbers_compared O.And c x y = cc
numbers_compared O.Plus c x y = cc
numbers_compared O.Minus c x y = cc
numbers_compared O.WrapPlus c x y = cc
numbers_compared O.WrapMinus c x y = cc
numbers_compared O.Times c x y = cc
numbers_compared O.Divide c x y = cc
numbers_compared O.Remainder c x y = cc
numbers_compared O.At c x y = cc
numbers_compared O.Add c x y = cc

abbrev pub is_digits : Part → Bool
is_digits (P.Digits z) = true
is_digits (P.Minus z) = false
is_digits (P.Length s) = false
is_digits (P.Other s) = false

abbrev pub is_literal : Part → Bool
is_literal (P.Digits z) = true
is_literal (P.Minus z) = true
is_literal (P.Length s) = false
is_literal (P.Other s) = false

-- the literals of a part fit
abbrev pub Fine : Part → Type 0
Fine (P.Digits z) = V.fits z ≡ true
Fine (P.Minus z) = V.fits z ≡ true
Fine (P.Length s) = Unit {0}
Fine (P.Other s) = Unit {0}

module _ (p : Point) where
  pub int_at : (s : Symbol) → V.int_of (value_at s p) ≡ number (T.number_in s) p
  int_at (Y.Number form) = refl
  int_at (Y.Truth b) = sym (number_fits (pos 0) p refl)
  int_at (Y.Untold v) = sym (number_fits (pos 0) p refl)
  int_at (Y.Sequence s) = sym (number_fits (pos 0) p refl)

  pub seq_at : (s : Symbol) → V.seq_of (value_at s p) ≡ items (T.shape_in s) p
  seq_at (Y.Number form) = refl
  seq_at (Y.Truth b) = refl
  seq_at (Y.Untold v) = refl
  seq_at (Y.Sequence s) = refl

  pub truth_at : (s : Symbol) (t : Bool) → T.truth_in s ≡ Ok t → V.bool_of (value_at s p) ≡ t
  truth_at (Y.Number form) t h = cc
  truth_at (Y.Truth b) t h = cc
  truth_at (Y.Untold v) t h = cc
  truth_at (Y.Sequence s) t h = cc

  same_numbers : (x y c : ℤ) → FitsSigned w64 x → FitsSigned w64 y →
      int_wrap w64 (x -ℤ y) ≡ int_wrap w64 c → c ≡ pos 0 → x ≡ y
  same_numbers x y c f g wraps e =
      let back : (x -ℤ y) +ℤ y ≡ x = omega (arith, ints) in
      let front : pos 0 +ℤ y ≡ y = omega (arith, ints) in
      same_fitting x y f g (ap (int_wrap w64) (sym back)
      ∙ (same_sums (x -ℤ y) (pos 0) y y (wraps ∙ ap (int_wrap w64) e) refl ∙ ap (int_wrap w64) front))

  no_difference : (x y c : ℤ) → FitsSigned w64 c → int_wrap w64 (x -ℤ y) ≡ int_wrap w64 c → x ≡ y → c ≡ pos 0
  no_difference x y c f wraps e =
      let none : y -ℤ y ≡ pos 0 = omega (arith, ints) in
      same_fitting c (pos 0) f (signed (pos 0) refl)
      (sym wraps ∙ ap (int_wrap w64) (ap (λ x. x -ℤ y) e ∙ none))

  difference_by : (a b : NumForm) (t : Bool) (o : Option ℤ) → literal_of (minus a b) ≡ o →
      T.no_difference o ≡ Ok t → int_eq (number a p) (number b p) ≡ t
  difference_by a b t None is h = absurd (not_told W.UndecidedCondition t h)
  difference_by a b t (Some c) is h =
      let flat : IsFlat (minus a b) c = is_flat (minus a b) c is in
      let wraps : int_wrap w64 (number a p -ℤ number b p) ≡ int_wrap w64 c = number_minus a b p
      ∙ flat.always p in
      let small : FitsSigned w64 c =
      subst (FitsSigned w64) flat.same
      (SFits-int_wrap w64 (a.constant +ℤ int_wrap w64 (negsuc 0 *ℤ b.constant))) in
      let same : int_eq c (pos 0) ≡ t = cc in
      same_from_decides {P = number a p ≡ number b p} (int_eq (number a p) (number b p)) (int_eq c (pos 0))
      (Decides-int_eq (number a p) (number b p)) (
        λ e. same_numbers (number a p) (number b p) c (number_signed a p) (number_signed b p) wraps
            ((Decides-int_eq c (pos 0)).0 e),
        λ e. (Decides-int_eq c (pos 0)).1 (no_difference (number a p) (number b p) c small wraps e),
      ) ∙ same

  same_at : (s u : Symbol) (t : Bool) → T.same_symbols s u ≡ Ok t → V.same (value_at s p) (value_at u p) ≡ t
  same_at (Y.Number a) (Y.Number b) t h = difference_by a b t (literal_of (minus a b)) refl h
  same_at (Y.Number a) (Y.Truth b) t h = cc
  same_at (Y.Number a) (Y.Untold v) t h = cc
  same_at (Y.Number a) (Y.Sequence s) t h = cc
  same_at (Y.Truth a) (Y.Number b) t h = cc
  same_at (Y.Truth a) (Y.Truth b) t h = cc
  same_at (Y.Truth a) (Y.Untold v) t h = cc
  same_at (Y.Truth a) (Y.Sequence s) t h = cc
  same_at (Y.Untold v) u t h = absurd (not_told _ t h)
  same_at (Y.Sequence s) (Y.Number b) t h = cc
  same_at (Y.Sequence s) (Y.Truth b) t h = cc
  same_at (Y.Sequence s) (Y.Untold v) t h = cc
  same_at (Y.Sequence s) (Y.Sequence u) t h = cc

  differ_at : (s u : Symbol) (t : Bool) (m : Result Bool Reason) → T.same_symbols s u ≡ m →
      T.opposite m ≡ Ok t →
      V.apply O.Ne (value_at s p) (value_at u p) ≡ Ok (VV.Bool t)
  differ_at s u t (Ok b) is h = let e : not b ≡ t = cc in
      ap (λ b. Ok (VV.Bool (not b))) (same_at s u b is) ∙ ap (λ b. Ok (VV.Bool b)) e
  differ_at s u t (Err why) is h = absurd (not_told why t h)

  symbols_at : (op : Op) (s u : Symbol) (t : Bool) → T.symbols_compared op s u ≡ Ok t →
      V.apply op (value_at s p) (value_at u p) ≡ Ok (VV.Bool t)
  symbols_at O.Eq s u t h = ap (λ b. Ok (VV.Bool b)) (same_at s u t h)
  symbols_at O.Ne s u t h = differ_at s u t (T.same_symbols s u) refl h
  symbols_at O.Lt s u t h = absurd (not_told _ t h)
  symbols_at O.Le s u t h = absurd (not_told _ t h)
  symbols_at O.Gt s u t h = absurd (not_told _ t h)
  symbols_at O.Ge s u t h = absurd (not_told _ t h)
  symbols_at O.Or s u t h = absurd (not_told _ t h)
  symbols_at O.And s u t h = absurd (not_told _ t h)
  symbols_at O.Plus s u t h = absurd (not_told _ t h)
  symbols_at O.Minus s u t h = absurd (not_told _ t h)
  symbols_at O.WrapPlus s u t h = absurd (not_told _ t h)
  symbols_at O.WrapMinus s u t h = absurd (not_told _ t h)
  symbols_at O.Times s u t h = absurd (not_told _ t h)
  symbols_at O.Divide s u t h = absurd (not_told _ t h)
  symbols_at O.Remainder s u t h = absurd (not_told _ t h)
  symbols_at O.At s u t h = absurd (not_told _ t h)
  symbols_at O.Add s u t h = absurd (not_told _ t h)

  long_at : (op : Op) (xs ys : List NumForm) (r : ℕ) (z : ℤ) (t b : Bool) →
      T.are_alike op (pos (length xs + length ys)) z ≡ b →
      (if b then Ok (T.above op) else Err W.UndecidedCondition) ≡ Ok t →
      T.compared op (pos (length (items (Q.Long xs r ys) p))) z ≡ t
  long_at op xs ys r z t true is h =
      let e : T.above op ≡ t = cc in
      let enough : length xs + length ys ≤ length (numbers xs p ++ p.rests r ++ numbers ys p) =
      omega (
        arith,
        length-append (numbers xs p ++ p.rests r) (numbers ys p),
        length-append (numbers xs p)
            (p.rests r),
        length_of_numbers xs p,
        length_of_numbers ys p,
      ) in
      alike_at op (length xs + length ys) (length (numbers xs p ++ p.rests r ++ numbers ys p)) z enough is
      ∙ e
  long_at op xs ys r z t false is h = absurd (not_told W.UndecidedCondition t h)

  -- a length compares with a number as is told
  pub length_at : (op : Op) (shape : Shape) (z : ℤ) (t : Bool) → T.length_compared op shape z ≡ Ok t →
      T.compared op (pos (length (items shape p))) z ≡ t
  length_at op (Q.Exact xs) z t h = let e : T.compared op (pos (length xs)) z ≡ t = cc in
      ap (λ n. T.compared op (pos n) z) (length_of_numbers xs p) ∙ e
  length_at op (Q.Long xs r ys) z t h =
      long_at op xs ys r z t (T.are_alike op (pos (length xs + length ys)) z) refl h

  -- what a part is beside a literal
  abbrev pub beside_at : Part → Value
  beside_at (P.Digits z) = VV.Int z
  beside_at (P.Minus z) = VV.Int z
  beside_at (P.Length s) = VV.Int (pos (length (items s p)))
  beside_at (P.Other s) = value_at s p

  abbrev pub read : Bool → Part → Value
  read true a = beside_at a
  read false a = value_at (T.symbol_of a) p

  module _ (op : Op) (is : V.is_comparison op ≡ true) (t : Bool) where
    two_numbers : (x y : ℤ) → said (T.compared op x y) ≡ Ok t →
        V.apply op (VV.Int x) (VV.Int y) ≡ Ok (VV.Bool t)
    two_numbers x y h = let e : T.compared op x y ≡ t = cc in numbers_compared op is x y
        ∙ ap (λ b. Ok (VV.Bool b)) e

    length_first : (s : Shape) (z x : ℤ) → x ≡ z → T.length_compared op s z ≡ Ok t →
        V.apply op (VV.Int (pos (length (items s p)))) (VV.Int x) ≡ Ok (VV.Bool t)
    length_first s z x same h = ap (λ x. V.apply op (VV.Int (pos (length (items s p)))) (VV.Int x)) same
        ∙ (numbers_compared op is (pos (length (items s p))) z
        ∙ ap (λ b. Ok (VV.Bool b)) (length_at op s z t h))

    length_second : (s : Shape) (z x : ℤ) → x ≡ z → T.length_compared (T.turned op) s z ≡ Ok t →
        V.apply op (VV.Int x) (VV.Int (pos (length (items s p)))) ≡ Ok (VV.Bool t)
    length_second s z x same h = ap (λ x. V.apply op (VV.Int x) (VV.Int (pos (length (items s p))))) same
        ∙ (numbers_compared op is z (pos (length (items s p)))
        ∙ ap (λ b. Ok (VV.Bool b))
        (turned_back op z (pos (length (items s p))) ∙ length_at (T.turned op) s z t h))

    -- two parts compare as is told
    pub parts_at : (a b : Part) → Fine a → Fine b → T.parts_compared op a b ≡ Ok t →
        V.apply op (read (is_literal b) a) (read (is_literal a) b) ≡ Ok (VV.Bool t)
    parts_at (P.Digits x) (P.Digits z) f g h = two_numbers x z h
    parts_at (P.Minus x) (P.Digits z) f g h = two_numbers x z h
    parts_at (P.Length s) (P.Digits z) f g h = length_first s z (number (literal z) p) (number_fits z p g) h
    parts_at (P.Other s) (P.Digits z) f g h = symbols_at op s (Y.Number (literal z)) t h
    parts_at (P.Digits x) (P.Minus z) f g h = two_numbers x z h
    parts_at (P.Minus x) (P.Minus z) f g h = two_numbers x z h
    parts_at (P.Length s) (P.Minus z) f g h = length_first s z (number (literal z) p) (number_fits z p g) h
    parts_at (P.Other s) (P.Minus z) f g h = symbols_at op s (Y.Number (literal z)) t h
    parts_at (P.Digits x) (P.Length s) f g h = length_second s x (number (literal x) p) (number_fits x p f) h
    parts_at (P.Minus x) (P.Length s) f g h = length_second s x (number (literal x) p) (number_fits x p f) h
    parts_at (P.Length u) (P.Length s) f g h = symbols_at op (Y.Number (len u)) (Y.Number (len s)) t h
    parts_at (P.Other u) (P.Length s) f g h = symbols_at op u (Y.Number (len s)) t h
    parts_at (P.Digits x) (P.Other s) f g h = symbols_at op (Y.Number (literal x)) s t h
    parts_at (P.Minus x) (P.Other s) f g h = symbols_at op (Y.Number (literal x)) s t h
    parts_at (P.Length u) (P.Other s) f g h = symbols_at op (Y.Number (len u)) s t h
    parts_at (P.Other u) (P.Other s) f g h = symbols_at op u s t h

  item_taken : (shape : Shape) (index x : NumForm) (z : ℤ) → literal_of index ≡ Some z → (b : Bool) →
      V.fits z ≡ b →
      (if b then at_literal shape (Some z) else Err X.MayBeEmpty) ≡ Ok x →
      V.element (items shape p) (number index p) ≡ Ok (VV.Int (number x p))
  item_taken shape index x z is true f h =
      let always : (q : Point) → number index q ≡ z = λ q. (is_flat index z is).always q
      ∙ int_wrap_fits w64 z (signed z f) in
      let takes : TakesAt shape index (Ok x) =
      subst (TakesAt shape index) h (at_means shape index (Some z) always) in
      takes p
  item_taken shape index x z is false f h = absurd (not_found X.MayBeEmpty x h)

  item_by : (shape : Shape) (index x : NumForm) (o : Option ℤ) → literal_of index ≡ o →
      T.item shape o ≡ Ok x →
      V.element (items shape p) (number index p) ≡ Ok (VV.Int (number x p))
  item_by shape index x None is h = absurd (not_found X.MayBeEmpty x h)
  item_by shape index x (Some z) is h = item_taken shape index x z is (V.fits z) refl h

  -- the element that is told
  pub item_at : (shape : Shape) (index x : NumForm) → T.item shape (literal_of index) ≡ Ok x →
      V.element (items shape p) (number index p) ≡ Ok (VV.Int (number x p))
  item_at shape index x h = item_by shape index x (literal_of index) refl h
