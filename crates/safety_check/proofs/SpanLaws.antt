-- The numbers that spans stand for.
use Rattle.std.proofs.Common.{◌≡◌, ℕ, suc, ◌+◌, ◌^◌, ◌<◌, ℤ, pos, negsuc, ◌+ℤ◌, ◌-ℤ◌, int_lt}
use Rattle.std.proofs.Common.{int_le, Bool, true, false, ◌&&◌, ◌||◌, if◌then◌else◌}
use Rattle.std.proofs.Common.{Option}
use Rattle.std.proofs.Common.{true≢false, None, Some, refl, sym, subst, arith}
use Rattle.std.specs.Prelude.{◌≤ℤ◌, IfSome, IsSomeAnd, option_map}
use Rattle.std.specs.Int.{w64, int_wrap, int_max, int_min}
use Rattle.std.specs.Int.RustNames.{FitsSigned}
use Rattle.std.specs.Ordering.{int_eq}
use Rattle.std.proofs.lemmas.Int.{ints, clamps, int_wrap_fits}
use Rattle.std.proofs.lemmas.Bool.{ltb-true, lt-ltb, and_parts}
use Rattle.std.proofs.lemmas.Bool.Decides.{Decides-int_eq}
use Rattle.meaning_laws.proofs.FittingNumbers.{Fits, wrapped-fits}
use Rattle.safety_check.specs.Spans.{Span, Within, lowest, highest, all_numbers, single}
use Rattle.safety_check.specs.Spans.{ends_before}
use Rattle.safety_check.specs.Spans.{ends_by, all_less, all_at_most, unless_empty, end_sum, sums}
use Rattle.safety_check.specs.Spans.{least_difference}
use Rattle.safety_check.specs.Spans.{end_difference, differences, cut_end, cut, wrapped_span, raised}
use Rattle.safety_check.specs.Spans.{shortened}
use Rattle.safety_check.specs.Spans.{lowered, end_round, round}
use Rattle.safety_check.specs.Regions.{decided}

-- a number of 64 bits is one of all numbers, and the other way round
fits-from : (z : ℤ) → Fits z → lowest ≤ℤ z
fits-from (pos n) h = omega (arith, ints)
fits-from (negsuc n) h = let less = ltb-true n (2 ^ 63) h in omega (arith, ints, less)

-- and at most the highest
fits-to : (z : ℤ) → Fits z → z ≤ℤ highest
fits-to (pos n) h = let less = ltb-true n (2 ^ 63) h in omega (arith, ints, less)
fits-to (negsuc n) h = omega (arith, ints)

-- a number of 64 bits is one of all numbers
pub fits-within : (z : ℤ) → Fits z → Within all_numbers z
fits-within z h = record { from = fits-from z h; up_to = fits-to z h }

-- and the other way round
within-fits : (z : ℤ) → lowest ≤ℤ z → z ≤ℤ highest → Fits z
within-fits (pos n) a b = let less : n < 2 ^ 63 = omega (arith, ints, a, b) in lt-ltb n (2 ^ 63) less
within-fits (negsuc n) a b = let less : n < 2 ^ 63 = omega (arith, ints, a, b) in lt-ltb n (2 ^ 63) less

-- it fits the signed type
fits-signed : (z : ℤ) → Fits z → FitsSigned w64 z
fits-signed (pos n) h = record { sfits = ltb-true n (2 ^ 63) h }
fits-signed (negsuc n) h = record { sfits = ltb-true n (2 ^ 63) h }

-- a number is the one of its span
pub single-within : (z : ℤ) → Within (single z) z
single-within z = record { from = omega (arith, ints); up_to = omega (arith, ints) }

-- one order after another one
le-trans : (a b c : ℤ) → a ≤ℤ b → b ≤ℤ c → a ≤ℤ c
le-trans a b c h g = omega (arith, ints)

-- sums and differences
add-le : (a b x y : ℤ) → a ≤ℤ x → b ≤ℤ y → (a +ℤ b) ≤ℤ (x +ℤ y)
add-le a b x y h g = omega (arith, ints)

-- differences keep the order
sub-le : (a b x y : ℤ) → a ≤ℤ x → y ≤ℤ b → (a -ℤ b) ≤ℤ (x -ℤ y)
sub-le a b x y h g = omega (arith, ints)

-- a sum is one of the sums
pub sums-within : (s t : Span) (x y : ℤ) → Within s x → Within t y → Within (sums s t) (x +ℤ y)
sums-within s t x y a b = record {
  from = add-le s.least t.least x y a.from b.from;
  up_to = by s.most t.most a.up_to b.up_to;
}
  where
    by : (m n : Option ℤ) → IfSome m (λ m. x ≤ℤ m) → IfSome n (λ n. y ≤ℤ n) →
        IfSome (end_sum m n) (λ m. (x +ℤ y) ≤ℤ m)
    by None n h g = tt
    by (Some m) None h g = tt
    by (Some m) (Some n) h g = add-le x y m n h g

-- a difference of 64 bits, where the second span may have no end
pub differences-within : (s t : Span) (x y : ℤ) → Within s x → Within t y → Fits (x -ℤ y) →
    Within (differences s t) (x -ℤ y)
differences-within s t x y a b small = record {
  from = low t.most b.up_to;
  up_to = high s.most a.up_to;
}
  where
    low : (n : Option ℤ) → IfSome n (λ n. y ≤ℤ n) → least_difference s.least n ≤ℤ (x -ℤ y)
    low None g = le-trans (lowest -ℤ pos 1) lowest (x -ℤ y) (omega (arith, ints)) (fits-from (x -ℤ y) small)
    low (Some n) g = sub-le s.least n x y a.from g

    high : (m : Option ℤ) → IfSome m (λ m. x ≤ℤ m) → IfSome (end_difference m t.least) (λ m. (x -ℤ y) ≤ℤ m)
    high None h = tt
    high (Some m) h = sub-le x y m t.least h b.from

-- a span with a number isn't empty
trans-not-less : (a z m : ℤ) → a ≤ℤ z → z ≤ℤ m → int_lt m a ≡ false
trans-not-less a z m h g = grind (arith, ints)

-- a span with a number isn't empty
pub not-empty : (s : Span) (z : ℤ) → Within s z → unless_empty s ≡ Some s
not-empty s z h = by (ends_before s.most s.least) (low s.most h.up_to)
  where
    low : (m : Option ℤ) → IfSome m (λ m. z ≤ℤ m) → ends_before m s.least ≡ false
    low None g = refl
    low (Some m) g = trans-not-less s.least z m h.from g

    by : (b : Bool) → b ≡ false → (if b then None else Some s) ≡ Some s
    by false e = refl
    by true e = absurd (cc)

-- what is cut to 64 bits still has its numbers of 64 bits
max-le : (a b z : ℤ) → a ≤ℤ z → b ≤ℤ z → int_max a b ≤ℤ z
max-le a b z h g = omega (arith, ints, clamps)

-- a number at most two others is at most the lesser
le-min : (a b z : ℤ) → z ≤ℤ a → z ≤ℤ b → z ≤ℤ int_min a b
le-min a b z h g = omega (arith, ints, clamps)

-- a number of 64 bits is still there
pub cut-within : (s : Span) (z : ℤ) → Within s z → Fits z → IsSomeAnd (cut s) (λ t. Within t z)
cut-within s z h small =
    let t : Span = record { least = int_max s.least lowest; most = Some (cut_end s.most) } in
    let w : Within t z =
    record { from = max-le s.least lowest z h.from (fits-from z small); up_to = by s.most h.up_to } in
    subst (λ o. IsSomeAnd o (λ t. Within t z)) (sym (not-empty t z w)) w
  where
    by : (m : Option ℤ) → IfSome m (λ m. z ≤ℤ m) → z ≤ℤ cut_end m
    by None g = fits-to z small
    by (Some m) g = le-min m highest z g (fits-to z small)

-- a sum modulo 2 ^ 64
le-of : (a b : ℤ) → int_le a b ≡ true → a ≤ℤ b
le-of a b h = grind (arith, ints)

-- a number modulo 2 ^ 64 is one of the wrapped span
pub wrapped-within : (s : Span) (z : ℤ) → (Fits z → Within s z) →
    (int_le lowest s.least && ends_by s.most highest ≡ true → Fits z) →
    Within (wrapped_span s) (int_wrap w64 z)
wrapped-within s z h g = by (int_le lowest s.least && ends_by s.most highest) refl
  where
    by : (b : Bool) → int_le lowest s.least && ends_by s.most highest ≡ b →
        Within (if b then s else all_numbers) (int_wrap w64 z)
    by true e = subst (Within s) (sym (int_wrap_fits w64 z (fits-signed z (g e)))) (h (g e))
    by false e = fits-within (int_wrap w64 z) (wrapped-fits z)

-- a number of a span of 64 bits has them
pub fits-of : (s : Span) (z : ℤ) → Within s z → int_le lowest s.least && ends_by s.most highest ≡ true →
    Fits z
fits-of s z h e =
    let both = and_parts (int_le lowest s.least) (ends_by s.most highest) e in
    within-fits z (le-trans lowest s.least z (le-of lowest s.least both.0) h.from)
    (high s.most h.up_to both.1)
  where
    high : (m : Option ℤ) → IfSome m (λ m. z ≤ℤ m) → ends_by m highest ≡ true → z ≤ℤ highest
    high None g i = absurd (cc)
    high (Some m) g i = le-trans z m highest g (le-of m highest i)

-- a difference whose span has 64 bits
pub difference-fits : (s t : Span) (x y : ℤ) → Within s x → Within t y →
    int_le lowest (differences s t).least && ends_by (differences s t).most highest ≡ true → Fits (x -ℤ y)
difference-fits s t x y a b e = by t.most b.up_to both.0
  where
    both : (int_le lowest (differences s t).least ≡ true) × (ends_by (differences s t).most highest ≡ true)
    both = and_parts (int_le lowest (differences s t).least) (ends_by (differences s t).most highest) e

    high : (m : Option ℤ) → IfSome m (λ m. x ≤ℤ m) → ends_by (end_difference m t.least) highest ≡ true →
        (x -ℤ y) ≤ℤ highest
    high None g i = absurd (cc)
    high (Some m) g i =
        le-trans (x -ℤ y) (m -ℤ t.least) highest (sub-le x y m t.least g b.from)
        (le-of (m -ℤ t.least) highest i)

    by : (n : Option ℤ) → IfSome n (λ n. y ≤ℤ n) → int_le lowest (least_difference s.least n) ≡ true →
        Fits (x -ℤ y)
    by None g i = absurd (true≢false (sym i))
    by (Some n) g i =
        within-fits (x -ℤ y)
        (le-trans lowest (s.least -ℤ n) (x -ℤ y) (le-of lowest (s.least -ℤ n) i)
        (sub-le s.least n x y a.from g))
        (high s.most a.up_to both.1)

-- comparisons
pub less-lt : (s t : Span) (x y : ℤ) → Within s x → Within t y → all_less s t ≡ true → int_lt x y ≡ true
less-lt s t x y a b = by s.most a.up_to
  where
    step : (m : ℤ) → x ≤ℤ m → t.least ≤ℤ y → int_lt m t.least ≡ true → int_lt x y ≡ true
    step m h g e = grind (arith, ints)

    by : (m : Option ℤ) → IfSome m (λ m. x ≤ℤ m) → ends_before m t.least ≡ true → int_lt x y ≡ true
    by None h e = absurd (cc)
    by (Some m) h e = step m h b.from e

-- numbers of spans in order are in order
pub at-most-le : (s t : Span) (x y : ℤ) → Within s x → Within t y → all_at_most s t ≡ true → int_le x y ≡ true
at-most-le s t x y a b = by s.most a.up_to
  where
    step : (m : ℤ) → x ≤ℤ m → t.least ≤ℤ y → int_le m t.least ≡ true → int_le x y ≡ true
    step m h g e = grind (arith, ints)

    by : (m : Option ℤ) → IfSome m (λ m. x ≤ℤ m) → ends_by m t.least ≡ true → int_le x y ≡ true
    by None h e = absurd (cc)
    by (Some m) h e = step m h b.from e

-- what is less isn't at least
not-le : (x y : ℤ) → int_lt x y ≡ true → int_le y x ≡ false
not-le x y h = grind (arith, ints)

-- what is at most isn't greater
not-lt : (x y : ℤ) → int_le x y ≡ true → int_lt y x ≡ false
not-lt x y h = grind (arith, ints)

-- numbers at most one another are the same
both-eq : (x y : ℤ) → int_le x y ≡ true → int_le y x ≡ true → int_eq x y ≡ true
both-eq x y h g = (Decides-int_eq x y).1 (same x y h g)
  where
    same : (x y : ℤ) → int_le x y ≡ true → int_le y x ≡ true → x ≡ y
    same x y h g = grind (arith, ints)

-- a lesser number isn't the same
not-eq : (x y : ℤ) → int_lt x y ≡ true → int_eq x y ≡ false
not-eq x y h = by (int_eq x y) refl
  where
    apart : (x y : ℤ) → int_lt x y ≡ true → x ≡ y → ⊥
    apart x y h e = grind (arith, ints)

    by : (b : Bool) → int_eq x y ≡ b → b ≡ false
    by true e = absurd (apart x y h ((Decides-int_eq x y).0 e))
    by false e = refl

-- nor is a greater one
not-eq-back : (x y : ℤ) → int_lt y x ≡ true → int_eq x y ≡ false
not-eq-back x y h = by (int_eq x y) refl
  where
    apart : (x y : ℤ) → int_lt y x ≡ true → x ≡ y → ⊥
    apart x y h e = grind (arith, ints)

    by : (b : Bool) → int_eq x y ≡ b → b ≡ false
    by true e = absurd (apart x y h ((Decides-int_eq x y).0 e))
    by false e = refl

-- what is decided is so
pub decided-holds : (always never b : Bool) → (always ≡ true → b ≡ true) → (never ≡ true → b ≡ false) →
    IfSome (decided always never) (λ k. b ≡ k)
decided-holds true never b h g = h refl
decided-holds false true b h g = g refl
decided-holds false false b h g = tt

module _ (s t : Span) (x y : ℤ) (a : Within s x) (b : Within t y) where
  -- whether one number is less
  pub lt-holds : IfSome (decided (all_less s t) (all_at_most t s)) (λ k. int_lt x y ≡ k)
  lt-holds =
      decided-holds (all_less s t) (all_at_most t s) (int_lt x y) (less-lt s t x y a b)
      (λ e. not-lt y x (at-most-le t s y x b a e))

  -- whether one number is at most the other one
  pub le-holds : IfSome (decided (all_at_most s t) (all_less t s)) (λ k. int_le x y ≡ k)
  le-holds =
      decided-holds (all_at_most s t) (all_less t s) (int_le x y) (at-most-le s t x y a b)
      (λ e. not-le y x (less-lt t s y x b a e))

  -- whether two numbers are the same
  pub eq-holds : IfSome (decided (all_at_most s t && all_at_most t s) (all_less s t || all_less t s))
      (λ k. int_eq x y ≡ k)
  eq-holds =
      decided-holds (all_at_most s t && all_at_most t s) (all_less s t || all_less t s) (int_eq x y)
      (λ e. let both = and_parts (all_at_most s t) (all_at_most t s) e in
      both-eq x y (at-most-le s t x y a b both.0) (at-most-le t s y x b a both.1))
      (λ e. by (all_less s t) (all_less t s) refl refl e)
    where
      by : (l r : Bool) → all_less s t ≡ l → all_less t s ≡ r → l || r ≡ true → int_eq x y ≡ false
      by true r p q e = not-eq x y (less-lt s t x y a b p)
      by false true p q e = not-eq-back x y (less-lt t s y x b a q)
      by false false p q e = absurd (cc)

-- lengths
pub shortened-within : (s : Span) (n : ℕ) → Within s (pos (suc n)) →
    IsSomeAnd (shortened s) (λ t. Within t (pos n))
shortened-within s n h =
    let u : Span = record { least = int_max s.least (pos 1); most = s.most } in
    let w : Within u (pos (suc n)) =
    record { from = max-le s.least (pos 1) (pos (suc n)) h.from (omega (arith, ints)); up_to = h.up_to } in
    subst (λ o. IsSomeAnd (option_map lowered o) (λ t. Within t (pos n))) (sym (not-empty u (pos (suc n)) w))
    (record { from = down u.least n w.from; up_to = high s.most h.up_to })
  where
    down : (a : ℤ) (n : ℕ) → a ≤ℤ pos (suc n) → (a -ℤ pos 1) ≤ℤ pos n
    down a n h = omega (arith, ints)

    high : (m : Option ℤ) → IfSome m (λ m. pos (suc n) ≤ℤ m) →
        IfSome (end_difference m (pos 1)) (λ m. pos n ≤ℤ m)
    high None g = tt
    high (Some m) g = up m n g
      where
        up : (a : ℤ) (n : ℕ) → pos (suc n) ≤ℤ a → pos n ≤ℤ (a -ℤ pos 1)
        up a n h = omega (arith, ints)

-- a length with one more element
pub raised-within : (s : Span) (n : ℕ) → Within s (pos n) → Within (raised s) (pos (n + 1))
raised-within s n h = sums-within s (single (pos 1)) (pos n) (pos 1) h (single-within (pos 1))

-- round two spans
min-le : (a b z : ℤ) → a ≤ℤ z → int_min a b ≤ℤ z
min-le a b z h = omega (arith, ints, clamps)

-- and so is the other one
min-le-right : (a b z : ℤ) → b ≤ℤ z → int_min a b ≤ℤ z
min-le-right a b z h = omega (arith, ints, clamps)

-- a number is at most the greater of two
le-max : (a b z : ℤ) → z ≤ℤ a → z ≤ℤ int_max a b
le-max a b z h = omega (arith, ints, clamps)

-- and so is the other one
le-max-right : (a b z : ℤ) → z ≤ℤ b → z ≤ℤ int_max a b
le-max-right a b z h = omega (arith, ints, clamps)

-- a number of the first span
pub round-left : (s t : Span) (z : ℤ) → Within s z → Within (round s t) z
round-left s t z h = record { from = min-le s.least t.least z h.from; up_to = by s.most t.most h.up_to }
  where
    by : (m n : Option ℤ) → IfSome m (λ m. z ≤ℤ m) → IfSome (end_round m n) (λ m. z ≤ℤ m)
    by None n g = tt
    by (Some m) None g = tt
    by (Some m) (Some n) g = le-max m n z g

-- a number of the second span
pub round-right : (s t : Span) (z : ℤ) → Within t z → Within (round s t) z
round-right s t z h = record {
  from = min-le-right s.least t.least z h.from;
  up_to =
      by s.most t.most h.up_to;
}
  where
    by : (m n : Option ℤ) → IfSome n (λ m. z ≤ℤ m) → IfSome (end_round m n) (λ m. z ≤ℤ m)
    by None n g = tt
    by (Some m) None g = tt
    by (Some m) (Some n) g = le-max-right m n z g
