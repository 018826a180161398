-- Products of counts, and which of them passes 4,096.
use Rattle.std.proofs.Common.{◌≡◌, ℕ, zero, suc, ◌*◌, ◌<◌, ◌≤◌, ◌↔◌, ◌⊎◌, inl, inr, ⊎_elim, arith, Bool}
use Rattle.std.proofs.Common.{true, false, if◌then◌else◌, List, [], ◌∷◌, ◌++◌, length, take, Option, None}
use Rattle.std.proofs.Common.{Some, refl, sym, ap, ◌∙◌, subst}
use Rattle.std.specs.Prelude.{nat_lt}
use Rattle.std.specs.List.{AllByRecursion}
use Rattle.std.proofs.Math.Nat.{mul_assoc, one-le-mul, le-mul_of_pos_right, mul-le-mul_left}
use Rattle.std.proofs.lemmas.Bool.{ltb-true, ltb-false, le-ltb}
use Rattle.std.proofs.lemmas.Option.{none-some}
use Rattle.shape_terms.specs.Cases.{first_above}
use Rattle.shape_terms.specs.Counts.{product, IsFirstAbove}

-- none of these is 0
abbrev pub NoneZero : List ℕ → Type 0
NoneZero ns = AllByRecursion (λ n. 1 ≤ n) ns

-- the product of numbers one behind the other
pub product_append : (ms ns : List ℕ) → product (ms ++ ns) ≡ product ms * product ns
product_append [] ns = omega arith
product_append (m ∷ ms) ns =
    ap (λ p. m * p) (product_append ms ns) ∙ sym (mul_assoc m (product ms) (product ns))

-- a product of numbers above 0 is above 0
product_above : (ns : List ℕ) → NoneZero ns → 1 ≤ product ns
product_above [] h = omega arith
product_above (n ∷ ns) h = one-le-mul h.0 (product_above ns h.1)

-- where no product passes 4,096, this one doesn't and none of the rest does
low_step : (m : ℕ) (rest : Option ℕ) → (if nat_lt 4096 m then Some m else rest) ≡ None →
    (m ≤ 4096) × (rest ≡ None)
low_step m rest none = by (nat_lt 4096 m) refl
  where
    by : (b : Bool) → nat_lt 4096 m ≡ b → (m ≤ 4096) × (rest ≡ None)
    by true e = absurd (none-some m (sym none ∙ ap (λ b. if b then Some m else rest) e))
    by false e = (ltb-false 4096 m e, sym (ap (λ b. if b then Some m else rest) e) ∙ none)

-- the first product that passes 4,096 is this one or one of the rest
found_step : (m count : ℕ) (rest : Option ℕ) → (if nat_lt 4096 m then Some m else rest) ≡ Some count →
    ((4096 < m) × (count ≡ m)) ⊎ ((m ≤ 4096) × (rest ≡ Some count))
found_step m count rest found = by (nat_lt 4096 m) refl
  where
    by : (b : Bool) → nat_lt 4096 m ≡ b → ((4096 < m) × (count ≡ m)) ⊎ ((m ≤ 4096) × (rest ≡ Some count))
    by true e =
        let same : Some count ≡ Some m = sym found ∙ ap (λ b. if b then Some m else rest) e in
        inl (ltb-true 4096 m e, cc)
    by false e = inr (ltb-false 4096 m e, sym (ap (λ b. if b then Some m else rest) e) ∙ found)

-- where no product passes 4,096, the last one doesn't
low_product : (p : ℕ) (ns : List ℕ) → p ≤ 4096 → first_above p ns ≡ None → p * product ns ≤ 4096
low_product p [] few none = omega arith
low_product p (n ∷ ns) few none =
    let here : (p * n ≤ 4096) × (first_above (p * n) ns ≡ None) =
    low_step (p * n) (first_above (p * n) ns) none in
    subst (λ m. m ≤ 4096) (mul_assoc p n (product ns)) (low_product (p * n) ns here.0 here.1)

-- where the product of all doesn't pass 4,096, none does
none_above : (p : ℕ) (ns : List ℕ) → NoneZero ns → p * product ns ≤ 4096 → first_above p ns ≡ None
none_above p [] h few = refl
none_above p (n ∷ ns) h few =
    let all : p * n * product ns ≤ 4096 = subst (λ m. m ≤ 4096) (sym (mul_assoc p n (product ns))) few in
    let here : p * n ≤ p * n * product ns = le-mul_of_pos_right (p * n) (product_above ns h.1) in
    ap (λ b. if b then Some (p * n) else first_above (p * n) ns)
    (le-ltb 4096 (p * n) (omega (arith, all, here)))
    ∙ none_above (p * n) ns h.1 all

-- where these are counts, their product passes 4,096 exactly where that of first ones does
pub none_exactly : (ns : List ℕ) → NoneZero ns → (first_above 1 ns ≡ None) ↔ (product ns ≤ 4096)
none_exactly ns h = (
  λ none. omega (arith, low_product 1 ns (omega arith) none),
  λ few. none_above 1 ns h (omega (arith, few)),
)

-- A number is the product of this one and the first of these, as many as are needed for it to pass 4,096.
record IsFirstFrom (p : ℕ) (ns : List ℕ) (count : ℕ) : Type 0 where
  pub many : ℕ
  pub within : many ≤ length ns
  pub value : count ≡ p * product (take many ns)
  pub above : 4096 < count
  pub below : (fewer : ℕ) → fewer < many → p * product (take fewer ns) ≤ 4096

-- the first number is needed alone
at_once : (p n : ℕ) (ns : List ℕ) (count : ℕ) → p ≤ 4096 → 4096 < p * n → count ≡ p * n →
    IsFirstFrom p (n ∷ ns) count
at_once p n ns count few above e = record {
  many = 1;
  within = omega arith;
  value = e ∙ last p n;
  above = omega (arith, above, e);
  below = below;
}
  where
    last : (a b : ℕ) → a * b ≡ a * (b * 1)
    last a b = omega arith

    below : (fewer : ℕ) → fewer < 1 → p * product (take fewer (n ∷ ns)) ≤ 4096
    below zero less = omega (arith, few)
    below (suc fewer) less = absurd (omega (arith, less))

-- the first number and more are needed
further : (p n : ℕ) (ns : List ℕ) (count : ℕ) → p ≤ 4096 → IsFirstFrom (p * n) ns count →
    IsFirstFrom p (n ∷ ns) count
further p n ns count few f = record {
  many = suc f.many;
  within = omega (arith, f.within);
  value = f.value ∙ mul_assoc p n (product (take f.many ns));
  above = f.above;
  below = below;
}
  where
    below : (fewer : ℕ) → fewer < suc f.many → p * product (take fewer (n ∷ ns)) ≤ 4096
    below zero less = omega (arith, few)
    below (suc fewer) less = subst (λ m. m ≤ 4096) (mul_assoc p n (product (take fewer ns)))
        (f.below fewer (omega (arith, less)))

-- the first product that passes 4,096 is that of the first counts
first_from : (p : ℕ) (ns : List ℕ) (count : ℕ) → p ≤ 4096 → first_above p ns ≡ Some count →
    IsFirstFrom p ns count
first_from p [] count few found = absurd (none-some count found)
first_from p (n ∷ ns) count few found =
    ⊎_elim (λ (l : (4096 < p * n) × (count ≡ p * n)). at_once p n ns count few l.0 l.1)
    (λ (r : (p * n ≤ 4096) × (first_above (p * n) ns ≡ Some count)).
    further p n ns count few (first_from (p * n) ns count r.0 r.1))
    (found_step (p * n) count (first_above (p * n) ns) found)

pub first_of : (ns : List ℕ) (count : ℕ) → first_above 1 ns ≡ Some count → IsFirstAbove ns count
first_of ns count found =
    let f : IsFirstFrom 1 ns count = first_from 1 ns count (omega arith) found in
    record {
      many = f.many;
      within = f.within;
      value = omega (arith, f.value);
      above = f.above;
      below = λ fewer less. omega (arith, f.below fewer less);
    }

-- a product of the first counts is at most that of all
pub first_within : (ns : List ℕ) (many : ℕ) → NoneZero ns → product (take many ns) ≤ product ns
first_within [] zero h = omega arith
first_within [] (suc many) h = omega arith
first_within (n ∷ ns) zero h = product_above (n ∷ ns) h
first_within (n ∷ ns) (suc many) h = mul-le-mul_left n (first_within ns many h.1)
