-- Lists whose keys never fall: the items of the least key stand at the front.
use Rattle.std.proofs.Common.{◌≡◌, ◌≢◌, ℕ, zero, suc, ◌+◌, ◌≤◌, ◌==◌, false, List, [], ◌∷◌, All, AllPairs}
use Rattle.std.proofs.Common.{take, drop, get_or, filter, refl, ◌∙◌, ap, inl, inr, arith}
use Rattle.std.specs.List.{prefix_len}
use Rattle.std.proofs.lemmas.Bool.{ne_eqb}
use Rattle.std.proofs.lemmas.Bool.Decides.{eqb_tells}

-- the keys of a list never fall, and none is below k
pub record IsRisingFrom {X : Type 0} (key : X → ℕ) (k : ℕ) (xs : List X) : Type 0 where
  pub rising : AllPairs (λ x y. key x ≤ key y) xs
  pub low : All (λ x. k ≤ key x) xs

-- what follows the first item rises from the same key
pub rising_tail : {X : Type 0} (key : X → ℕ) (k : ℕ) (x : X) (xs : List X) →
    IsRisingFrom key k (x ∷ xs) → IsRisingFrom key k xs
rising_tail key k x xs h = record {
  rising = λ i j d lt le. h.rising (suc i) (suc j) d (omega arith) (omega arith);
  low = λ i d lt. h.low (suc i) d (omega arith);
}

-- no key is below that of the first item
pub low_first : {X : Type 0} (key : X → ℕ) (k : ℕ) (x : X) (xs : List X) → IsRisingFrom key k (x ∷ xs) →
    (j : ℕ) → j ≤ key x → All (λ y. j ≤ key y) (x ∷ xs)
low_first key k x xs h j small zero d lt = small
low_first key k x xs h j small (suc i) d lt =
    let up : key x ≤ key (get_or xs i d) = h.rising 0 (suc i) d (omega arith) lt in omega arith

-- what rises from k and begins with another key rises from k + 1
rising_above : {X : Type 0} (key : X → ℕ) (k : ℕ) (x : X) (xs : List X) → key x ≢ k →
    IsRisingFrom key k (x ∷ xs) → IsRisingFrom key (k + 1) (x ∷ xs)
rising_above key k x xs ne h =
    let le : k ≤ key x = h.low 0 x (omega arith) in
    record { rising = h.rising; low = low_first key k x xs h (k + 1) (omega arith) }

-- no item has a key below all keys
pub filter_below : {X : Type 0} (key : X → ℕ) (k : ℕ) (xs : List X) →
    IsRisingFrom key (k + 1) xs → filter (λ x. key x == k) xs ≡ []
filter_below key k [] h = refl
filter_below key k (x ∷ xs) h =
    let low : k + 1 ≤ key x = h.low 0 x (omega arith) in
    let miss : (key x == k) ≡ false = ne_eqb (key x) k (omega arith) in
    rw miss (filter_below key k xs (rising_tail key (k + 1) x xs h))

-- the items at the front of a list with one more item
take_one : {X : Type 0} (m : ℕ) (x : X) (xs : List X) → take (1 + m) (x ∷ xs) ≡ x ∷ take m xs
take_one m x xs = let e : 1 + m ≡ suc m = omega arith in rw e refl

-- the items after the front of a list with one more item
drop_one : {X : Type 0} (m : ℕ) (x : X) (xs : List X) → drop (1 + m) (x ∷ xs) ≡ drop m xs
drop_one m x xs = let e : 1 + m ≡ suc m = omega arith in rw e refl

-- the items of the least key are those at the front that have it
pub filter_rising : {X : Type 0} (key : X → ℕ) (k : ℕ) (xs : List X) → IsRisingFrom key k xs →
    filter (λ x. key x == k) xs ≡ take (prefix_len (λ x. key x == k) xs) xs
filter_rising key k [] h = refl
filter_rising key k (x ∷ xs) h = elim (eqb_tells (key x) k) [
  | inl hit ↦ rw (hit.0, take_one (prefix_len (λ x. key x == k) xs) x xs)
      (ap (λ ys. x ∷ ys) (filter_rising key k xs (rising_tail key k x xs h)))
  | inr miss ↦ rw miss.0
      (filter_below key k xs (rising_tail key (k + 1) x xs (rising_above key k x xs miss.1 h)))
]

-- after the items of the least key all keys are greater
pub rising_rest : {X : Type 0} (key : X → ℕ) (k : ℕ) (xs : List X) → IsRisingFrom key k xs →
    IsRisingFrom key (k + 1) (drop (prefix_len (λ x. key x == k) xs) xs)
rising_rest key k [] h = record { rising = h.rising; low = λ i d lt. absurd (omega arith) }
rising_rest key k (x ∷ xs) h = elim (eqb_tells (key x) k) [
  | inl hit ↦ rw (hit.0, drop_one (prefix_len (λ x. key x == k) xs) x xs)
      (rising_rest key k xs (rising_tail key k x xs h))
  | inr miss ↦ rw miss.0 (rising_above key k x xs miss.1 h)
]

-- the items of another key stand after those of this key at the front
pub filter_later : {X : Type 0} (key : X → ℕ) (k j : ℕ) (xs : List X) → j ≢ k →
    filter (λ x. key x == j) xs ≡ filter (λ x. key x == j) (drop (prefix_len (λ x. key x == k) xs) xs)
filter_later key k j [] ne = refl
filter_later key k j (x ∷ xs) ne = elim (eqb_tells (key x) k) [
  | inl hit ↦ let other : (key x == j) ≡ false = ne_eqb (key x) j (omega arith) in
      rw (hit.0, drop_one (prefix_len (λ x. key x == k) xs) x xs, other) (filter_later key k j xs ne)
  | inr miss ↦ rw miss.0 refl
]

-- the rest of a list of which all items with keys below k were taken
pub record IsRest {X : Type 0} (key : X → ℕ) (k : ℕ) (xs rest : List X) : Type 0 where
  pub ahead : IsRisingFrom key k rest
  pub same : (j : ℕ) → k ≤ j → filter (λ x. key x == j) xs ≡ filter (λ x. key x == j) rest

-- at first the rest is the whole list
pub rest_start : {X : Type 0} (key : X → ℕ) (xs : List X) →
    AllPairs (λ x y. key x ≤ key y) xs → IsRest key 0 xs xs
rest_start key xs h = record {
  ahead = record { rising = h; low = λ i d lt. omega arith };
  same = λ j le. refl;
}

-- the next key's items are those at the front of the rest
pub filter_rest : {X : Type 0} (key : X → ℕ) (k : ℕ) (xs rest : List X) → IsRest key k xs rest →
    filter (λ x. key x == k) xs ≡ take (prefix_len (λ x. key x == k) rest) rest
filter_rest key k xs rest h = h.same k (omega arith) ∙ filter_rising key k rest h.ahead

-- the rest after them is the rest for the next key
pub rest_next : {X : Type 0} (key : X → ℕ) (k : ℕ) (xs rest : List X) → IsRest key k xs rest →
    IsRest key (k + 1) xs (drop (prefix_len (λ x. key x == k) rest) rest)
rest_next key k xs rest h = record {
  ahead = rising_rest key k rest h.ahead;
  same = λ j le. h.same j (omega arith) ∙ filter_later key k j rest (omega arith);
}
