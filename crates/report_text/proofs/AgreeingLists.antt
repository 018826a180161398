-- Lists whose keys never fall are told by their items of each key.
use Rattle.std.proofs.Common.{◌≡◌, ℕ, ◌+◌, ◌<◌, ◌≤◌, ◌==◌, true, false, inl, inr, List, [], ◌∷◌, All}
use Rattle.std.proofs.Common.{filter, refl, sym, ◌∙◌, ap, arith}
use Rattle.std.proofs.lemmas.Bool.{cases_order, eq-eqb, ne_eqb}
use Rattle.std.proofs.lemmas.Bool.Decides.{eqb_tells}
use Rattle.std.proofs.lemmas.List.Elements.{All-head, All-tail}
use Rattle.report_text.proofs.RisingLemmas.{IsRisingFrom, rising_tail, low_first, filter_below}

-- no item has a key that all keys are below
pub filter_none : {X : Type 0} (key : X → ℕ) (high k : ℕ) (xs : List X) → All (λ x. key x < high) xs →
    high ≤ k →
    filter (λ x. key x == k) xs ≡ []
filter_none key high k [] below past = refl
filter_none key high k (x ∷ xs) below past =
    let low : key x < high = All-head (λ y. key y < high) x xs below in
    let miss : (key x == k) ≡ false = ne_eqb (key x) k (omega arith) in
    rw miss (filter_none key high k xs (All-tail (λ y. key y < high) x xs below) past)

module _ {X : Type 0} (key : X → ℕ) where
  -- the items of two lists with a key are the same
  abbrev pub AgreeAt : List X → List X → ℕ → Type 0
  AgreeAt xs ys k = filter (λ x. key x == k) xs ≡ filter (λ x. key x == k) ys

  -- the first item is one of those with its key
  with_first : (k : ℕ) (x : X) (xs : List X) → (key x == k) ≡ true →
      filter (λ z. key z == k) (x ∷ xs) ≡ x ∷ filter (λ z. key z == k) xs
  with_first k x xs hit = rw hit refl

  -- the first item is none of those with another key
  without_first : (k : ℕ) (x : X) (xs : List X) → (key x == k) ≡ false →
      filter (λ z. key z == k) (x ∷ xs) ≡ filter (λ z. key z == k) xs
  without_first k x xs miss = rw miss refl

  -- an item is there, so not all lists agree with the empty one
  not_empty : (k : ℕ) (x : X) (xs : List X) → key x ≡ k → filter (λ z. key z == k) (x ∷ xs) ≡ [] → ⊥
  not_empty k x xs hit none = no_item (sym (with_first k x xs (eq-eqb (key x) k hit)) ∙ none)
    where
      no_item : x ∷ filter (λ z. key z == k) xs ≡ [] → ⊥
      no_item e = cc

  -- of two such lists the second doesn't begin with a greater key
  begins_no_later : (x y : X) (xs ys : List X) → IsRisingFrom key 0 (y ∷ ys) → key x < key y →
      AgreeAt (x ∷ xs) (y ∷ ys) (key x) → ⊥
  begins_no_later x y xs ys rising lt agree =
      let late : IsRisingFrom key (key x + 1) (y ∷ ys) =
      record { rising = rising.rising; low = low_first key 0 y ys rising (key x + 1) (omega arith) } in
      not_empty (key x) x xs refl (agree ∙ filter_below key (key x) (y ∷ ys) late)

  -- equal lists have the same first item and the same rest
  parts_agree : (x y : X) (us vs : List X) → x ∷ us ≡ y ∷ vs → (x ≡ y) × (us ≡ vs)
  parts_agree x y us vs e = (cc, cc)

  -- the rests of lists that begin with the same key agree where the lists do
  rests_agree : (k : ℕ) (x y : X) (xs ys : List X) → key x ≡ key y → AgreeAt (x ∷ xs) (y ∷ ys) k →
      AgreeAt xs ys k
  rests_agree k x y xs ys same agree = elim (eqb_tells (key x) k) [
    | inl hit ↦
        let other : (key y == k) ≡ true = eq-eqb (key y) k (sym same ∙ hit.1) in
        (parts_agree x y (filter (λ z. key z == k) xs) (filter (λ z. key z == k) ys)
        (sym (with_first k x xs hit.0) ∙ (agree ∙ with_first k y ys other))).1
    | inr miss ↦
        let other : (key y == k) ≡ false = ne_eqb (key y) k (λ e. miss.1 (same ∙ e)) in
        sym (without_first k x xs miss.0) ∙ (agree ∙ without_first k y ys other)
  ]

  -- lists that agree and begin with the same key begin with the same item
  firsts_agree : (x y : X) (xs ys : List X) → key x ≡ key y → AgreeAt (x ∷ xs) (y ∷ ys) (key x) → x ≡ y
  firsts_agree x y xs ys same agree =
      let k = key x in
      (parts_agree x y (filter (λ z. key z == k) xs) (filter (λ z. key z == k) ys)
      (sym (with_first k x xs (eq-eqb k k refl))
      ∙ (agree ∙ with_first k y ys (eq-eqb (key y) k (sym same))))).0

  -- lists whose keys never fall are the same where they have the same items of each key
  pub same_lists : (xs ys : List X) → IsRisingFrom key 0 xs → IsRisingFrom key 0 ys →
      ((k : ℕ) → AgreeAt xs ys k) → xs ≡ ys
  same_lists [] [] first second agree = refl
  same_lists [] (y ∷ ys) first second agree = absurd (not_empty (key y) y ys refl (sym (agree (key y))))
  same_lists (x ∷ xs) [] first second agree = absurd (not_empty (key x) x xs refl (agree (key x)))
  same_lists (x ∷ xs) (y ∷ ys) first second agree = elim (cases_order (key x) (key y)) [
    | inl same ↦
        let rest : xs ≡ ys = same_lists xs ys (rising_tail key 0 x xs first) (rising_tail key 0 y ys second)
        (λ k. rests_agree k x y xs ys same (agree k)) in
        ap (λ z. z ∷ xs) (firsts_agree x y xs ys same (agree (key x))) ∙ ap (λ zs. y ∷ zs) rest
    | inr (inl less) ↦ absurd (begins_no_later x y xs ys second less (agree (key x)))
    | inr (inr more) ↦ absurd (begins_no_later y x ys xs first more (sym (agree (key y))))
  ]
