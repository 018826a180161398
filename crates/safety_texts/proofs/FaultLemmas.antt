-- The first line that is found at the items of a list.
use Rattle.std.proofs.Common.{◌≡◌, ℕ, zero, suc, ◌+◌, ◌<◌, ◌≤◌, List}
use Rattle.std.proofs.Common.{[], ◌∷◌, ◌++◌, length, get_or, drop, refl, sym, ap}
use Rattle.std.proofs.Common.{subst, ◌∙◌, arith, add-one, drop-cons, append_assoc}
use Rattle.std.specs.List.{flat_map}
use Rattle.box_types.specs.Answers.{BeginsWith}

module _ {X : Type 0} (f : X → List ℕ) (xs : List X) where
  -- what is found at all items is found from this place on
  pub record NoneBefore (at : ℕ) : Type 0 where
    pub same : flat_map f xs ≡ flat_map f (drop at xs)

  -- nothing stands before the first item
  pub none_start : NoneBefore 0
  none_start = record { same = refl }

  -- what is found from an item on
  from_item : (at : ℕ) (x : X) → at < length xs → x ≡ get_or xs at x → NoneBefore at →
      flat_map f xs ≡ f x ++ flat_map f (drop (at + 1) xs)
  from_item at x within is before =
      let item : drop at xs ≡ x ∷ drop (at + 1) xs =
      (rw add-one (drop-cons xs at x within ∙ ap (λ (y : X). y ∷ drop (suc at) xs) (sym is))) in
      before.same ∙ ap (flat_map f) item

  -- nothing is found at one more item
  pub none_more : (at : ℕ) (x : X) → at < length xs → x ≡ get_or xs at x → f x ≡ [] → NoneBefore at →
      NoneBefore (at + 1)
  none_more at x within is none before = record {
    same = from_item at x within is before
        ∙ ap (λ (ls : List ℕ). ls ++ flat_map f (drop (at + 1) xs)) none;
  }

  -- something is found at an item
  pub first_found : (at line : ℕ) (x : X) → at < length xs → x ≡ get_or xs at x → f x ≡ line ∷ [] →
      NoneBefore at → BeginsWith (flat_map f xs) line
  first_found at line x within is found before = (
    flat_map f (drop (at + 1) xs),
    from_item at x within is before
        ∙ ap (λ (ls : List ℕ). ls ++ flat_map f (drop (at + 1) xs)) found,
  )

  -- nothing is found at any item
  pub none_all : (at : ℕ) → length xs ≤ at → NoneBefore at → flat_map f xs ≡ []
  none_all at past before = before.same ∙ ap (flat_map f) (drop_past xs at past)
    where
      drop_past : (ys : List X) (n : ℕ) → length ys ≤ n → drop n ys ≡ []
      drop_past [] zero h = refl
      drop_past [] (suc n) h = refl
      drop_past (y ∷ ys) zero h = absurd (omega arith)
      drop_past (y ∷ ys) (suc n) h = drop_past ys n (omega arith)

-- what begins with a line in its first part begins with it
pub begins_first : (xs ys : List ℕ) (line : ℕ) → BeginsWith xs line → BeginsWith (xs ++ ys) line
begins_first xs ys line begins =
    (begins.0 ++ ys, ap (λ (ls : List ℕ). ls ++ ys) begins.1)

-- and so does what has nothing before it
pub begins_second : (xs ys : List ℕ) (line : ℕ) → xs ≡ [] → BeginsWith ys line → BeginsWith (xs ++ ys) line
begins_second xs ys line none begins =
    (begins.0, ap (λ (ls : List ℕ). ls ++ ys) none ∙ begins.1)
