-- Words that are read one after the other.
use Rattle.std.proofs.Common.{◌≡◌, ℕ, suc, ◌+◌, ◌<◌, List, [], ◌∷◌, ◌++◌, length, get_or, drop, map}
use Rattle.std.proofs.Common.{refl, sym, ap, ◌∙◌, append_assoc, drop-cons, arith}
use Rattle.std.specs.Prelude.{Bool, ◌↔◌, IsTrue, codes, Option, Some, None, option_map, option_and_then}
use Rattle.std.specs.Bool.{Decides}
use Rattle.seuss_run.specs.Commands.{each_in}

module _ {A B : Type 0} (read : A → Option B) where
  -- what is made of the first items, and then of the others
  abbrev pub goes_on : List B → List A → Option (List B)
  goes_on made xs = option_map (λ ys. made ++ ys) (each_in read xs)

  same : (o : Option (List B)) → o ≡ option_map (λ ys. [] ++ ys) o
  same None = refl
  same (Some ys) = refl

  -- nothing was read yet
  pub begins : (xs : List A) → each_in read xs ≡ goes_on [] xs
  begins xs = same (each_in read xs)

  joined : (made : List B) (y : B) (o : Option (List B)) →
      option_map (λ ys. made ++ ys) (option_map (λ ys. y ∷ ys) o)
      ≡ option_map (λ ys. (made ++ y ∷ []) ++ ys) o
  joined made y None = refl
  joined made y (Some ys) = ap Some (sym (append_assoc made (y ∷ []) ys))

  -- one item more was read
  pub one_more : (made : List B) (x : A) (xs : List A) (y : B) → read x ≡ Some y →
      goes_on made (x ∷ xs) ≡ goes_on (made ++ y ∷ []) xs
  one_more made x xs y is =
      ap (λ o. option_map (λ ys. made ++ ys)
      (option_and_then (λ z. option_map (λ zs. z ∷ zs) (each_in read xs)) o)) is
      ∙ joined made y (each_in read xs)

  -- an item that can't be read
  pub stops : (made : List B) (x : A) (xs : List A) → read x ≡ None → goes_on made (x ∷ xs) ≡ None
  stops made x xs is =
      ap (λ o. option_map (λ ys. made ++ ys)
      (option_and_then (λ z. option_map (λ zs. z ∷ zs) (each_in read xs)) o)) is

-- the item at a place, and those after it
pub items_from : {A B : Type 0} (f : A → B) (items : List A) (i : ℕ) (item : A) →
    i < length items → item ≡ get_or items i item →
    map f (drop i items) ≡ f item ∷ map f (drop (i + 1) items)
items_from f items i item within is =
    let next : i + 1 ≡ suc i = omega arith in
    let here = ap (λ x. x ∷ drop (suc i) items) (sym is) ∙ ap (λ j. item ∷ drop j items) (sym next) in
    ap (map f) (drop-cons items i item within ∙ here)
