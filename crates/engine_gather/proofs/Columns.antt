-- Turns to which a row of seats comes back, one turn after the other.
use Rattle.std.proofs.Common.{◌≡◌, ℕ, zero, suc, ◌+◌, ◌<◌, List, [], ◌∷◌, ◌++◌, map, length, set, refl, sym, ap}
use Rattle.std.proofs.Common.{◌∙◌, arith, Some}
use Rattle.std.specs.Prelude.{slice_get, slice_index_or}
use Rattle.std.proofs.lemmas.Option.{slice_get_read}
use Rattle.pass_seats.proofs.Lists.{none_some, some_same}
use Rattle.engine_gather.specs.Columns.{ColumnState, with_back, with_firsts}

-- the element between two lists
pub at-middle : {A : Type 0} (xs ys : List A) (x : A) → slice_get (xs ++ x ∷ ys) (length xs) ≡ Some x
at-middle [] ys x = refl
at-middle (z ∷ xs) ys x = at-middle xs ys x

-- none of them
pub firsts_none : (columns : List ColumnState) → with_firsts 0 columns ≡ columns
firsts_none [] = refl
firsts_none (c ∷ columns) = refl

-- all of them
pub firsts_all : (columns : List ColumnState) → with_firsts (length columns) columns ≡ map with_back columns
firsts_all [] = refl
firsts_all (c ∷ columns) = ap (λ (l : List ColumnState). with_back c ∷ l) (firsts_all columns)

-- they are as many as before
pub firsts_many : (n : ℕ) (columns : List ColumnState) → length (with_firsts n columns) ≡ length columns
firsts_many n [] = refl
firsts_many zero (c ∷ columns) = refl
firsts_many (suc n) (c ∷ columns) = ap suc (firsts_many n columns)

-- the next one is as before
pub firsts_at : (n : ℕ) (columns : List ColumnState) → slice_get (with_firsts n columns) n ≡ slice_get columns n
firsts_at n [] = refl
firsts_at zero (c ∷ columns) = refl
firsts_at (suc n) (c ∷ columns) = firsts_at n columns

-- one more
firsts_next : (n : ℕ) (columns : List ColumnState) (c : ColumnState) → slice_get columns n ≡ Some c →
    set (with_firsts n columns) n (with_back c) ≡ with_firsts (suc n) columns
firsts_next n [] c at = absurd (none_some c at)
firsts_next zero (d ∷ columns) c at =
    let same : c ≡ d = sym (some_same d c at) in
    let rest : columns ≡ with_firsts 0 columns = sym (firsts_none columns) in
    λ i. with_back (same i) ∷ rest i
firsts_next (suc n) (d ∷ columns) c at = ap (λ (l : List ColumnState). with_back d ∷ l) (firsts_next n columns c at)

module _ (init columns : List ColumnState) (number : ℕ) (o : ColumnState)
    (are : columns ≡ with_firsts number init) (less : number < length columns)
    (read : o ≡ slice_index_or columns number o) where
  -- what is read at the next turn stood there before
  pub column_there : slice_get init number ≡ Some o
  column_there =
      sym (firsts_at number init) ∙ ap (λ (l : List ColumnState). slice_get l number) (sym are)
      ∙ slice_get_read columns (length columns) number o refl less read

  -- one seat more has come back to it
  pub column_next : (new : ColumnState) → new ≡ with_back o → set columns number new ≡ with_firsts (number + 1) init
  column_next new is =
      let e : number + 1 ≡ suc number = omega arith in
      (λ i. set (are i) number (is i)) ∙ firsts_next number init o column_there
      ∙ ap (λ (n : ℕ). with_firsts n init) (sym e)
