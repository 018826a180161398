-- How many cases the places of a certificate have.
use Rattle.std.specs.Prelude.{◌≡◌, ℕ, ◌<◌, ◌≤◌, ◌*◌, List, [], ◌∷◌, ◌++◌, map, length, take}
use Rattle.shape_terms.specs.Cases.{Pair, choices_of_vars, choices_of_first, choices_of_second}

-- the product of numbers
abbrev pub product : List ℕ → ℕ
product [] = 1
product (n ∷ ns) = n * product ns

-- how many cases each variable has, and each parameter of the first and of the second method
abbrev pub counts_of : Pair → List ℕ
counts_of pair = map length (choices_of_vars pair ++ choices_of_first pair ++ choices_of_second pair)

-- a number is the product of the first counts, as many as are needed for it to pass 4,096
pub record IsFirstAbove (counts : List ℕ) (count : ℕ) : Type 0 where
  pub many : ℕ
  pub within : many ≤ length counts
  pub value : count ≡ product (take many counts)
  pub above : 4096 < count
  pub below : (fewer : ℕ) → fewer < many → product (take fewer counts) ≤ 4096
