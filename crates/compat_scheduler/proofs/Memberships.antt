-- What a list of events contains, event by event.
use Rattle.std.proofs.Common.{◌≡◌, ℕ, ◌<◌, zero, suc, List, [], ◌∷◌, length, get_or, ◌⊎◌, inl, inr, arith}
use Rattle.std.specs.Prelude.{Contains}

-- the empty list contains nothing
pub contains_nothing : {X : Type 0} (x : X) → ¬ Contains [] x
contains_nothing x h = absurd (omega (arith, h.1))

-- what a list contains is its first element or in the rest
pub contains_cases : {X : Type 0} (e : X) (es : List X) (x : X) → Contains (e ∷ es) x → (e ≡ x) ⊎
    Contains es x
contains_cases {X} e es x h = by_place h.0 h.1 h.2 where
  by_place : (k : ℕ) → k < length (e ∷ es) → get_or (e ∷ es) k x ≡ x → (e ≡ x) ⊎ Contains es x
  by_place zero within same = inl same
  by_place (suc k) within same = inr (k, omega arith, same)

-- the first element
pub contains_first : {X : Type 0} (e : X) (es : List X) (x : X) → e ≡ x → Contains (e ∷ es) x
contains_first e es x same = (0, omega arith, same)

-- an element of the rest
pub contains_later : {X : Type 0} (e : X) (es : List X) (x : X) → Contains es x → Contains (e ∷ es) x
contains_later e es x h = (suc h.0, omega (arith, h.1), h.2)
