-- What is made of numbers in turn.
use Rattle.std.proofs.Common.{◌≡◌, ℕ, zero, suc, ◌+◌, List, [], ◌∷◌, ◌++◌, map, ap, arith}
use Rattle.std.specs.List.{range_with_len}

-- what is made of one more number from a on
map_range_from : {X : Type 0} (f : ℕ → X) (a n b : ℕ) → a + n ≡ b →
    map f (range_with_len a (suc n)) ≡ map f (range_with_len a n) ++ f b ∷ []
map_range_from f a zero b e = let same : a ≡ b = omega arith in ap (λ x. f x ∷ []) same
map_range_from f a (suc n) b e = ap (λ ys. f a ∷ ys) (map_range_from f (a + 1) n b (omega arith))

-- what is made of one more number from 0 on
pub map_range_more : {X : Type 0} (f : ℕ → X) (n : ℕ) →
    map f (range_with_len 0 (n + 1)) ≡ map f (range_with_len 0 n) ++ f n ∷ []
map_range_more f n = let e : n + 1 ≡ suc n = omega arith in rw e (map_range_from f 0 n n (omega arith))
