-- The numbers from 0 up to before a number.
use Rattle.std.proofs.Common.{◌≡◌, ℕ, ◌+◌, ◌<◌, List, [], ◌∷◌, ◌++◌, length, get_or, sym, ap, ◌∙◌, arith}
use Rattle.std.specs.List.{range_with_len}
use Rattle.std.proofs.lemmas.List.{map-id}
use Rattle.std.proofs.lemmas.List.FromFn.{map-range_with_len_more, length-range_with_len}
use Rattle.std.proofs.lemmas.List.FromFn.{get_or-range_with_len}

-- one number more
pub range_with_len_more : (n : ℕ) → range_with_len 0 (n + 1) ≡ range_with_len 0 n ++ n ∷ []
range_with_len_more n =
    sym (map-id (range_with_len 0 (n + 1))) ∙ map-range_with_len_more (λ x. x) 0 n n (omega arith)
    ∙ ap (λ (numbers : List ℕ). numbers ++ n ∷ []) (map-id (range_with_len 0 n))

-- each of them is below it
pub range_with_len_below : (n k d : ℕ) → k < length (range_with_len 0 n) →
    get_or (range_with_len 0 n) k d < n
range_with_len_below n k d within =
    let below : k < n = omega (arith, length-range_with_len 0 n) in
    omega (arith, get_or-range_with_len 0 n k d below)
