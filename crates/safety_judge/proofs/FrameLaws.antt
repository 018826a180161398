-- Lists of regions, place by place.
use Rattle.std.proofs.Common.{◌≡◌, ℕ, ◌≤◌, List, [], ◌∷◌, ◌++◌, length, drop, refl, sym, ap, ◌∙◌}
use Rattle.std.proofs.lemmas.List.{append-nil, drop_all}
use Rattle.safety_check.specs.declared.region.Region.{Region}
use Rattle.safety_check.specs.Regions.{rounds}

-- behind the end of one list there are none
none-round : (xs : List Region) → rounds xs [] ≡ []
none-round [] = refl
none-round (x ∷ xs) = refl

-- where the second list ends, the rounds are those so far
pub rounds-end : (xs ys both whole : List Region) (at : ℕ) → length ys ≤ at →
    both ++ rounds (drop at xs) (drop at ys) ≡ whole → both ≡ whole
rounds-end xs ys both whole at h same =
    sym (append-nil both)
    ∙ (sym (ap (λ zs. both ++ zs) (ap (rounds (drop at xs)) (drop_all at ys h) ∙ none-round (drop at xs)))
    ∙ same)
