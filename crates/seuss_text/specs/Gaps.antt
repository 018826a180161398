-- What stands between tokens.
use Rattle.std.specs.Prelude.{◌≡◌, ◌≢◌, ℕ, IsTrue, List, [], ◌∷◌, ◌++◌, ◌⊎◌}
use Rattle.std.specs.List.{AllByRecursion}
use Rattle.seuss_text.specs.Bytes.{line_feed, hash, is_white}

-- bytes on one line
abbrev pub IsOnOneLine : List ℕ → Type 0
IsOnOneLine bytes = AllByRecursion (λ b. b ≢ line_feed) bytes

-- White space and comments before a token. A comment goes on up to the next line feed.
pub data IsGap : List ℕ → Type 0 where
  nothing : IsGap []
  white : {b : ℕ} {gap : List ℕ} → IsTrue (is_white b) → IsGap gap → IsGap (b ∷ gap)
  comment : (bytes gap : List ℕ) {whole : List ℕ} → whole ≡ hash ∷ bytes ++ line_feed ∷ gap →
      IsOnOneLine bytes →
      IsGap gap → IsGap whole

-- White space and comments up to the end of the text, where the last comment needs no line feed.
abbrev pub IsLastGap : List ℕ → Type 0
IsLastGap bytes = IsGap bytes ⊎ ((gap comment : List ℕ) × IsGap gap × IsOnOneLine comment ×
    (bytes ≡ gap ++ hash ∷ comment))
