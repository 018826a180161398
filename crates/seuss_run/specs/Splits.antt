-- How the bytes that are read fall into a program and its input, which a line `%%` separates.
use Rattle.std.specs.Prelude.{◌≡◌, ℕ, ◌≤◌, ◌⊎◌, List, [], ◌∷◌, ◌++◌, length, codes}

-- there are no bytes, or the last one of them is a line feed
abbrev pub EndsLine : List ℕ → Type 0
EndsLine bytes = (bytes ≡ []) ⊎ ((front : List ℕ) × (bytes ≡ front ++ 10 ∷ []))

-- `%%` with a line feed, or a carriage return and a line feed; at the very end also alone
abbrev pub IsMarker : List ℕ → List ℕ → Type 0
IsMarker marker input =
    (marker ≡ codes "%%" ++ 10 ∷ []) ⊎ ((marker ≡ codes "%%" ++ 13 ∷ 10 ∷ [])
    ⊎ ((marker ≡ codes "%%") × (input ≡ [])))

-- after whole lines of the program comes a line `%%`, and after it the input
pub record SplitsAt (bytes program input : List ℕ) : Type 0 where
  pub marker : List ℕ
  pub spelled : bytes ≡ program ++ (marker ++ input)
  pub lines : EndsLine program
  pub is_marker : IsMarker marker input

-- the first line `%%` splits the bytes
pub record IsFirstSplit (bytes program input : List ℕ) : Type 0 where
  pub splits : SplitsAt bytes program input
  pub first : (other rest : List ℕ) → SplitsAt bytes other rest → length program ≤ length other

-- no line is `%%`: all bytes are the program, and there is no input
pub record IsUnsplit (bytes program input : List ℕ) : Type 0 where
  pub none : (other rest : List ℕ) → SplitsAt bytes other rest → ⊥
  pub program_is : program ≡ bytes
  pub input_is : input ≡ []

-- the bytes are this program and this input
abbrev pub IsSplit : List ℕ → List ℕ → List ℕ → Type 0
IsSplit bytes program input = IsFirstSplit bytes program input ⊎ IsUnsplit bytes program input
