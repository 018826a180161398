-- The first of some lines.
use Rattle.std.specs.Prelude.{ℕ, List, [], ◌∷◌, Option, None, Some}

-- the first line, where there is one
abbrev pub first_of : List ℕ → Option ℕ
first_of [] = None
first_of (line ∷ lines) = Some line
