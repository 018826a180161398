-- What a row of reads takes.
use Rattle.std.specs.Prelude.{◌≡◌, ℕ, ◌+◌, ◌<◌, ◌≤◌, List, [], ◌++◌, length, Option, Some, IfSome}
use Rattle.seuss_run.specs.declared.reading.TheConstants.{MOST_BYTES, PIECE}

-- where the bytes left were told before, these were taken from their front, and the others are told now
abbrev pub Takes : Option (List ℕ) → Option (List ℕ) → List ℕ → Type 0
Takes before now bytes = IfSome before (λ left. (rest : List ℕ) × (left ≡ bytes ++ rest) × (now ≡ Some rest))

-- where the bytes left were told before, these were all of them
abbrev pub TakesAll : Option (List ℕ) → Option (List ℕ) → List ℕ → Type 0
TakesAll before now bytes = IfSome before (λ left. (left ≡ bytes) × (now ≡ Some []))

-- where the bytes left were told before, at most so many were taken from their front
abbrev pub TakesWithin : ℕ → Option (List ℕ) → Option (List ℕ) → Type 0
TakesWithin most before now = (bytes : List ℕ) × (length bytes ≤ most) × Takes before now bytes

-- more bytes than are read, by one read at the most
abbrev pub AreTooMany : List ℕ → Type 0
AreTooMany bytes = (MOST_BYTES < length bytes) × (length bytes ≤ MOST_BYTES + PIECE)

-- where the bytes left were told before, more of them than are read were taken from their front
abbrev pub TakesTooMany : Option (List ℕ) → Option (List ℕ) → Type 0
TakesTooMany before now = (bytes : List ℕ) × AreTooMany bytes × Takes before now bytes
