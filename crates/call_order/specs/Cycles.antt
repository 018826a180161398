-- Which boxes a box is given, and which boxes stand in a cycle.
use Rattle.std.specs.Prelude.{ℕ, zero, suc, ◌<◌, length, List, [], slice_get, Option, None, Some, Contains}
use Rattle.seuss_program.specs.declared.program.BoxInfo.{BoxInfo}

-- the numbers of the boxes that a box is given, where it is there
abbrev pub given_to : Option BoxInfo → List ℕ
given_to None = []
given_to (Some b) = b.given

-- the numbers of the boxes that a box is given, by its own number
abbrev pub given_of : List BoxInfo → ℕ → List ℕ
given_of boxes box = given_to (slice_get boxes box)

-- a box is given another one, through this many boxes
abbrev pub IsGivenThrough : List BoxInfo → ℕ → ℕ → ℕ → Type 0
IsGivenThrough boxes zero box other = Contains (given_of boxes box) other
IsGivenThrough boxes (suc between) box other =
    (next : ℕ) × Contains (given_of boxes box) next × IsGivenThrough boxes between next other

-- a box is given another one, through any number of boxes
abbrev pub IsGiven : List BoxInfo → ℕ → ℕ → Type 0
IsGiven boxes box other = (between : ℕ) × IsGivenThrough boxes between box other

-- a box is given to itself, through any number of boxes
abbrev pub IsCyclic : List BoxInfo → ℕ → Type 0
IsCyclic boxes box = IsGiven boxes box box

-- the first box by declaration that is given to itself
pub record IsFirstCyclic (boxes : List BoxInfo) (box : ℕ) : Type 0 where
  pub cyclic : IsCyclic boxes box
  pub first : (earlier : ℕ) → earlier < box → IsCyclic boxes earlier → ⊥

-- no box is given to itself
pub record HasNoCycle (boxes : List BoxInfo) : Type 0 where
  pub none : (box : ℕ) → IsCyclic boxes box → ⊥

-- each given box is there
pub record GivesBoxes (boxes : List BoxInfo) : Type 0 where
  pub there : (box given : ℕ) → Contains (given_of boxes box) given → given < length boxes
