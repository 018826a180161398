-- Marks on boxes, one for each box.
use Rattle.std.specs.Prelude.{◌≡◌, ℕ, zero, suc, ◌<◌, Bool, true, false, if◌then◌else◌, List, [], ◌∷◌}
use Rattle.std.specs.Prelude.{length, slice_index_or, slice_set, ◌↔◌}
use Rattle.seuss_program.specs.declared.program.BoxInfo.{BoxInfo}
use Rattle.call_order.specs.Cycles.{given_of, IsGiven}

-- a box is marked
abbrev pub IsMarked : List Bool → ℕ → Type 0
IsMarked marks box = slice_index_or marks box false ≡ true

-- no box is marked
abbrev pub no_marks : ℕ → List Bool
no_marks zero = []
no_marks (suc n) = false ∷ no_marks n

-- these boxes are marked too
abbrev pub marked_with : List ℕ → List Bool → List Bool
marked_with [] marks = marks
marked_with (g ∷ gs) marks = marked_with gs (slice_set marks g true)

-- what a box is given is marked, where the box itself is marked
abbrev pub spread_from : List BoxInfo → ℕ → List Bool → List Bool
spread_from boxes box marks = if slice_index_or marks box false then marked_with (given_of boxes box) marks
    else marks

-- the same for each of the first boxes, in their order
abbrev pub spread_below : List BoxInfo → ℕ → List Bool → List Bool
spread_below boxes zero marks = marks
spread_below boxes (suc box) marks = spread_from boxes box (spread_below boxes box marks)

-- the same for all boxes, this many times
abbrev pub spread_times : List BoxInfo → ℕ → List Bool → List Bool
spread_times boxes zero marks = marks
spread_times boxes (suc times) marks = spread_below boxes (length boxes) (spread_times boxes times marks)

-- exactly the boxes are marked that a box is given, through any number of boxes
pub record KnowsGiven (boxes : List BoxInfo) (box : ℕ) (marks : List Bool) : Type 0 where
  pub count : length marks ≡ length boxes
  pub each : (other : ℕ) → IsMarked marks other ↔ IsGiven boxes box other

-- the same, with one row of marks for each box
pub record KnowsAllGiven (boxes : List BoxInfo) (rows : List (List Bool)) : Type 0 where
  pub count : length rows ≡ length boxes
  pub each : (box : ℕ) → box < length boxes → KnowsGiven boxes box (slice_index_or rows box [])
