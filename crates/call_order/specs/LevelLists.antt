-- Levels in a list of their own, one for each box.
use Rattle.std.specs.Prelude.{◌≡◌, ℕ, ◌<◌, List, [], ◌∷◌, map, length, slice_index_or}
use Rattle.seuss_program.specs.declared.program.BoxInfo.{BoxInfo}
use Rattle.seuss_program.specs.Keeping.{above}
use Rattle.call_order.specs.Cycles.{given_of}

-- the level of a box among levels
abbrev pub level_at : List ℕ → ℕ → ℕ
level_at levels box = slice_index_or levels box 0

-- one more than the greatest level of these boxes, or 0 where there are none
abbrev pub level_above : List ℕ → List ℕ → ℕ
level_above levels given = above (map (level_at levels) given)

-- one level for each box: 0 where it is given none, else one more than the greatest of its given boxes
pub record AreLevels (boxes : List BoxInfo) (levels : List ℕ) : Type 0 where
  pub count : length levels ≡ length boxes
  pub each : (box : ℕ) → box < length boxes → level_at levels box ≡ level_above levels (given_of boxes box)

-- the levels that boxes have above levels
abbrev pub next_levels : List BoxInfo → List ℕ → List ℕ
next_levels boxes levels = map (λ (b : BoxInfo). level_above levels b.given) boxes

-- a box with this level
abbrev pub levelled_at : BoxInfo → ℕ → BoxInfo
levelled_at b level = record b { level = level }

-- boxes with these levels
abbrev pub set_levels : List BoxInfo → List ℕ → List BoxInfo
set_levels [] levels = []
set_levels (b ∷ bs) [] = []
set_levels (b ∷ bs) (n ∷ ns) = levelled_at b n ∷ set_levels bs ns
