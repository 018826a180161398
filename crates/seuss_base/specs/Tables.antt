-- Tables of levels.
use Rattle.std.specs.Prelude.{◌≡◌, ◌≢◌, ℕ, ◌+◌, ◌*◌, ◌<◌, List, length, slice_index_or, ◌⊎◌}
use Rattle.seuss_base.specs.declared.level.Level.{Level}
use Rattle.seuss_base.specs.declared.level.Level.TheVariants.{Never}

-- a table: as many rows as columns, one row after another
pub record Table : Type 0 where
  pub count : ℕ
  pub levels : List Level

-- the level of row a and column b, which are counted from 0
abbrev pub level_at : Table → ℕ → ℕ → Level
level_at table a b = slice_index_or table.levels (a * table.count + b) Never

-- the new table has this level at the pair, and each other pair keeps its own
pub record Sets (old new : Table) (a b : ℕ) (level : Level) : Type 0 where
  pub count : new.count ≡ old.count
  pub here : level_at new a b ≡ level
  pub others : (i j : ℕ) → i < old.count → j < old.count → (i ≢ a) ⊎ (j ≢ b) →
      level_at new i j ≡ level_at old i j
