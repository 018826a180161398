-- What a scheduler is set up with.
use Rattle.std.specs.Prelude.{ℕ, List, length, slice_index_or}
use Rattle.std.specs.List.{range_with_len}
use Rattle.seuss_base.specs.Tables.{Table, level_at}
use Rattle.seuss_base.specs.declared.level.Level.{Level}

-- the levels of the actions, the action of each slot of a round, and how many rounds there are
pub record Setting : Type 0 where
  pub levels : Table
  pub actions : List ℕ
  pub rounds : ℕ

-- how far one action is safe beside another
abbrev pub level : Setting → ℕ → ℕ → Level
level s a b = level_at s.levels a b

-- how many slots a round has: one for each attempt of an action
abbrev pub copies : Setting → ℕ
copies s = length s.actions

-- the action of a slot, which are numbered from 0
abbrev pub action_of : Setting → ℕ → ℕ
action_of s i = slice_index_or s.actions i 0

-- how far the action of slot i is safe beside that of slot j
abbrev pub beside : Setting → ℕ → ℕ → Level
beside s i j = level s (action_of s i) (action_of s j)

-- one slot for each action, in the order of their numbers
abbrev pub one_slot_each : Table → ℕ → ℕ → Setting
one_slot_each levels actions rounds = record {
  levels = levels;
  actions = range_with_len 0 actions;
  rounds = rounds;
}
