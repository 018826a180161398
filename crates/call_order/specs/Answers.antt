-- What is answered on a text whose names are known: its program, or why it has none.
use Rattle.std.specs.Prelude.{◌≡◌, ℕ, List, [], slice_get, Option, Some, option_map, Result, Ok, Err}
use Rattle.seuss_program.specs.declared.tree.Tree.{Tree}
use Rattle.seuss_program.specs.declared.program.BoxInfo.{BoxInfo}
use Rattle.seuss_program.specs.declared.program.Program.{Program}
use Rattle.box_types.specs.Answers.{BeginsWith}
use Rattle.box_types.specs.Namings.{named}
use Rattle.call_order.specs.Calls.{partial_calls, total_calls}
use Rattle.call_order.specs.Cycles.{IsFirstCyclic, HasNoCycle}
use Rattle.call_order.specs.Levels.{IsLevelled}
use Rattle.call_order.specs.declared.refusal.OrderRefusal.{OrderRefusal}
use Rattle.call_order.specs.declared.refusal.OrderRefusal.TheVariants as R

-- the line on which a box is declared
abbrev pub line_of : List BoxInfo → ℕ → Option ℕ
line_of boxes box = option_map (λ (b : BoxInfo). b.name.line) (slice_get boxes box)

-- no box is in a cycle, or this is the first that is, and stands on this line; want of memory is free
abbrev pub Levels : Result Program OrderRefusal → Program → Type 0
Levels (Ok p) named = HasNoCycle named.boxes × IsLevelled named p
Levels (Err (R.Cycle line first)) named = IsFirstCyclic named.boxes first
    × (line_of named.boxes first ≡ Some line)
Levels (Err (R.PartialCall line)) named = ⊥
Levels (Err (R.TotalCall line)) named = ⊥
Levels (Err R.Memory) named = Unit {0}

-- Every check passes, and this is the program, in which each level is 0 where its box is given none, else
-- one more than the greatest of its given boxes.
pub record IsOrdered (p : Program) (tree : Tree) : Type 0 where
  pub partial_calls : partial_calls tree ≡ []
  pub total_calls : total_calls tree ≡ []
  pub cycles : HasNoCycle (named tree).boxes
  pub levels : IsLevelled (named tree) p

-- the first box that is given to itself is declared on this line
abbrev pub IsCycleAt : Tree → ℕ → ℕ → Type 0
IsCycleAt tree line box = IsFirstCyclic (named tree).boxes box × (line_of (named tree).boxes box ≡ Some line)

-- the first box that is given to itself and its line, where every call is right
pub record IsInCycle (tree : Tree) (line box : ℕ) : Type 0 where
  pub partial_calls : partial_calls tree ≡ []
  pub total_calls : total_calls tree ≡ []
  pub cycle : IsCycleAt tree line box

-- the program where every check passes, or else the first check that fails, at its first place; want of
-- memory is free
abbrev pub Orders : Result Program OrderRefusal → Tree → Type 0
Orders (Ok p) tree = IsOrdered p tree
Orders (Err (R.PartialCall line)) tree = BeginsWith (partial_calls tree) line
Orders (Err (R.TotalCall line)) tree = (partial_calls tree ≡ []) × BeginsWith (total_calls tree) line
Orders (Err (R.Cycle line first)) tree = IsInCycle tree line first
Orders (Err R.Memory) tree = Unit {0}
