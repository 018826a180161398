-- What contracts see of a queue's seats.
use Rattle.std.specs.Prelude.{ℕ, List, []}
use Rattle.atomic_blocks.specs.Laid.{WebId}
use Rattle.ready_queue.specs.declared.view.Row.{Row}
use Rattle.ready_queue.specs.declared.view.View.{View}
use Rattle.ready_queue.specs.declared.view.View.TheVariants.{Spent, Seated, First}
use Rattle.ready_queue.specs.Rules.{new_row}

-- of which queue it is a seat, and its row
pub record SeatState : Type 0 where
  pub queue : WebId
  pub row : Row

-- of which queue it is the first view, the rows that were joined into it, and how many numbers it gave
pub record FirstState : Type 0 where
  pub queue : WebId
  pub rows : List Row
  pub given : ℕ

-- the row of a seat's view
abbrev pub row_of : View → Row
row_of Spent = new_row 0
row_of (Seated row) = row
row_of (First rows given) = new_row 0

-- the rows that were joined into the first view
abbrev pub joined_in : View → List Row
joined_in Spent = []
joined_in (Seated row) = []
joined_in (First rows given) = rows

-- how many numbers the first view gave
abbrev pub given_in : View → ℕ
given_in Spent = 0
given_in (Seated row) = 0
given_in (First rows given) = given
