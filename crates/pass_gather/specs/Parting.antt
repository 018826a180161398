-- Seats and desks that are taken apart.
use Rattle.std.specs.Prelude.{◌≡◌, ℕ, List, [], ◌∷◌, ◌++◌, length, map, Some, slice_get}
use Rattle.std.specs.declared.sync.ledger.Share.{Share as Part}
use Rattle.quit_word.specs.Seats as Q
use Rattle.box_lock.specs.Cells.{CellState}
use Rattle.pass_seats.specs.declared.pass.Place.{Place}
use Rattle.pass_seats.specs.Desks.{BoxDeskState}
use Rattle.pass_seats.specs.Seats.{SeatState}
use Rattle.pass_gather.specs.declared.parting.OpenBox.{OpenBox}
use Rattle.pass_gather.specs.declared.parting.SeatsApart.{SeatsApart}
use Rattle.pass_gather.specs.Given.{given_of, seat_note, seat_share}

-- the view of the quit word at a desk
abbrev pub view_of : BoxDeskState → Q.ViewState
view_of d = d.quit

-- the view of a seat
abbrev pub seat_view : SeatState → Q.SeatState
seat_view s = s.quit

-- how many parts of the ledger a seat has, and how much they count
abbrev pub seat_parts : SeatState → ℕ
seat_parts s = s.parts

abbrev pub seat_amount : SeatState → ℕ
seat_amount s = s.amount

-- the same of a part by itself
abbrev pub parts_in : {N : Type 0} → Part N → ℕ
parts_in part = part.parts

abbrev pub amount_in : {N : Type 0} → Part N → ℕ
amount_in part = part.amount

-- the cell of a box that is to be closed
abbrev pub open_cell : {N : Type 0} → OpenBox N → CellState
open_cell o = o.cell

-- a box with one place more, at the end of its column
abbrev pub with_place : {N : Type 0} → OpenBox N → Place → OpenBox N
with_place o p = record o { column = o.column ++ p ∷ [] }

-- the first elements of a list, each changed by the next of another list
abbrev pub each_with : {A B : Type 0} → (A → B → A) → List A → List B → List A
each_with f xs [] = xs
each_with f [] (y ∷ ys) = []
each_with f (x ∷ xs) (y ∷ ys) = f x y ∷ each_with f xs ys

-- each of the first boxes with the next of these places
abbrev pub with_row : {N : Type 0} → List (OpenBox N) → List Place → List (OpenBox N)
with_row boxes row = each_with with_place boxes row

-- the column of the box with this number has the place of each seat there
pub record IsColumn (seats : List SeatState) (b : ℕ) (column : List Place) : Type 0 where
  pub many : length column ≡ length seats
  pub each : (w : ℕ) (s : SeatState) (p : Place) → slice_get seats w ≡ Some s → slice_get s.places b ≡ Some p →
      slice_get column w ≡ Some p

-- each box has the column of these seats
pub record HaveColumns {N : Type 0} (seats : List SeatState) (boxes : List (OpenBox N)) : Type 0 where
  pub each : (b : ℕ) (o : OpenBox N) → slice_get boxes b ≡ Some o → IsColumn seats b o.column

-- The parts of these seats, seat by seat, and their places in the columns of the boxes with these cells.
pub record AreApart {N : Type 0} (cells : List CellState) (seats : List SeatState) (made : SeatsApart N) : Type 0
  where
    pub cells_are : map open_cell made.boxes.items ≡ cells
    pub columns : HaveColumns seats made.boxes.items
    pub notes : made.notes ≡ map seat_note seats
    pub shares : made.shares ≡ map seat_share seats
    pub views : made.views.items ≡ map seat_view seats
    pub parts : map parts_in made.parts.items ≡ map seat_parts seats
    pub amounts : map amount_in made.parts.items ≡ map seat_amount seats
    pub passes : made.passes.items ≡ given_of seats
