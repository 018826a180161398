-- Turns, with the seats there that have come back.
use Rattle.std.specs.Prelude.{◌≡◌, ℕ, zero, suc, ◌+◌, false, List, [], ◌∷◌, length, Some, slice_get}
use Rattle.atomic_table.specs.Seated.{TableId}
use Rattle.box_turn.specs.Seats as T
use Rattle.pass_seats.specs.Desks.{BoxDeskState}

-- which turn it is, the number of its box, how many seats it has, and how many of them have come back
pub record ColumnState : Type 0 where
  pub name : TableId
  pub number : ℕ
  pub seats : ℕ
  pub back : ℕ

-- a seat of this turn, which it doesn't hold
abbrev pub IsFree : TableId → T.SeatState ℕ → Type 0
IsFree name s = (s.turn ≡ name) × (s.holds ≡ false)

-- a turn of which so many seats have come back
abbrev pub column_of : ℕ → T.TurnState ℕ → ColumnState
column_of back t = record { name = t.name; number = t.names; seats = t.seats; back = back }

-- the turn, of which one seat more has come back
abbrev pub with_back : ColumnState → ColumnState
with_back c = record c { back = c.back + 1 }

-- the turns, of the first of which, so many, one seat more has come back
abbrev pub with_firsts : ℕ → List ColumnState → List ColumnState
with_firsts n [] = []
with_firsts zero (c ∷ columns) = c ∷ columns
with_firsts (suc n) (c ∷ columns) = with_back c ∷ with_firsts n columns

-- a free seat of each of these turns, in their order
pub record IsRow (columns : List ColumnState) (row : List (T.SeatState ℕ)) : Type 0 where
  pub many : length row ≡ length columns
  pub each : (b : ℕ) (c : ColumnState) (t : T.SeatState ℕ) → slice_get columns b ≡ Some c →
      slice_get row b ≡ Some t → IsFree c.name t

-- all seats of the turn have come back
abbrev pub IsFull : ColumnState → Type 0
IsFull c = c.back ≡ c.seats

-- the number of the box of a turn, and of a desk
abbrev pub number_of : ColumnState → ℕ
number_of c = c.number

abbrev pub box_of : BoxDeskState → ℕ
box_of d = d.cell.number
