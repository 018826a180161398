-- How an engine is made.
use Rattle.std.specs.Prelude.{◌≡◌, ℕ, List, [], Some, slice_get, false}
use Rattle.atomic_table.specs.Seated.{TableId}
use Rattle.seuss_program.specs.declared.state.Value.{Value}
use Rattle.seuss_program.specs.declared.state.State.{State}
use Rattle.seuss_program.specs.Programs.{vars_of}
use Rattle.compat_scheduler.specs.Settings.{Setting}
use Rattle.compat_scheduler.specs.Machines.{beginning}
use Rattle.loose_records.specs.Settings.{RunSetting}
use Rattle.box_lock.specs.Cells as B
use Rattle.round_ledger.specs.Cells as S
use Rattle.pass_seats.specs.declared.pass.Place.{Place}
use Rattle.pass_seats.specs.Names.{Names, table_at}
use Rattle.pass_seats.specs.Desks.{BoxDeskState}
use Rattle.pass_seats.specs.Seats.{IsPlace, SeatState}

-- the tables of an engine, made ahead of its name, and the ledger of its finishes with its parts
pub record BlankState : Type 0 where
  pub boxes : List TableId
  pub sched : TableId
  pub quit : TableId
  pub ledger : ℕ
  pub parts : ℕ

-- the names of an engine over these tables
abbrev pub names_of : BlankState → ℕ → RunSetting → State → Names
names_of blank seats setting first = record {
  boxes = blank.boxes;
  sched = blank.sched;
  quit = blank.quit;
  seats = seats;
  setting = setting;
  first = first;
}

-- a box at its beginning, at which so many seats have their places
abbrev pub fresh_cell : TableId → ℕ → List Value → ℕ → B.CellState
fresh_cell name number vars makers = record {
  number = number;
  vars = vars;
  journal = record { log = []; makers = makers; name = name };
  broken = false;
}

-- the scheduler at its beginning, at which so many seats have their notes
abbrev pub fresh_sched : TableId → Setting → ℕ → S.CellState
fresh_sched name setting seats = record {
  setting = setting;
  machine = beginning setting;
  journal = record { log = []; makers = seats; name = name };
  seats = seats;
  broken = false;
}

-- places of a seat that has seen nothing
abbrev pub ArePlaces : Names → ℕ → List Place → Type 0
ArePlaces names seat places = (b : ℕ) (p : Place) → slice_get places b ≡ Some p →
    IsPlace names seat b p × (p.note.seen ≡ [])

-- the number of a seat that is being made, and how many places it has so far
pub record PlacesState : Type 0 where
  pub number : ℕ
  pub many : ℕ

-- a seat that has seen nothing and was given no pass
pub record IsFresh (number : ℕ) (s : SeatState) : Type 0 where
  pub number_is : s.number ≡ number
  pub whole : s.torn ≡ false
  pub nothing : s.note.seen ≡ []
  pub none : s.passes ≡ []

-- the places of seats by their numbers, at so many boxes each
pub record ArePlacesOf (many : ℕ) (places : List PlacesState) : Type 0 where
  pub each : (w : ℕ) (p : PlacesState) → slice_get places w ≡ Some p → (p.number ≡ w) × (p.many ≡ many)

-- the desk of a box at its beginning
pub record IsNewBox (names : Names) (b : ℕ) (d : BoxDeskState) : Type 0 where
  pub cell : d.cell ≡ fresh_cell (table_at names b) b (vars_of names.first b) names.seats

-- the desks of boxes by their numbers, at their beginning
pub record AreNewBoxes (names : Names) (desks : List BoxDeskState) : Type 0 where
  pub each : (b : ℕ) (d : BoxDeskState) → slice_get desks b ≡ Some d → IsNewBox names b d

-- seats by their numbers, which have seen nothing and were given no pass
pub record AreNewSeats (seats : List SeatState) : Type 0 where
  pub each : (w : ℕ) (s : SeatState) → slice_get seats w ≡ Some s → IsFresh w s

-- the names of an engine over these tables, with so many seats and this first state, whatever it is set up
-- with
abbrev pub AreNamesOf : Names → BlankState → ℕ → State → Type 0
AreNamesOf names blank seats first = names ≡ names_of blank seats names.setting first
