-- What the desks keep: a cell with a view of the quit word, at which whoever holds the desk looks.
use Rattle.std.specs.Prelude.{◌≡◌, ℕ, true, [], Option, Some, sum_by}
use Rattle.quit_word.specs.Seats.{FirstState, ViewState}
use Rattle.box_lock.specs.Cells as B
use Rattle.round_ledger.specs.Cells as S
use Rattle.step_journal.specs.Histories.{Log}
use Rattle.loose_records.specs.declared.record.SchedEntry.{SchedEntry}
use Rattle.loose_records.specs.declared.record.SchedEntry.TheVariants.{Start, Finish}
use Rattle.pass_seats.specs.Names.{Names, table_at}

-- the cell of a box, and a view of the quit word
pub record BoxDeskState : Type 0 where
  pub cell : B.CellState
  pub quit : ViewState

-- the scheduler's cell, a view of the quit word, the first view, and how many passes the book counts
pub record SchedDeskState : Type 0 where
  pub cell : S.CellState
  pub quit : ViewState
  pub first : FirstState
  pub total : ℕ

-- somebody was seen to give up
abbrev pub HasSeen : Option ℕ → Type 0
HasSeen seen = (s : ℕ) × (seen ≡ Some s)

-- The cell of a box of the engine, at which all seats have their places. Where it is broken, the view beside it
-- has seen who gave up.
pub record IsBoxDesk (names : Names) (d : BoxDeskState) : Type 0 where
  pub journal : d.cell.journal.name ≡ table_at names d.cell.number
  pub makers : d.cell.journal.makers ≡ names.seats
  pub quit : d.quit.name ≡ names.quit
  pub broken : d.cell.broken ≡ true → HasSeen d.quit.seen

-- an entry counts where it is a finish
abbrev pub finish_of : ℕ × SchedEntry → ℕ
finish_of (maker, Start ticket stamp) = 0
finish_of (maker, Finish ticket end verdict stamp) = 1

-- how many passes have finished
abbrev pub finishes_in : Log SchedEntry → ℕ
finishes_in log = sum_by finish_of log

-- The cell of the engine's scheduler, whose finishes the book counts. Where it is broken, the view beside it has
-- seen who gave up. The first view has given each seat its number.
pub record IsSchedDesk (names : Names) (d : SchedDeskState) : Type 0 where
  pub journal : d.cell.journal.name ≡ names.sched
  pub setting : d.cell.setting ≡ names.setting.scheduler
  pub seats : d.cell.seats ≡ names.seats
  pub quit : d.quit.name ≡ names.quit
  pub first : (d.first.name ≡ names.quit) × (d.first.given ≡ names.seats) × (d.first.held ≡ [])
  pub broken : d.cell.broken ≡ true → HasSeen d.quit.seen
  pub counted : d.total ≡ finishes_in d.cell.journal.log
