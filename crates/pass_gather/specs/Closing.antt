-- What the closes of an engine's journals promise.
use Rattle.std.specs.Prelude.{◌≡◌, ℕ, ◌+◌, ◌<◌, ◌==◌, false, List, All, Contains, count_by, length, Some, slice_get}
use Rattle.seuss_program.specs.declared.state.State.{State}
use Rattle.seuss_program.specs.declared.state.Value.{Value}
use Rattle.seuss_program.specs.Programs.{vars_of}
use Rattle.method_code.specs.declared.method.Method.{Method}
use Rattle.compat_scheduler.specs.Runs.{IsRun}
use Rattle.step_journal.specs.Histories.{Log, IsNoteOf}
use Rattle.step_journal.specs.Journals.{NoteState, ShareState, IsPair}
use Rattle.loose_records.specs.declared.record.BoxEntry.{BoxEntry}
use Rattle.loose_records.specs.declared.record.SchedEntry.{SchedEntry}
use Rattle.loose_records.specs.Entries.{AreStamps}
use Rattle.box_lock.specs.Cells as B
use Rattle.round_ledger.specs.Cells as S
use Rattle.pass_seats.specs.declared.pass.Place.{Place}
use Rattle.pass_seats.specs.Names.{Names, table_at}
use Rattle.pass_gather.specs.declared.parting.OpenBox.{OpenBox}

-- the note of a place, and its share
abbrev pub note_of : Place → NoteState BoxEntry
note_of p = p.note

abbrev pub share_of : Place → ShareState
share_of p = p.share

-- the cell of a box at which all seats have their places, and which isn't broken
pub record IsOpenCell (names : Names) (c : B.CellState) : Type 0 where
  pub journal : c.journal.name ≡ table_at names c.number
  pub makers : c.journal.makers ≡ names.seats
  pub whole : c.broken ≡ false

-- a place at the box with this number
pub record IsPlaceAt (names : Names) (b : ℕ) (p : Place) : Type 0 where
  pub journal : p.note.journal ≡ table_at names b
  pub pair : IsPair p.note p.share

-- a box that can be closed: its column has a place for each seat
pub record IsReady {N : Type 0} (names : Names) (o : OpenBox N) : Type 0 where
  pub cell : IsOpenCell names o.cell
  pub many : length o.column ≡ names.seats
  pub places : All (IsPlaceAt names o.cell.number) o.column

-- the cell of the scheduler of the engine, which isn't broken
pub record IsOpenSched (names : Names) (c : S.CellState) : Type 0 where
  pub journal : c.journal.name ≡ names.sched
  pub setting : c.setting ≡ names.setting.scheduler
  pub seats : c.seats ≡ names.seats
  pub whole : c.broken ≡ false

-- What the close of a box promises, with a column of places of so many seats: its journal is a legal
-- history from its first variables to these, whose stamps rise, and of which each place has seen a
-- beginning with all its own entries.
pub record ClosesBox (code : List Method) (b : ℕ) (first : List Value) (seats : ℕ) (log : Log BoxEntry)
    (column : List Place) (vars : List Value) : Type 0 where
  pub history : B.IsHistory code b first log vars
  pub stamps : AreStamps (B.log_stamps log)
  pub makers : All (λ p. p.0 < seats) log
  pub notes : All (λ (p : Place). IsNoteOf log p.note.maker p.note.seen) column

-- the box was closed with its column
pub record IsClosed {N : Type 0} (names : Names) (code : List Method) (first : ℕ → List Value) (o : OpenBox N)
    : Type 0 where
  pub closes : ClosesBox code o.cell.number (first o.cell.number) names.seats o.cell.journal.log o.column
      o.cell.vars

-- the box with this number was closed with a column that has each row's place there
pub record ClosesAt (names : Names) (code : List Method) (first : ℕ → List Value) (last : State)
    (rows : List (List Place)) (b : ℕ) (log : Log BoxEntry) : Type 0 where
  pub column : List Place
  pub closes : ClosesBox code b (first b) names.seats log column (vars_of last b)
  pub has : (w : ℕ) (row : List Place) (p : Place) → slice_get rows w ≡ Some row → slice_get row b ≡ Some p →
      Contains column p

-- Each box was closed so, and these are their journals. A row has the places of one seat, by the numbers of the
-- boxes.
pub record ClosesAll (names : Names) (code : List Method) (first : ℕ → List Value) (last : State)
    (logs : List (Log BoxEntry)) (rows : List (List Place)) : Type 0 where
  pub many : length logs ≡ length names.boxes
  pub lasts : length last.boxes ≡ length names.boxes
  pub each : (b : ℕ) (log : Log BoxEntry) → slice_get logs b ≡ Some log →
      ClosesAt names code first last rows b log

-- What the close of the scheduler promises, with these notes: its journal is a run, whose stamps rise; it
-- is told who made which entry, and that a started ticket runs or its own maker has made an entry; and each
-- maker has just one of the notes, which has seen a beginning with all entries of its maker.
pub record ClosesSched (names : Names) (cell : S.CellState) (notes : List (NoteState SchedEntry)) : Type 0
  where
    pub run : IsRun names.setting.scheduler (S.log_events cell.journal.log) cell.machine
    pub stamps : AreStamps (S.log_stamps cell.journal.log)
    pub owners : All (S.IsOwned names.seats) cell.journal.log
    pub tickets : All (λ p. S.IsOpenOrOver names.setting.scheduler cell.machine names.seats cell.journal.log
        p.1)
        cell.journal.log
    pub notes_are : All (λ (n : NoteState SchedEntry). IsNoteOf cell.journal.log n.maker n.seen) notes
    pub each_once : (m : ℕ) → m < names.seats + cell.machine.starts →
        count_by (λ (n : NoteState SchedEntry). n.maker == m) notes ≡ 1
