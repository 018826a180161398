-- What contracts see of a box with its journal, and what a step of it does.
use Rattle.std.specs.Prelude.{◌≡◌, ℕ, ◌+◌, ◌<◌, ◌^◌, Bool, true, false, List, [], ◌∷◌, ◌++◌, length, map}
use Rattle.std.specs.Prelude.{max}
use Rattle.seuss_program.specs.declared.state.Value.{Value}
use Rattle.method_code.specs.declared.method.Method.{Method}
use Rattle.method_code.specs.declared.frame.Frame.{Frame}
use Rattle.method_code.specs.declared.frame.End.{End}
use Rattle.step_journal.specs.declared.receipt.Receipt.{Receipt}
use Rattle.step_journal.specs.declared.refusal.CellRefusal as R
use Rattle.step_journal.specs.declared.refusal.CellRefusal.TheVariants as C
use Rattle.step_journal.specs.Histories.{Log, entries_of, IsNoteOf, IsLegal}
use Rattle.step_journal.specs.Journals.{JournalState, NoteState, ShareState}
use Rattle.loose_records.specs.declared.record.BoxEntry.{BoxEntry}
use Rattle.loose_records.specs.Entries.{gives, AreStamps}
use Rattle.loose_records.specs.Turns.{clock_of}

-- the box's number, its variables, its journal, and whether the cell is broken
pub record CellState : Type 0 where
  pub number : ℕ
  pub vars : List Value
  pub journal : JournalState BoxEntry
  pub broken : Bool

-- the stamps of the journal
abbrev pub log_stamps : Log BoxEntry → List ℕ
log_stamps log = map (λ (e : BoxEntry). e.stamp) (entries_of log)

-- a legal history of the box with this number, from its first variables to these
abbrev pub IsHistory : List Method → ℕ → List Value → Log BoxEntry → List Value → Type 0
IsHistory code box first log vars = IsLegal (gives code box) first (entries_of log) vars

-- In a cell that isn't broken the variables are the replay of the journal. Its stamps rise, and the
-- cell's clock is the last of them.
pub record IsCell (code : List Method) (first : ℕ → List Value) (clock : ℕ) (c : CellState) : Type 0 where
  pub replay : c.broken ≡ false → IsHistory code c.number (first c.number) c.journal.log c.vars
  pub stamps : AreStamps (log_stamps c.journal.log)
  pub clock_is : clock ≡ clock_of (log_stamps c.journal.log)
  pub fits : clock < 2 ^ 63

-- the entry of a step: the numbers of its pass and in its pass, the frame and the budget before and
-- after, its end and its stamp
abbrev pub entry_with : ℕ → ℕ → Frame → ℕ → Frame → ℕ → End → ℕ → BoxEntry
entry_with pass number before budget after left end stamp = record {
  pass = pass;
  number = number;
  before = before;
  budget_before = budget;
  after = after;
  budget_after = left;
  end = end;
  stamp = stamp;
}

-- the note has then seen all, and what it had seen was a beginning with all entries of its maker
pub record Sees (log : Log BoxEntry) (note after : NoteState BoxEntry) : Type 0 where
  pub before : IsNoteOf log note.maker note.seen
  pub seen : after ≡ record note { seen = log }

-- the stamp of an entry that is made with this clock: the one after both clocks
abbrev pub next_stamp : ℕ → Log BoxEntry → ℕ
next_stamp clock log = 1 + max clock (clock_of (log_stamps log))

-- A step is made on the whole history: what the note had seen is its beginning, the step is as the
-- entry says, on the variables after all entries before it, and the entry is the last one, which is
-- the note's own.
pub record Stepped (code : List Method) (first : ℕ → List Value) (old : CellState)
    (note : NoteState BoxEntry) (clock : ℕ) (entry : BoxEntry) (receipt : Receipt) (new : CellState)
    (after : NoteState BoxEntry) (now : ℕ) : Type 0 where
  pub whole : old.broken ≡ false
  pub working : new.broken ≡ false
  pub stamp : now ≡ next_stamp clock old.journal.log
  pub fits : now < 2 ^ 63
  pub receipt_is : receipt ≡ record { place = length old.journal.log; stamp = now }
  pub before : IsNoteOf old.journal.log note.maker note.seen
  pub history : IsHistory code old.number (first old.number) old.journal.log old.vars
  pub step : gives code old.number entry old.vars new.vars
  pub journal : new.journal ≡ record old.journal { log = old.journal.log ++ (note.maker, entry) ∷ [] }
  pub number : new.number ≡ old.number
  pub seen : after ≡ record note { seen = new.journal.log }

-- what a pass has in hand: its frame and its budget
pub record Held : Type 0 where
  pub frame : Frame
  pub budget : ℕ

-- a frame and a budget as what a pass has in hand
abbrev pub held : Frame → ℕ → Held
held frame budget = record { frame = frame; budget = budget }

-- the call changed nothing but what the note has seen
pub record IsSame (old new : CellState) (share counted : ShareState) (clock now : ℕ) (hand left : Held)
    : Type 0 where
  pub cell : new ≡ old
  pub share_is : counted ≡ share
  pub clock_is : now ≡ clock
  pub hand_is : left ≡ hand

-- the cell is broken, and its number and journal, the share and the clock are as before
pub record Breaks (old new : CellState) (share counted : ShareState) (clock now : ℕ) : Type 0 where
  pub working : old.broken ≡ false
  pub broken : new.broken ≡ true
  pub number : new.number ≡ old.number
  pub journal : new.journal ≡ old.journal
  pub share_is : counted ≡ share
  pub clock_is : now ≡ clock

-- Why a step was refused, and what then holds. Want of memory breaks the cell, and the frame, the
-- budget and the variables are to be dropped. Worn comes where the stamp would be 2^63, and Broken in
-- a cell that was broken before: these change nothing but what the note has seen.
abbrev pub Refused : CellState → NoteState BoxEntry → ShareState → ℕ → Held → CellState →
    NoteState BoxEntry → ShareState → ℕ → Held → R.CellRefusal → Type 0
Refused old note share clock hand new after counted now left C.Memory =
    Breaks old new share counted clock now × Sees old.journal.log note after
Refused old note share clock hand new after counted now left (C.Worn stamp) =
    (old.broken ≡ false) × (stamp ≡ 2 ^ 63) × (stamp ≡ next_stamp clock old.journal.log)
    × IsSame old new share counted clock now hand left × Sees old.journal.log note after
Refused old note share clock hand new after counted now left C.Broken =
    (old.broken ≡ true) × (after ≡ note) × IsSame old new share counted clock now hand left
