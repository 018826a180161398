-- What contracts see of the scheduler with its journal, and what each call does.
use Rattle.std.specs.Prelude.{◌≡◌, ◌≢◌, ℕ, ◌+◌, ◌<◌, ◌^◌, ◌⊎◌, Bool, true, false, List, [], ◌∷◌, ◌++◌, All}
use Rattle.std.specs.Prelude.{length, map, max, Contains}
use Rattle.seuss_base.specs.declared.outcome.PassEnd.{PassEnd}
use Rattle.compat_scheduler.specs.declared.ticket.Ticket.{Ticket}
use Rattle.compat_scheduler.specs.declared.ticket.FinishVerdict.{FinishVerdict}
use Rattle.compat_scheduler.specs.Settings.{Setting}
use Rattle.compat_scheduler.specs.Machines.{Machine, IsRunning, IsAllDone, running_count}
use Rattle.compat_scheduler.specs.Starts.{IsNext}
use Rattle.compat_scheduler.specs.Finishes.{Finishes}
use Rattle.compat_scheduler.specs.Runs.{Event, IsRun}
use Rattle.step_journal.specs.declared.receipt.Receipt.{Receipt}
use Rattle.step_journal.specs.declared.refusal.CellRefusal as R
use Rattle.step_journal.specs.declared.refusal.CellRefusal.TheVariants as C
use Rattle.step_journal.specs.Histories.{Log, entries_of, own_entries, IsNoteOf}
use Rattle.step_journal.specs.Journals.{JournalState, NoteState, ShareState}
use Rattle.loose_records.specs.declared.record.SchedEntry.{SchedEntry}
use Rattle.loose_records.specs.declared.record.SchedEntry.TheVariants.{Start, Finish}
use Rattle.loose_records.specs.Entries.{event_of, stamp_of, AreStamps}
use Rattle.loose_records.specs.Turns.{clock_of}
use Rattle.round_ledger.specs.declared.standing.Standing as S
use Rattle.round_ledger.specs.declared.standing.Standing.TheVariants as V

-- the machine with its setting, the journal, how many workers were seated, and whether the cell is
-- broken
pub record CellState : Type 0 where
  pub setting : Setting
  pub machine : Machine
  pub journal : JournalState SchedEntry
  pub seats : ℕ
  pub broken : Bool

-- what the entries of the journal did to the machine
abbrev pub log_events : Log SchedEntry → List Event
log_events log = map event_of (entries_of log)

-- the stamps of the journal
abbrev pub log_stamps : Log SchedEntry → List ℕ
log_stamps log = map stamp_of (entries_of log)

-- workers make the starts; the finish of a pass is made by the maker whose number is that of the
-- pass, counted after all workers
abbrev pub IsOwned : ℕ → ℕ × SchedEntry → Type 0
IsOwned seats (maker, Start ticket stamp) = maker < seats
IsOwned seats (maker, Finish ticket end verdict stamp) = maker ≡ seats + ticket.pass

-- a ticket that was started runs, or its maker has made an entry
abbrev pub IsOpenOrOver : Setting → Machine → ℕ → Log SchedEntry → SchedEntry → Type 0
IsOpenOrOver s m seats log (Start ticket stamp) =
    IsRunning s m ticket ⊎ (own_entries (seats + ticket.pass) log ≢ [])
IsOpenOrOver s m seats log (Finish ticket end verdict stamp) = Unit {0}

-- The machine is the replay of the journal, whose stamps rise, and the cell's clock is the last of
-- them. It is told who made which entry. Each started ticket runs until its own maker has made an
-- entry. In a cell that isn't broken each start gave one maker.
pub record IsCell (clock : ℕ) (c : CellState) : Type 0 where
  pub run : IsRun c.setting (log_events c.journal.log) c.machine
  pub stamps : AreStamps (log_stamps c.journal.log)
  pub clock_is : clock ≡ clock_of (log_stamps c.journal.log)
  pub fits : clock < 2 ^ 63
  pub owners : All (IsOwned c.seats) c.journal.log
  pub tickets : All (λ p. IsOpenOrOver c.setting c.machine c.seats c.journal.log p.1) c.journal.log
  pub makers : c.broken ≡ false → c.journal.makers ≡ c.seats + c.machine.starts

-- the list has the start of this ticket
abbrev pub HasStart : Log SchedEntry → Ticket → Type 0
HasStart log ticket = (stamp : ℕ) × Contains (entries_of log) (Start ticket stamp)

-- the note that was given with this ticket
pub record IsTicketNote (seats : ℕ) (ticket : Ticket) (note : NoteState SchedEntry) : Type 0 where
  pub maker : note.maker ≡ seats + ticket.pass
  pub started : HasStart note.seen ticket

-- the note that is given with a ticket: its maker's number is that of the pass, counted after all
-- workers, and it has seen all
abbrev pub ticket_note : CellState → Ticket → NoteState SchedEntry
ticket_note cell ticket = record {
  maker = cell.seats + ticket.pass;
  seen = cell.journal.log;
  journal = cell.journal.name;
}

-- the share that is given with a ticket, which counts none
abbrev pub ticket_share : CellState → Ticket → ShareState
ticket_share cell ticket = record { maker = cell.seats + ticket.pass; count = 0 }

-- the note has then seen all, and what it had seen was a beginning with all entries of its maker
pub record Sees (log : Log SchedEntry) (note after : NoteState SchedEntry) : Type 0 where
  pub before : IsNoteOf log note.maker note.seen
  pub seen : after ≡ record note { seen = log }

-- the stamp of an entry that is made with this clock: the one after both clocks
abbrev pub next_stamp : ℕ → Log SchedEntry → ℕ
next_stamp clock log = 1 + max clock (clock_of (log_stamps log))

-- one entry more at the end, made by the note, with the stamp after both clocks
pub record Adds (old : CellState) (entry : SchedEntry) (note : NoteState SchedEntry) (clock : ℕ)
    (receipt : Receipt) (new : CellState) (after : NoteState SchedEntry) (now : ℕ) : Type 0 where
  pub whole : old.broken ≡ false
  pub stamp : now ≡ next_stamp clock old.journal.log
  pub fits : now < 2 ^ 63
  pub entry_stamp : stamp_of entry ≡ now
  pub receipt_is : receipt ≡ record { place = length old.journal.log; stamp = now }
  pub log : new.journal.log ≡ old.journal.log ++ (note.maker, entry) ∷ []
  pub name : new.journal.name ≡ old.journal.name
  pub setting : new.setting ≡ old.setting
  pub seats : new.seats ≡ old.seats
  pub working : new.broken ≡ false
  pub before : IsNoteOf old.journal.log note.maker note.seen
  pub seen : after ≡ record note { seen = new.journal.log }

-- the machine finishes the pass with this verdict, and the entry says so
pub record Ended (old : CellState) (ticket : Ticket) (end : PassEnd) (note : NoteState SchedEntry)
    (clock : ℕ) (verdict : FinishVerdict) (receipt : Receipt) (new : CellState)
    (after : NoteState SchedEntry) (now : ℕ) : Type 0 where
  pub finishes : Finishes old.setting old.machine ticket end verdict new.machine
  pub adds : Adds old (Finish ticket end verdict now) note clock receipt new after now

-- the call changed nothing
pub record IsSame (old new : CellState) (share counted : ShareState) (clock now : ℕ) : Type 0 where
  pub cell : new ≡ old
  pub share_is : counted ≡ share
  pub clock_is : now ≡ clock

-- the cell is broken, and but for that and the count of makers it is as before
pub record Breaks (old new : CellState) (share counted : ShareState) (clock now : ℕ) : Type 0 where
  pub working : old.broken ≡ false
  pub broken : new.broken ≡ true
  pub setting : new.setting ≡ old.setting
  pub machine : new.machine ≡ old.machine
  pub log : new.journal.log ≡ old.journal.log
  pub name : new.journal.name ≡ old.journal.name
  pub seats : new.seats ≡ old.seats
  pub share_is : counted ≡ share
  pub clock_is : now ≡ clock

-- Why a call was refused, and what then holds. Want of memory breaks the cell. Worn comes where the
-- stamp would be 2^63, and Broken in a cell that was broken before: these change nothing but what the
-- note has seen.
abbrev pub Refused : CellState → NoteState SchedEntry → ShareState → ℕ → CellState → NoteState SchedEntry →
    ShareState → ℕ → R.CellRefusal → Type 0
Refused old note share clock new after counted now C.Memory =
    Breaks old new share counted clock now × Sees old.journal.log note after
Refused old note share clock new after counted now (C.Worn stamp) =
    (old.broken ≡ false) × (stamp ≡ 2 ^ 63) × (stamp ≡ next_stamp clock old.journal.log)
    × IsSame old new share counted clock now × Sees old.journal.log note after
Refused old note share clock new after counted now C.Broken =
    (old.broken ≡ true) × (after ≡ note) × IsSame old new share counted clock now

-- a start that was refused for memory or for its stamp would have been made
abbrev pub WouldStart : CellState → R.CellRefusal → Type 0
WouldStart old C.Memory = (ticket : Ticket) × IsNext old.setting old.machine ticket
WouldStart old (C.Worn stamp) = (ticket : Ticket) × IsNext old.setting old.machine ticket
WouldStart old C.Broken = Unit {0}

-- a run has ended where all rounds are done, or the machine has stopped and nothing runs
abbrev pub HasEnded : Setting → Machine → Type 0
HasEnded s m = IsAllDone s m ⊎ ((m.stopped ≡ true) × (running_count m ≡ 0))

-- what an answer says of the machine
abbrev pub StandsAs : Setting → Machine → S.Standing → Type 0
StandsAs s m V.Ended = HasEnded s m
StandsAs s m V.Going = ¬ HasEnded s m
