-- A pass that was started and that no seat has taken yet.
use Rattle.std.specs.Prelude.{◌≡◌, ℕ, ◌+◌, ◌<◌, ◌^◌, Contains, length}
use Rattle.step_journal.specs.Journals.{NoteState, ShareState, IsPair}
use Rattle.compat_scheduler.specs.declared.ticket.Ticket.{Ticket}
use Rattle.loose_records.specs.declared.record.SchedEntry.{SchedEntry}
use Rattle.loose_records.specs.declared.record.SchedEntry.TheVariants.{Start}
use Rattle.pass_seats.specs.Names.{Names}

-- its ticket, the stamp of its start, the number of the seat that started it, and the note that came with it
pub record ItemState : Type 0 where
  pub ticket : Ticket
  pub stamp : ℕ
  pub seat : ℕ
  pub note : NoteState SchedEntry

-- The note and the share came with this ticket, of an action of the program, and have made no entry. The note has
-- seen the start of the ticket, by this seat.
pub record IsStarted (names : Names) (i : ItemState) (share : ShareState) : Type 0 where
  pub action : i.ticket.action < length names.setting.program.actions
  pub journal : i.note.journal ≡ names.sched
  pub maker : i.note.maker ≡ names.seats + i.ticket.pass
  pub pair : IsPair i.note share
  pub unused : share.count ≡ 0
  pub fits : i.stamp < 2 ^ 63
  pub stands : Contains i.note.seen (i.seat, Start i.ticket i.stamp)
