-- What the rule of the ready queue sees of passes and of their starts.
use Rattle.std.specs.Prelude.{ℕ, List, [], ◌∷◌, ◌++◌}
use Rattle.step_journal.specs.Histories.{Log}
use Rattle.loose_records.specs.declared.record.SchedEntry.{SchedEntry}
use Rattle.loose_records.specs.declared.record.SchedEntry.TheVariants.{Start, Finish}
use Rattle.ready_queue.specs.declared.view.Mark.{Mark}
use Rattle.ready_queue.specs.Gathers.{started_by}
use Rattle.pass_seats.specs.declared.pass.SeatPass.{SeatPass}
use Rattle.pass_seats.specs.Items.{ItemState}

-- of a started pass that no seat has taken yet: its ticket, and the seat that started it
abbrev pub mark_of_item : ItemState → Mark
mark_of_item i = record { ticket = i.ticket; seat = i.seat }

-- of a pass that a seat was given: the same
abbrev pub mark_of : SeatPass → Mark
mark_of p = record { ticket = p.ticket; seat = p.by }

-- of an entry by this maker, where it is a start
abbrev pub entry_marks : ℕ → SchedEntry → List Mark
entry_marks maker (Start ticket stamp) = record { ticket = ticket; seat = maker } ∷ []
entry_marks maker (Finish ticket end verdict stamp) = []

-- of all starts of a list, in their order
abbrev pub marks_in : Log SchedEntry → List Mark
marks_in [] = []
marks_in (p ∷ log) = entry_marks p.0 p.1 ++ marks_in log

-- of the starts of a list that this seat has made
abbrev pub own_marks : ℕ → Log SchedEntry → List Mark
own_marks seat log = started_by seat (marks_in log)
