-- The record that closed journals and listed passes make.
use Rattle.std.proofs.Common.{◌≡◌, List, map}
use Rattle.seuss_program.specs.declared.state.State.{State}
use Rattle.step_journal.specs.Histories.{entries_of}
use Rattle.loose_records.specs.declared.record.BoxEntry.{BoxEntry}
use Rattle.loose_records.specs.declared.record.SchedEntry.{SchedEntry}
use Rattle.loose_records.specs.declared.record.PassRecord.{PassRecord}
use Rattle.loose_records.specs.declared.record.Record.{Record}
use Rattle.box_lock.specs.Cells as B
use Rattle.round_ledger.specs.Cells as S
use Rattle.pass_gather.specs.Gathers.{record_of}
use Rattle.pass_gather.specs.Gathered.{state_in, log_in}

-- a record of these parts is that of the cells
pub record_made : (start : State) (cells : List B.CellState) (cell : S.CellState) (first last : State)
    (journals : List (List BoxEntry)) (entries : List SchedEntry) (passes : List PassRecord) → first ≡ start →
    last ≡ state_in cells → journals ≡ map (entries_of {E = BoxEntry}) (map log_in cells) →
    entries ≡ entries_of cell.journal.log →
    ◌≡◌ {A = Record}
    (record { first = first; last = last; boxes = journals; sched = entries; passes = passes })
    (record_of start (state_in cells) (map log_in cells) cell.journal.log passes)
record_made start cells cell first last journals entries passes first_is last_is journals_are entries_are =
    λ i. record {
      first = first_is i;
      last = last_is i;
      boxes = journals_are i;
      sched = entries_are i;
      passes = passes;
    }
