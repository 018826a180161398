use Rattle.std.proofs.Common.{◌≡◌, ℕ, ◌<◌, ◌==◌, All, count_by, subst}
use Rattle.step_journal.specs.Histories.{IsNoteOf}
use Rattle.step_journal.specs.Journals.{NoteState}
use Rattle.loose_records.specs.declared.record.BoxEntry.{BoxEntry}
use Rattle.box_lock.specs.Cells.{CellState}
use Rattle.box_lock.proofs.box_cell.BoxCell.close.Goals as goal

pub returns-clause-notes : goal.returns-clause-notes
returns-clause-notes g c =
    subst (λ (v : CellState).
    All (λ (n : NoteState BoxEntry). IsNoteOf v.journal.log n.maker n.seen) c.args.notes)
    c.self.view_is c.close.ensures.notes

pub returns-clause-each_once : goal.returns-clause-each_once
returns-clause-each_once g c =
    subst (λ (v : CellState). (m : ℕ) → m < v.journal.makers →
    count_by (λ (n : NoteState BoxEntry). n.maker == m) c.args.notes ≡ 1)
    c.self.view_is c.close.ensures.each_once
